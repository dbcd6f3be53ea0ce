-- What a disk tells of its bytes and its moments, and what its calls make of that.
use Rattle.std.specs.Prelude.{◌≡◌, ◌⊎◌, ℕ, ◌+◌, ◌-◌, ◌^◌, ◌<◌, ◌≤◌, min, Option, Some, None, List, [], ◌∷◌, length, slice_index, take, drop, Result, OnOk}
use Rattle.sb_bytes.specs.Bytes.{splice}

-- so many bytes from a place on
pub record Range : Type 0 where
  pub start : ℕ
  pub len : ℕ

-- the bytes that a read gives, and the ranges that were written since the last successful sync, the newest first
pub record Moment : Type 0 where
  pub reads : List ℕ
  pub written : List Range

-- The present moment, and those before it, the newest first. Each write and each sync makes a new one, a failed one too.
pub record Story : Type 0 where
  pub now : Moment
  pub before : List Moment

-- a fact of two stories; a disk that tells none goes on so
abbrev pub WhereTold : Option Story → Option Story → (Story → Story → Type 0) → Type 0
WhereTold None new R = new ≡ None
WhereTold (Some s) None R = ⊥
WhereTold (Some s) (Some t) R = R s t

-- ---- what a crash may leave
-- the range has this byte
abbrev pub IsIn : ℕ → Range → Type 0
IsIn i range = (range.start ≤ i) × (i < range.start + range.len)

-- one of the ranges has this byte
abbrev pub Covered : ℕ → List Range → Type 0
Covered i [] = ⊥
Covered i (range ∷ ranges) = IsIn i range ⊎ Covered i ranges

-- as many bytes, and the same but for those in the ranges
pub record AgreesBut (ranges : List Range) (old new : List ℕ) : Type 0 where
  pub size : length old ≡ length new
  pub bytes : (i : ℕ) → ¬ Covered i ranges → slice_index old i ≡ slice_index new i

-- The image is what a read gives, but for bytes that were written since the last successful sync: those may be any.
abbrev pub Leaves : Moment → List ℕ → Type 0
Leaves moment image = AgreesBut moment.written moment.reads image

-- ---- what the calls make of a story
-- a call more, a write of so many bytes, after which a read gives these
abbrev pub after_write : ℕ → ℕ → List ℕ → Story → Story
after_write at count reads s = record {
  now = record { reads = reads; written = record { start = at; len = count } ∷ s.now.written };
  before = s.now ∷ s.before;
}

-- a call more, after which no write is pending
abbrev pub after_sync : Story → Story
after_sync s = record { now = record { reads = s.now.reads; written = [] }; before = s.now ∷ s.before }

-- a call more, a sync that failed: a read gives these bytes now, and what was pending is
abbrev pub after_failed_sync : List ℕ → Story → Story
after_failed_sync reads s = record {
  now = record { reads = reads; written = s.now.written };
  before = s.now ∷ s.before;
}

-- a call more, which changed nothing
abbrev pub after_idle : Story → Story
after_idle s = record { now = s.now; before = s.now ∷ s.before }

-- what a write of these bytes makes of what is told
abbrev pub wrote : ℕ → List ℕ → Option Story → Option Story
wrote at bytes None = None
wrote at bytes (Some s) = Some (after_write at (length bytes) (splice at bytes s.now.reads) s)

-- what a sync makes of it
abbrev pub synced : Option Story → Option Story
synced None = None
synced (Some s) = Some (after_sync s)

-- How a write fails: its range then holds any bytes, or nothing was stored, or it came at the clock's end and made no moment.
pub data WriteFault (at count : ℕ) (old new : Story) : Type 0 where
  TornWrite : (reads : List ℕ) → AgreesBut (record { start = at; len = count } ∷ []) old.now.reads reads
      → new ≡ after_write at count reads old → WriteFault at count old new
  IdleWrite : new ≡ after_idle old → WriteFault at count old new
  LateWrite : new ≡ old → WriteFault at count old new

-- How a sync fails: what was pending may read as anything from then on and is pending still, or it came at the clock's end and made no moment.
pub data SyncFault (old new : Story) : Type 0 where
  LostSync : (reads : List ℕ) → AgreesBut old.now.written old.now.reads reads
      → new ≡ after_failed_sync reads old → SyncFault old new
  LateSync : new ≡ old → SyncFault old new

-- what a failed write of so many bytes leaves of what is told
abbrev pub FailedWrite : ℕ → ℕ → Option Story → Option Story → Type 0
FailedWrite at count old new = WhereTold old new (WriteFault at count)

-- what a failed sync leaves of it
abbrev pub FailedSync : Option Story → Option Story → Type 0
FailedSync old new = WhereTold old new SyncFault

-- A mounted disk has the bytes that it had, perhaps with more behind them, and what was pending is.
pub record Grown (old new : Story) : Type 0 where
  pub front : take (length old.now.reads) new.now.reads ≡ old.now.reads
  pub longer : length old.now.reads ≤ length new.now.reads
  pub written : new.now.written ≡ old.now.written
  pub before : new.before ≡ old.before

-- what a mount leaves of what is told
abbrev pub Mounted : Option Story → Option Story → Type 0
Mounted old new = WhereTold old new Grown

-- ---- what else the calls tell
-- the bytes that a read at this place gives, where the disk tells its bytes
abbrev pub Reads : Option Story → ℕ → List ℕ → Type 0
Reads None at bytes = Unit {0}
Reads (Some s) at bytes = bytes ≡ take (length bytes) (drop at s.now.reads)

-- one call more on the clock, which stands still at its end; a call there fails
pub record Ticks {T E : Type 0} (before now : ℕ) (result : Result T E) : Type 0 where
  pub counted : now ≡ min (before + 1) (2 ^ 64 - 1)
  pub in_time : OnOk result (before < 2 ^ 64 - 1)

-- a story of as many bytes as the disk has, with a moment before the present one for each call on the clock
pub record HasStory (size clock : ℕ) (s : Story) : Type 0 where
  pub bytes : length s.now.reads ≡ size
  pub moments : length s.before ≡ clock

-- what is told goes with the disk's length and its clock
abbrev pub Fits : ℕ → ℕ → Option Story → Type 0
Fits size clock None = Unit {0}
Fits size clock (Some s) = HasStory size clock s
