-- What crashes at the moments of a run of calls may leave.
use Rattle.std.specs.Prelude.{◌≡◌, ◌⊎◌, ℕ, ◌+◌, ◌<◌, ◌≤◌, Option, Some, None, is_some, List, [], ◌∷◌, length}
use Rattle.sb_disk.specs.Disk.{Range, Moment, Story, Covered, AgreesBut, Leaves, wrote, synced, FailedWrite, FailedSync}

-- the calls so far
abbrev pub moment : Option Story → ℕ
moment None = 0
moment (Some s) = length s.before

-- what a read gives
abbrev pub contents : Option Story → List ℕ
contents None = []
contents (Some s) = s.now.reads

-- the same over moments, the newest first
abbrev pub LeftAt : List Moment → ℕ → List ℕ → Type 0
LeftAt [] t image = ⊥
LeftAt (newest ∷ older) t image = ((t ≡ length older) × Leaves newest image) ⊎ LeftAt older t image

-- A crash when t calls were made may leave the image. Of a disk that tells nothing this is never said.
abbrev pub MayLeave : Option Story → ℕ → List ℕ → Type 0
MayLeave None t image = ⊥
MayLeave (Some s) t image = LeftAt (s.now ∷ s.before) t image

-- a crash now may leave the image
abbrev pub LeavesNow : Option Story → List ℕ → Type 0
LeavesNow None image = ⊥
LeavesNow (Some s) image = Leaves s.now image

-- A crash at any moment from old to new leaves an image that has P, and what earlier ones may leave they could leave before.
pub record LeavesOnly (old new : Option Story) (P : List ℕ → Type 0) : Type 0 where
  pub tells : is_some old ≡ is_some new
  pub later : moment old ≤ moment new
  pub before : (t : ℕ) (image : List ℕ) → t < moment old → MayLeave new t image → MayLeave old t image
  pub since : (t : ℕ) (image : List ℕ) → moment old ≤ t → MayLeave new t image → P image

-- what a crash may leave once a write of so many bytes has begun
abbrev pub LeavesTorn : ℕ → ℕ → Option Story → List ℕ → Type 0
LeavesTorn at count None image = ⊥
LeavesTorn at count (Some s) image = AgreesBut (record { start = at; len = count } ∷ s.now.written) s.now.reads image

-- no byte of this range is pending
abbrev pub Sure : ℕ → ℕ → List Range → Type 0
Sure at count written = (i : ℕ) → at ≤ i → i < at + count → ¬ Covered i written

-- no byte is pending
abbrev pub IsSettled : Option Story → Type 0
IsSettled None = Unit {0}
IsSettled (Some s) = (i : ℕ) → ¬ Covered i s.now.written

-- the range lies in the disk
abbrev pub Within : ℕ → ℕ → Option Story → Type 0
Within at count None = Unit {0}
Within at count (Some s) = at + count ≤ length s.now.reads

-- the disk has so many bytes
abbrev pub Sized : ℕ → Option Story → Type 0
Sized size None = Unit {0}
Sized size (Some s) = length s.now.reads ≡ size

-- ---- runs of calls
-- a call on the clock
pub data Step : Type 0 where
  Write : ℕ → List ℕ → Step
  Sync : Step

-- each of the calls was made, and none failed
abbrev pub RanOk : List Step → Option Story → Option Story → Type 0
RanOk [] old new = new ≡ old
RanOk (Write at bytes ∷ steps) old new = RanOk steps (wrote at bytes old) new
RanOk (Sync ∷ steps) old new = RanOk steps (synced old) new

-- one of the calls failed, and it was the last
abbrev pub RanErr : List Step → Option Story → Option Story → Type 0
RanErr [] old new = ⊥
RanErr (Write at bytes ∷ steps) old new = FailedWrite at (length bytes) old new ⊎ RanErr steps (wrote at bytes old) new
RanErr (Sync ∷ steps) old new = FailedSync old new ⊎ RanErr steps (synced old) new

-- whatever may be left of each of the writes, it has P
abbrev pub AllAlong : List Step → Option Story → (List ℕ → Type 0) → Type 0
AllAlong [] told P = Unit {0}
AllAlong (Write at bytes ∷ steps) told P =
    ((image : List ℕ) → LeavesTorn at (length bytes) told image → P image) × AllAlong steps (wrote at bytes told) P
AllAlong (Sync ∷ steps) told P = AllAlong steps (synced told) P

-- each of the writes lies in a disk of so many bytes
abbrev pub AllWithin : ℕ → List Step → Type 0
AllWithin size [] = Unit {0}
AllWithin size (Write at bytes ∷ steps) = (at + length bytes ≤ size) × AllWithin size steps
AllWithin size (Sync ∷ steps) = AllWithin size steps
