-- What a disk held when it was last synced. A write of no bytes counts here as one that is pending.
use Rattle.std.specs.Prelude.{◌≡◌, Option, Some, None, List, [], ◌∷◌, ℕ}
use Rattle.sb_disk.specs.Disk.{Range, Moment, Story, AgreesBut}

-- One call that was no successful sync: a range more is pending, or the same ranges are. Bytes may differ there alone.
pub data Unsynced (old new : Moment) : Type 0 where
  WroteRange : (range : Range) → new.written ≡ range ∷ old.written → AgreesBut (range ∷ []) old.reads new.reads → Unsynced old new
  SameRanges : new.written ≡ old.written → AgreesBut old.written old.reads new.reads → Unsynced old new

-- a moment at which no write was pending, as after a sync, or one that came of such a moment by calls that were no successful syncs
pub data IsSince : Moment → List Moment → Type 0 where
  AtSync : (now : Moment) (before : List Moment) → now.written ≡ [] → IsSince now before
  AfterSync : (now last : Moment) (before : List Moment) → Unsynced last now → IsSince last before → IsSince now (last ∷ before)

-- at some moment of the story no write was pending
abbrev pub IsAnchored : Option Story → Type 0
IsAnchored None = Unit {0}
IsAnchored (Some s) = IsSince s.now s.before

-- the newer bytes where no write is pending, and else the older ones
abbrev pub unless_pending : List Range → List ℕ → List ℕ → List ℕ
unless_pending [] newer older = newer
unless_pending (range ∷ ranges) newer older = older

-- the same over moments, the newest first
abbrev pub at_last_sync : List Moment → List ℕ
at_last_sync [] = []
at_last_sync (newest ∷ older) = unless_pending newest.written newest.reads (at_last_sync older)

-- what a read gave when no write was pending for the last time
abbrev pub last_synced : Story → List ℕ
last_synced s = at_last_sync (s.now ∷ s.before)
