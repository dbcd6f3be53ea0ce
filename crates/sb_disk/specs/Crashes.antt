-- A run of commands, each of which began at a moment of its own.
use Rattle.std.specs.Prelude.{ℕ, ◌+◌, ◌<◌, ◌≤◌, Option, Some, None, List, length, slice_index, slice_index_or}
use Rattle.sb_disk.specs.Disk.{Story}
use Rattle.sb_disk.specs.Moments.{MayLeave}

-- From the moment at which command m began up to that of the next, or up to now for the last, a crash leaves what has P m.
pub record CrashesOf (starts : List ℕ) (s : Story) (P : ℕ → List ℕ → Type 0) : Type 0 where
  pub begun : (m : ℕ) → slice_index starts m ≤ length s.before
  pub each : (m t : ℕ) (image : List ℕ) → m < length starts → slice_index starts m ≤ t
      → t < slice_index_or starts (m + 1) (length s.before + 1)
      → MayLeave (Some s) t image → P m image

-- the same of what is told, if it is
abbrev pub Crashes : List ℕ → Option Story → (ℕ → List ℕ → Type 0) → Type 0
Crashes starts None P = Unit {0}
Crashes starts (Some s) P = CrashesOf starts s P
