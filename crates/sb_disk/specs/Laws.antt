-- Laws of disks on which no byte is pending.
use Rattle.std.specs.Prelude.{◌≡◌, ℕ, Option, List, []}
use Rattle.sb_disk.specs.Disk.{Story, wrote, FailedWrite}
use Rattle.sb_disk.specs.Moments.{IsSettled, LeavesNow, contents}

-- after a write of no bytes none is pending
abbrev pub WroteNoneIsSettled : Type 0
WroteNoneIsSettled = (at : ℕ) (told : Option Story) → IsSettled told → IsSettled (wrote at [] told)

-- and so it is after one that failed
abbrev pub FailedNoneIsSettled : Type 0
FailedNoneIsSettled = (at : ℕ) (old new : Option Story) → IsSettled old → FailedWrite at 0 old new → IsSettled new

-- a crash leaves what a read gives
abbrev pub SettledLeavesContents : Type 0
SettledLeavesContents = (told : Option Story) (image : List ℕ) → IsSettled told → LeavesNow told image → image ≡ contents told
