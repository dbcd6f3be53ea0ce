-- How contracts see a memory disk.
use Rattle.std.specs.Prelude.{◌≡◌, false, ℕ, ◌+◌, ◌≤◌, None, List, [], length}
use Rattle.sb_disk.specs.Disk.{Story}
use Rattle.sb_disk.specs.Syncs.{last_synced}
use Rattle.sb_memdisk.specs.declared.disk.MemDisk.TheInside.{Inside}
use Rattle.sb_memdisk.specs.Past.{start, story_of, IsReady}
use Rattle.sb_memdisk.specs.State.{State}
use Rattle.sb_memdisk.specs.Failing.{has_stopped}

-- what the disk tells
abbrev pub story_in : Inside → Story
story_in d = story_of d.past.items d.lull d.bytes.items

-- the disk as contracts see it
abbrev pub state_of : Inside → State
state_of d = record { story = story_in d; calls = d.calls; faults = d.faults; fails = d.fails.items; stop = d.stop }

-- what a memory disk holds goes with the story that it tells
pub record Holds (d : Inside) : Type 0 where
  pub reads : d.bytes.items ≡ (story_in d).now.reads
  pub clock : d.clock ≡ length (story_in d).before
  pub counts : d.lull.idle + d.lull.synced ≤ d.clock
  pub kept : d.kept.items ≡ last_synced (story_in d)
  pub same_size : length d.kept.items ≡ length d.bytes.items
  pub ready : has_stopped d.stop d.clock ≡ false → IsReady (length d.bytes.items) d.spare d.past

-- a disk that holds these bytes, to which nothing was done, and of which no call is to fail
abbrev pub new_disk : List ℕ → State
new_disk bytes = record { story = start bytes; calls = 0; faults = 0; fails = []; stop = None }
