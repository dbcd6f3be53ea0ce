-- A memory disk as contracts see it.
use Rattle.std.specs.Prelude.{ℕ, List, Option}
use Rattle.sb_disk.specs.Disk.{Story}
use Rattle.sb_memdisk.specs.declared.past.Stop.{Stop}

-- what it tells, how many calls were made and how many failed, and which are to fail
pub record State : Type 0 where
  pub story : Story
  pub calls : ℕ
  pub faults : ℕ
  pub fails : List ℕ
  pub stop : Option Stop
