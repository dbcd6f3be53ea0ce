-- Writes to a memory that free the pages of an owner.
use Rattle.std.specs.Prelude.{◌≡◌, ℕ, List}
use Rattle.sb_drive.specs.Slots.{Slots}
use Rattle.sb_memory.specs.Writes.{written, AreAmong, ArePagesTo}
use Rattle.sb_memory.specs.declared.slots.Write.{Write}
use Rattle.sb_owners.specs.Instances.{without_owner}

-- they may be made, and make all pages of the owner nobody's
pub record Frees (owner : ℕ) (s : Slots) (writes : List Write) : Type 0 where
  pub among : AreAmong 16384 writes
  pub whole : ArePagesTo writes
  pub freed : written writes s ≡ without_owner owner s
