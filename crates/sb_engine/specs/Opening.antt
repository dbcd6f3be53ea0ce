-- What opening relations leaves.
use Rattle.std.specs.Prelude.{ℕ, List}
use Rattle.sb_registry.specs.Boxes.{Meanings}
use Rattle.sb_drive.specs.Slots.{Slots}
use Rattle.sb_drive.specs.Spaces.{Wanted}
use Rattle.sb_standing.specs.Tables.{Kept, Tables}
use Rattle.sb_asking.specs.OpenRelation.{OpenRelation}
use Rattle.sb_asking.specs.Opened.{IsDurable}
use Rattle.sb_engine.specs.Working.{AreOpened}

-- a state of a space: its pages keep relations, which those that are open are of
pub record IsKeeping {S : Type 0} (Has : Wanted → Slots → S → Type 0) (m : Meanings) (root : ℕ) (want : Wanted) (s : Slots) (kept : List Kept)
    (space : S) (ones : List OpenRelation) : Type 0 where
  pub has : Has want s space
  pub tables : Tables m IsDurable root s kept
  pub opened : AreOpened m kept ones
