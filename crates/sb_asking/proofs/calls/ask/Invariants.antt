use Rattle.std.proofs.Common.{◌-◌, List, All, length}
use Rattle.sb_drive.specs.Slots.{Slots}
use Rattle.sb_drive.specs.Spaces.{Wanted}
use Rattle.sb_opened.specs.Tables.{Kept, Tables, db_of}
use Rattle.sb_opened.specs.Opened.{IsDurable}
use Rattle.sb_asking.proofs.CallsLemmas.{AreKeys, IsOver}
use Rattle.sb_asking.proofs.calls.ask.Given as goal

abbrev pub invariant-finds : goal.invariant-finds
invariant-finds g l = record {
  ready : g.S.PageSpace.is_ready l.space;
  leads : g.S.PageSpace.leads 0 l.fn.space l.space;
  has : (want : Wanted) (s : Slots) → g.S.PageSpace.has want s l.fn.space → g.S.PageSpace.has want s l.space;
  keys : All AreKeys l.answers.items;
  over : (want : Wanted) (s : Slots) (kept : List Kept) → g.S.PageSpace.has want s l.fn.space → Tables (g.B.Boxes.meanings l.boxes) IsDurable l.place.root s kept → All (IsOver (db_of kept)) l.answers.items;
}

-- a call asks for at most eight finds
abbrev pub decreases-finds : goal.decreases-finds
decreases-finds g l = 8 - length l.answers.items
