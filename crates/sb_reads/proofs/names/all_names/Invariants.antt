use Rattle.std.proofs.Common.{◌-◌, ◌^◌, List, length}
use Rattle.sb_drive.specs.Slots.{Slots}
use Rattle.sb_drive.specs.Spaces.{Wanted}
use Rattle.sb_standing.specs.Standing.{Keeps}
use Rattle.sb_standing.specs.Tables.{Kept}
use Rattle.sb_asking.specs.Opened.{IsDurable}
use Rattle.sb_reads.proofs.NamesLemmas.{AreNamed}
use Rattle.sb_reads.proofs.names.all_names.Given as goal

abbrev pub invariant-names : goal.invariant-names
invariant-names g l = record {
  ready : g.S.PageSpace.is_ready l.space;
  leads : g.S.PageSpace.leads 0 l.fn.space l.space;
  has : (want : Wanted) (s : Slots) → g.S.PageSpace.has want s l.fn.space → g.S.PageSpace.has want s l.space;
  named : (want : Wanted) (s : Slots) (gone : List _) (kept : List Kept) → g.S.PageSpace.has want s l.fn.space → Keeps (g.B.Boxes.meanings l.boxes) IsDurable l.place.root s gone kept → AreNamed kept l.names.items;
}

-- a list has fewer than 2 to the 64th items
abbrev pub decreases-names : goal.decreases-names
decreases-names g l = 2 ^ 64 - length l.names.items
