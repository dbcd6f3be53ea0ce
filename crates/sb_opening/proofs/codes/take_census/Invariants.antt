use Rattle.std.proofs.Common.{◌-◌, ◌^◌, List, length}
use Rattle.sb_registry.specs.Boxes.{Meanings}
use Rattle.sb_drive.specs.Slots.{Slots}
use Rattle.sb_drive.specs.Spaces.{Wanted}
use Rattle.sb_standing.specs.Instances.{owners_of}
use Rattle.sb_standing.specs.Tables.{Kept, Tables}
use Rattle.sb_session.specs.Opened.{IsDurable}
use Rattle.sb_opening.specs.Naming.{named_by}
use Rattle.sb_opening.proofs.NamedLemmas.{IsRead}
use Rattle.sb_opening.proofs.codes.take_census.Given as goal

abbrev pub invariant-relations : goal.invariant-relations
invariant-relations g l = record {
  ready : g.S.PageSpace.is_ready l.space;
  leads : g.S.PageSpace.leads 0 l.fn.space l.space;
  has : (want : Wanted) (s : Slots) → g.S.PageSpace.has want s l.fn.space → g.S.PageSpace.has want s l.space;
  coded : (m : Meanings) (want : Wanted) (s : Slots) (kept : List Kept) → g.S.PageSpace.has want s l.fn.space → Tables m IsDurable l.place.root s kept → IsRead named_by kept l.last l.named.items;
  owned : (m : Meanings) (want : Wanted) (s : Slots) (kept : List Kept) → g.S.PageSpace.has want s l.fn.space → Tables m IsDurable l.place.root s kept → IsRead owners_of kept l.last l.owners.items;
}

-- a list has fewer than 2 to the 64th items
abbrev pub decreases-relations : goal.decreases-relations
decreases-relations g l = 2 ^ 64 - length l.named.items
