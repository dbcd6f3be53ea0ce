use Rattle.std.proofs.Common.{◌≡◌, ℕ, ◌+◌, List, drop}
use Rattle.sb_drive.specs.Slots.{Slots}
use Rattle.sb_drive.specs.Spaces.{LeadsWithin, Wanted}
use Rattle.sb_registry.specs.Boxes.{Meanings}
use Rattle.sb_standing.specs.Standing.{Keeps}
use Rattle.sb_standing.specs.Tables.{Kept}
use Rattle.sb_engine.specs.Opened.{IsDurable}
use Rattle.sb_tables.specs.Freeing.{LeavesGone, free_most}
use Rattle.sb_tables.proofs.freeing.free_owners.Given as goal

abbrev pub invariant-loop-owner : goal.invariant-loop-owner
invariant-loop-owner g l = record {
  ready : g.S.PageSpace.is_ready l.space;
  leads : (done : ℕ) × LeadsWithin g.S.PageSpace.leads done l.fn.space l.space × (done + free_most (drop l.owner-index l.owners) ≡ free_most l.owners);
  freed : (m : Meanings) (root : ℕ) (kept : List Kept) (want : Wanted) (s : Slots) → g.S.PageSpace.has want s l.fn.space → Keeps m IsDurable root s l.owners kept
      → LeavesGone g.S.PageSpace.has m root kept want (drop l.owner-index l.owners) l.space;
}
