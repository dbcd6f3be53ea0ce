use Rattle.std.proofs.Common.{Ok}
use Rattle.sb_drive.specs.Slots.{Slots}
use Rattle.sb_drive.specs.Spaces.{Wanted}
use Rattle.sb_space.specs.Durable.{Calls, parts_in}
use Rattle.sb_space.specs.View.{lent}
use Rattle.sb_space.specs.Works.{HasPages}
use Rattle.sb_space.proofs.Clearing.{without_below}
use Rattle.sb_space.proofs.durable.Durable.free_owner.Given as goal

-- the entries in the pages of the table before this one are cleared
abbrev pub invariant-loop-page : goal.invariant-loop-page
invariant-loop-page g l = record {
  calls : Calls {T = Unit {0}} g.D.Disk.told g.D.Disk.len g.D.Disk.faults l.page (lent l.fn.self) (lent l.self) (Ok tt);
  pages : (want : Wanted) (s : Slots) → HasPages want s (parts_in g.D.Disk.told g.D.Disk.len (lent l.fn.self))
      → HasPages want (without_below l.owner l.page s) (parts_in g.D.Disk.told g.D.Disk.len (lent l.self));
}
