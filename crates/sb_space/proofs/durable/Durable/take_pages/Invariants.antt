use Rattle.std.proofs.Common.{Ok, length, take}
use Rattle.sb_ctx.specs.View.{fresh_pages}
use Rattle.sb_drive.specs.Slots.{Slots}
use Rattle.sb_drive.specs.Spaces.{Wanted}
use Rattle.sb_space.specs.Durable.{Calls, parts_in}
use Rattle.sb_space.specs.Stored.{Ends, Touches, taken_in}
use Rattle.sb_space.specs.View.{lent}
use Rattle.sb_space.specs.Works.{HasPages}
use Rattle.sb_space.proofs.durable.Durable.take_pages.Given as goal

-- the first of them are the owner's
abbrev pub invariant-loop-i : goal.invariant-loop-i
invariant-loop-i g l = record {
  calls : Calls {T = Unit {0}} g.D.Disk.told g.D.Disk.len g.D.Disk.faults (length (taken_in (take l.i (fresh_pages l.ctx)))) (lent l.fn.self) (lent l.self) (Ok tt);
  pages : (want : Wanted) (s : Slots) → HasPages want s (parts_in g.D.Disk.told g.D.Disk.len (lent l.fn.self))
      → Ends l.owner want s (parts_in g.D.Disk.told g.D.Disk.len (lent l.self)) (λ t. Touches l.owner (taken_in (take l.i (fresh_pages l.ctx))) s t);
}
