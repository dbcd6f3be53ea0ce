use Rattle.std.proofs.Common.{◌+◌, ◌<◌, ◌≤◌, Ok, IfSome}
use Rattle.sb_drive.specs.Slots.{Slots}
use Rattle.sb_drive.specs.Spaces.{Wanted}
use Rattle.sb_space.specs.Durable.{Calls, parts_in}
use Rattle.sb_space.specs.Instances.{AreMarked, IsFirstFree, marks_set}
use Rattle.sb_space.specs.Table.{table_len}
use Rattle.sb_space.specs.View.{lent}
use Rattle.sb_space.specs.Works.{HasPages}
use Rattle.sb_space.proofs.durable.Durable.mark_owners.Given as goal

-- the owners of the pages before this one are marked, and the first of them that is nobody's is found
abbrev pub invariant-loop-n : goal.invariant-loop-n
invariant-loop-n g l = record {
  calls : Calls {T = Unit {0}} g.D.Disk.told g.D.Disk.len g.D.Disk.faults 0 (lent l.fn.self) (lent l.self) (Ok tt);
  few : marks_set l.marks + table_len l.fn.self.store.now.pool.geometry.pages ≤ l.n;
  below : IfSome l.free (λ n. n < l.n);
  marks : (want : Wanted) (s : Slots) → HasPages want s (parts_in g.D.Disk.told g.D.Disk.len (lent l.fn.self)) → AreMarked l.n s l.marks;
  first : (want : Wanted) (s : Slots) → HasPages want s (parts_in g.D.Disk.told g.D.Disk.len (lent l.fn.self)) → IsFirstFree l.n s l.free;
}
