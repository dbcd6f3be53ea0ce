use Rattle.std.proofs.Common.{◌≡◌, ℕ, ◌<◌, ◌≤◌, Ok, []}
use Rattle.sb_drive.specs.Slots.{Slots, owned}
use Rattle.sb_drive.specs.Spaces.{Wanted}
use Rattle.sb_space.specs.Durable.{Calls, parts_in}
use Rattle.sb_space.specs.View.{lent}
use Rattle.sb_space.specs.Works.{HasPages}
use Rattle.sb_space.proofs.durable.Durable.next_owned.Given as goal

-- the owner has no page from the first one on up to this one
abbrev pub invariant-loop-n : goal.invariant-loop-n
invariant-loop-n g l = record {
  calls : Calls {T = Unit {0}} g.D.Disk.told g.D.Disk.len g.D.Disk.faults 0 (lent l.fn.self) (lent l.self) (Ok tt);
  none : (want : Wanted) (s : Slots) → HasPages want s (parts_in g.D.Disk.told g.D.Disk.len (lent l.fn.self)) → (m : ℕ) → m < l.n → l.first ≤ m → owned s l.owner m ≡ [];
}
