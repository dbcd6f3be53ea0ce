use Rattle.std.proofs.Common.{ℕ, ◌<◌, Ok}
use Rattle.sb_txn.specs.Parts.{parts}
use Rattle.sb_opening.specs.Owners.{IsKnown, OnlyLooks, OverMarked}
use Rattle.sb_opening.proofs.owners.check_pages.Given as goal

-- the owners of the pages so far are known
abbrev pub invariant-loop-n : goal.invariant-loop-n
invariant-loop-n g l = record {
  looks : OnlyLooks {T = Unit {0}} g.D.Disk.told g.D.Disk.len g.D.Disk.faults l.fn.disk l.disk l.fn.store l.store (Ok tt);
  known : OverMarked l.marks (parts g.D.Disk.told g.D.Disk.len l.fn.disk l.fn.store) (λ owners s. (m : ℕ) → m < l.n → IsKnown owners (s m).0);
}
