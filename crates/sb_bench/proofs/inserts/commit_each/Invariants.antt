use Rattle.sb_txn.specs.Parts.{parts}
use Rattle.sb_bench.specs.Inserts.{IsVacant}
use Rattle.sb_bench.proofs.inserts.commit_each.Given as goal

abbrev pub invariant-loop-number : goal.invariant-loop-number
invariant-loop-number g l = IsVacant (parts g.D.Disk.told g.D.Disk.len l.disk l.space.store)
