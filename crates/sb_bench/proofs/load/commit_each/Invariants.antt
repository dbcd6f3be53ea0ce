use Rattle.sb_txn.specs.Parts.{parts}
use Rattle.sb_bench.specs.Load.{IsAtRest}
use Rattle.sb_bench.proofs.load.commit_each.Given as goal

abbrev pub invariant-loop-number : goal.invariant-loop-number
invariant-loop-number g l = IsAtRest (parts g.D.Disk.told g.D.Disk.len l.disk l.store)
