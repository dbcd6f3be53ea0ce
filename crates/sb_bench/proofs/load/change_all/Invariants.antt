use Rattle.sb_txn.specs.Parts.{parts}
use Rattle.sb_bench.specs.Load.{IsBusy}
use Rattle.sb_bench.proofs.load.change_all.Given as goal

abbrev pub invariant-loop-number : goal.invariant-loop-number
invariant-loop-number g l = IsBusy l.tx.number (parts g.D.Disk.told g.D.Disk.len l.disk l.store)
