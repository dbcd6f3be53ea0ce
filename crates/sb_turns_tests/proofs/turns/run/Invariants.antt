use Rattle.sb_txn.specs.Parts.{parts}
use Rattle.sb_turns_tests.specs.Turns.{IsAtRest}
use Rattle.sb_turns_tests.proofs.turns.run.Given as goal

abbrev pub invariant-loop-next : goal.invariant-loop-next
invariant-loop-next g l = IsAtRest (parts g.D.Disk.told g.D.Disk.len l.disk l.space.store)
