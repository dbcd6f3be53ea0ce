use Rattle.sb_space.specs.Works.{Serves}
use Rattle.sb_txn.specs.Parts.{parts}
use Rattle.sb_turns_tests.proofs.turns.numbers.tell_all.Given as goal

abbrev pub invariant-loop-number : goal.invariant-loop-number
invariant-loop-number g l = Serves l.tx.store.number (parts g.D.Disk.told g.D.Disk.len l.disk l.space.store)
