use Rattle.sb_space.specs.Transactions.{KeepsChanges}
use Rattle.sb_space.specs.Works.{Serves}
use Rattle.sb_txn.specs.Parts.{parts}
use Rattle.sb_turns_tests.proofs.turns.filling.fill.Given as goal

abbrev pub invariant-loop-taken : goal.invariant-loop-taken
invariant-loop-taken g l = record {
  ready : Serves l.tx.store.number (parts g.D.Disk.told g.D.Disk.len l.disk l.space.store);
  changes : KeepsChanges l.tx.store.number l.fn.space.store.book l.space.store.book;
}
