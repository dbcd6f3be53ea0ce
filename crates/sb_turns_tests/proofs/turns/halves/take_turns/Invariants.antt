use Rattle.std.proofs.Common.{◌≤◌, length}
use Rattle.sb_space.specs.Transactions.{KeepsChanges}
use Rattle.sb_space.specs.Works.{Serves}
use Rattle.sb_txn.specs.Parts.{parts}
use Rattle.sb_turns_tests.proofs.turns.halves.take_turns.Given as goal

abbrev pub invariant-loop-turn : goal.invariant-loop-turn
invariant-loop-turn g l = record {
  ready : Serves l.tx.durable.store.number (parts g.D.Disk.told g.D.Disk.len l.disk l.halves.durable.store);
  changes : KeepsChanges l.tx.durable.store.number l.fn.halves.durable.store.book l.halves.durable.store.book;
  writes : length l.fn.halves.volatile.past ≤ length l.halves.volatile.past;
}
