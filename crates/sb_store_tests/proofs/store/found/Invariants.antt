use Rattle.std.proofs.Common.{◌≤◌}
use Rattle.sb_txn.specs.Clauses.{IsReady}
use Rattle.sb_txn.specs.Parts.{parts}
use Rattle.sb_store_tests.proofs.store.found.Given as goal

abbrev pub invariant-loop-n : goal.invariant-loop-n
invariant-loop-n g l = record {
  ready : IsReady (parts g.D.Disk.told g.D.Disk.len l.disk l.store);
  pages : 64 ≤ l.store.pool.geometry.pages;
}
