use Rattle.std.proofs.Common.{◌≡◌, ◌≤◌, false}
use Rattle.sb_txn.specs.Book.{IsOnly}
use Rattle.sb_txn.specs.Clauses.{IsReady}
use Rattle.sb_txn.specs.Parts.{parts}
use Rattle.sb_store_tests.proofs.store.fill.Given as goal

abbrev pub invariant-loop-i : goal.invariant-loop-i
invariant-loop-i g l = record {
  ready : IsReady (parts g.D.Disk.told g.D.Disk.len l.disk l.store);
  only : l.store.book.down ≡ false → IsOnly l.tx.number l.store.book.actives;
  pages : 64 ≤ l.store.pool.geometry.pages;
}
