-- What the inserts keep of a store.
use Rattle.std.specs.Prelude.{◌≡◌, ◌≤◌, []}
use Rattle.sb_txn.specs.Clauses.{IsReady}
use Rattle.sb_txn.specs.Parts.{Parts}

-- a store of at most 65,536 pages, in which no transaction is active
pub record IsVacant (p : Parts) : Type 0 where
  pub ready : IsReady p
  pub none : p.store.book.actives ≡ []
  pub few : p.store.pool.geometry.pages ≤ 65536
