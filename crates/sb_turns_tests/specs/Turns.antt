-- What transactions keep of a space.
use Rattle.std.specs.Prelude.{◌≡◌, ◌≤◌, []}
use Rattle.sb_txn.specs.Clauses.{IsReady}
use Rattle.sb_txn.specs.Parts.{Parts}

-- no transaction is active
pub record IsAtRest (p : Parts) : Type 0 where
  pub ready : IsReady p
  pub none : p.store.book.actives ≡ []
  pub few : p.store.pool.geometry.pages ≤ 65536
