-- What the loads keep of a store.
use Rattle.std.specs.Prelude.{◌≡◌, ℕ, ◌≤◌, false, []}
use Rattle.sb_txn.specs.Book.{IsOnly}
use Rattle.sb_txn.specs.Clauses.{IsReady}
use Rattle.sb_txn.specs.Parts.{Parts}

-- a store of the pages that change, no transaction of which is active
pub record IsAtRest (p : Parts) : Type 0 where
  pub ready : IsReady p
  pub none : p.store.book.actives ≡ []
  pub pages : 64 ≤ p.store.pool.geometry.pages

-- the same while the transaction with this number is the only active one
pub record IsBusy (tx : ℕ) (p : Parts) : Type 0 where
  pub ready : IsReady p
  pub only : p.store.book.down ≡ false → IsOnly tx p.store.book.actives
  pub pages : 64 ≤ p.store.pool.geometry.pages
