-- A store whose log and book have a write that its pool hasn't yet.
use Rattle.std.specs.Prelude.{◌≡◌, ℕ, true, false, List, ◌++◌}
use Rattle.sb_disk.specs.Moments.{LeavesOnly}
use Rattle.sb_log.specs.Records.{Record}
use Rattle.sb_log.specs.Restored.{imaged}
use Rattle.sb_images.specs.Images.{Restores}
use Rattle.sb_images.specs.Store.{IsStoreOn}
use Rattle.sb_pool.specs.Calls.{Serves, AreTied, IsSameOrForced}
use Rattle.sb_pool.specs.Pages.{AgreesOn, ArePagesOn, with_bytes}
use Rattle.sb_txn.specs.Book.{views}
use Rattle.sb_txn.specs.Clauses.{HoldsAll, HoldsPages}
use Rattle.sb_txn.specs.Parts.{Parts}
use Rattle.sb_txn.specs.Tied.{IsBookOf, HasReserve}

-- With these records open and pending, these are the pages wanted, those of the pool, and those now by log and book.
pub record Leans (want now then : ℕ → List ℕ) (opened pending : List Record) (p : Parts) : Type 0 where
  pub up : p.store.journal.failed ≡ false
  pub store : IsStoreOn want then p.told p.store.journal p.store.pool.geometry opened pending (views p.store.book.actives)
  pub serves : Serves p.told p.size p.store.journal p.store.pool.geometry
  pub agrees : AgreesOn p.told p.store.journal p.store.pool
  pub pages : ArePagesOn now p.told p.store.journal p.store.pool
  pub tied : AreTied p.store.pool p.store.journal opened pending
  pub knows : IsBookOf p.store.pool.geometry.pages (opened ++ pending) p.store.book
  pub spare : HasReserve p.store.journal p.store.book

-- The pool wants just this write, in a page that has an Image.
pub record IsAhead (want now : ℕ → List ℕ) (page offset : ℕ) (bytes : List ℕ) (p : Parts) : Type 0 where
  pub opened : List Record
  pub pending : List Record
  pub leans : Leans want now (with_bytes page offset bytes now) opened pending p
  pub covered : imaged (opened ++ pending) page ≡ true

-- The write was made; what was pending may be forced now.
pub record CatchesUp (old new : Parts) (page offset : ℕ) (bytes : List ℕ) : Type 0 where
  pub book : new.store.book ≡ old.store.book
  pub journal : IsSameOrForced old.store.journal new.store.journal
  pub pages : (want now : ℕ → List ℕ) → IsAhead want now page offset bytes old → HoldsPages want (with_bytes page offset bytes now) new
  pub logged : (want now : ℕ → List ℕ) (ahead : IsAhead want now page offset bytes old)
      → HoldsAll want (with_bytes page offset bytes now) (ahead.opened ++ ahead.pending) new

-- at each moment of the write, at its faults too, a crash leaves what was wanted
pub record LeavesAhead (old new : Parts) (page offset : ℕ) (bytes : List ℕ) : Type 0 where
  pub each : (want now : ℕ → List ℕ) → IsAhead want now page offset bytes old
      → LeavesOnly old.told new.told (Restores old.store.pool.geometry want)
