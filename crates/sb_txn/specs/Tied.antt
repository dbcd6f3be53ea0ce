-- How a store's journal, its pool and what it has in memory of its log stand for the same pages.
use Rattle.std.specs.Prelude.{◌≡◌, ℕ, ◌+◌, ◌*◌, ◌<◌, ◌≤◌, true, false, List, [], ◌∷◌, ◌++◌, length, slice_index_or}
use Rattle.std.specs.List.{All}
use Rattle.sb_journal.specs.State.{used_of, sealed}
use Rattle.sb_journal.specs.State as journal
use Rattle.sb_log.specs.Records.{Change, Record}
use Rattle.sb_log.specs.Standing.{keep, standing, own_changes, count_of, AreBelow}
use Rattle.sb_log.specs.Restored.{imaged}
use Rattle.sb_log.specs.Views.{IsInactive}
use Rattle.sb_images.specs.Store.{IsStoreOn}
use Rattle.sb_pool.specs.Calls.{Serves, AreTied}
use Rattle.sb_pool.specs.Pages.{AgreesOn, ArePagesOn}
use Rattle.sb_txn.specs.Book.{Undo, ActiveTransaction, Book, views, begun_in}
use Rattle.sb_txn.specs.Parts.{Parts}

-- the undo says where the change is, and the bytes that were there, as many as it wrote
pub record IsUndo (u : Undo) (c : Change) : Type 0 where
  pub page : u.page ≡ c.page
  pub offset : u.offset ≡ c.offset
  pub before : u.before ≡ c.before
  pub size : length u.before ≡ length c.after

-- so it is with each of them
abbrev pub AreUndos : List Undo → List Change → Type 0
AreUndos [] [] = Unit {0}
AreUndos [] (c ∷ cs) = ⊥
AreUndos (u ∷ us) [] = ⊥
AreUndos (u ∷ us) (c ∷ cs) = IsUndo u c × AreUndos us cs

-- the undo is of a page of the store that has an Image, and lies within it
pub record UndoFits (count : ℕ) (recs : List Record) (u : Undo) : Type 0 where
  pub page : u.page < count
  pub within : u.offset + length u.before ≤ 4096
  pub covered : imaged recs u.page ≡ true

-- so it is with each of them
abbrev pub UndosFit : ℕ → List Record → List Undo → Type 0
UndosFit count recs [] = Unit {0}
UndosFit count recs (u ∷ us) = UndoFits count recs u × UndosFit count recs us

-- The changes of the transaction that stand are those that can be undone, and the log says so where none was undone since its last record. One without a record has none.
pub record IsTransactionOf (count : ℕ) (recs : List Record) (next : ℕ) (o : ActiveTransaction) : Type 0 where
  pub undos : AreUndos o.undos (own_changes o.tx (keep o.tx (length o.undos) (standing recs)))
  pub logged : o.undone ≡ false → count_of o.tx (standing recs) ≤ length o.undos
  pub none : o.begun ≡ false → o.undos ≡ []
  pub number : o.tx < next
  pub fit : UndosFit count recs o.undos

-- so it is with each of them
abbrev pub AreTransactionsOf : ℕ → List Record → ℕ → List ActiveTransaction → Type 0
AreTransactionsOf count recs next [] = Unit {0}
AreTransactionsOf count recs next (o ∷ os) = IsTransactionOf count recs next o × AreTransactionsOf count recs next os

-- no two of them have one number
abbrev pub AreOnce : List ActiveTransaction → Type 0
AreOnce [] = Unit {0}
AreOnce (o ∷ os) = IsInactive o.tx (views os) × AreOnce os

-- Of a store of so many pages with these records the book says which pages have an Image, and what stands of the active transactions, of which there are eight at most. Its next number is in no record.
pub record IsBookOf (pages : ℕ) (recs : List Record) (book : Book) : Type 0 where
  pub images : (q : ℕ) → q < pages → slice_index_or book.imaged q false ≡ imaged recs q
  pub count : length book.imaged ≡ pages
  pub actives : AreTransactionsOf pages recs book.next book.actives
  pub fresh : AreBelow book.next recs
  pub once : AreOnce book.actives
  pub most : length book.actives ≤ 8

-- the bytes of the log that are kept for what ends a transaction
abbrev pub reserve : ℕ
reserve = 1024

-- the gates that the chunks take once what is pending is one too
abbrev pub gates_used : journal.State → ℕ
gates_used j = length (sealed j.pending j.lens)

-- There is room, and a gate, for what ends each transaction that has a record in the log; each change that stands took a byte of the log.
pub record HasReserve (j : journal.State) (book : Book) : Type 0 where
  pub few : All (λ o. length o.undos ≤ used_of j) book.actives
  pub room : used_of j + reserve * begun_in book.actives ≤ j.log.len
  pub gates : gates_used j + begun_in book.actives ≤ j.gates.len

-- Disk, journal, pool and book are those of a store with these pages wanted and these now, and these records open and pending.
pub record Holds (want now : ℕ → List ℕ) (opened pending : List Record) (p : Parts) : Type 0 where
  pub up : p.store.journal.failed ≡ false
  pub store : IsStoreOn want now p.told p.store.journal p.store.pool.geometry opened pending (views p.store.book.actives)
  pub serves : Serves p.told p.size p.store.journal p.store.pool.geometry
  pub agrees : AgreesOn p.told p.store.journal p.store.pool
  pub pages : ArePagesOn now p.told p.store.journal p.store.pool
  pub tied : AreTied p.store.pool p.store.journal opened pending
  pub knows : IsBookOf p.store.pool.geometry.pages (opened ++ pending) p.store.book
  pub spare : HasReserve p.store.journal p.store.book
