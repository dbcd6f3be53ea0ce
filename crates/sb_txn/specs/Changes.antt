-- What the steps of a change want and leave.
use Rattle.std.specs.Prelude.{◌≡◌, ℕ, ◌+◌, ◌^◌, ◌<◌, ◌≤◌, Option, Some, [], length, take, drop}
use Rattle.sb_journal.specs.State.{used_of}
use Rattle.sb_journal.specs.State as journal
use Rattle.sb_pool.specs.Pages.{bytes_or}
use Rattle.sb_pool.specs.State.{Held}
use Rattle.sb_pool.specs.State as pool
use Rattle.sb_txn.specs.Book.{Undo, ActiveTransaction, Book, transaction_with, with_change}
use Rattle.sb_txn.specs.Clauses.{need_of}
use Rattle.sb_txn.specs.Parts.{Parts}
use Rattle.sb_txn.specs.declared.fault.StoreFault.{StoreFault}
use Rattle.sb_txn.specs.declared.fault.StoreFault.TheVariants.{Fault, LogFull, GatesFull, NoMemory}

-- the range of a page that is held, as it can be given back
abbrev pub undo_at : Option Held → ℕ → ℕ → ℕ → Undo
undo_at h page offset count = record { page = page; offset = offset; before = take count (drop offset (bytes_or [] h)) }

-- the book with that change more, by the transaction of this number
abbrev pub AddsUndo : ℕ → Option Held → Book → Book → ℕ → ℕ → ℕ → Type 0
AddsUndo tx h old new page offset count =
    (o : ActiveTransaction) → transaction_with tx old.actives ≡ Some o → new ≡ with_change old o (undo_at h page offset count)

-- Journal and book are sized as a store's.
pub record IsInStore (j : journal.State) (p : pool.State) (book : Book) : Type 0 where
  pub log : p.geometry.log ≡ j.log.len
  pub short : j.log.len < 2 ^ 32
  pub used : used_of j ≤ j.log.len
  pub gates : j.gates.len ≡ 65536
  pub most : length book.actives ≤ 8

-- Why there is no room for a change of so many bytes: the log hasn't the bytes, or it has them and no gate is left.
abbrev pub NoRoom : journal.State → Book → ActiveTransaction → ℕ → ℕ → StoreFault → Type 0
NoRoom j book o page count (LogFull used need total) =
    (used ≡ used_of j) × (need ≡ need_of book o page count) × (total ≡ j.log.len) × (total < used + need)
NoRoom j book o page count (GatesFull used total) =
    (used_of j + need_of book o page count ≤ j.log.len) × (used ≡ length j.lens) × (total ≡ j.gates.len) × (65535 < used + length book.actives)
NoRoom j book o page count e = ⊥

-- why a change with room for it is refused; where memory is wanting all is as it was
abbrev pub AddErr : Parts → Parts → StoreFault → Type 0
AddErr old new NoMemory = new ≡ old
AddErr old new Fault = Unit {0}
AddErr old new e = ⊥
