-- What calls make of a store and its disk within a transaction.
use Rattle.std.specs.Prelude.{◌≡◌, ◌⊎◌, ℕ, ◌*◌, ◌+◌, ◌<◌, ◌≤◌, true, false, is_some, List, [], ◌++◌, length, drop, Option, Some, None}
use Rattle.sb_disk.specs.Causes.{Rose}
use Rattle.sb_disk.specs.Disk.{Story}
use Rattle.sb_images.specs.Store.{IfTold}
use Rattle.sb_journal.specs.State.{used_of}
use Rattle.sb_drive.specs.declared.space.SpaceFault.{SpaceFault}
use Rattle.sb_drive.specs.declared.space.SpaceFault.TheVariants.{DataFull, Fault, TempFull, LogFull, GatesFull, Damaged, Down, NoMemory}
use Rattle.sb_drive.specs.Slots.{Slots}
use Rattle.sb_drive.specs.Spaces.{Wanted}
use Rattle.sb_txn.specs.Book.{Undo, ActiveTransaction, Book, IsOnly, transaction_with, others}
use Rattle.sb_txn.specs.Clauses.{HoldsPages, IsReady, LeavesWanted, Grows, unwound}
use Rattle.sb_txn.specs.Parts.{Parts, parts}
use Rattle.sb_txn.specs.State.{State}
use Rattle.sb_space.specs.Exact.{AreExact}
use Rattle.sb_space.specs.Table.{AreWhole, IsTable, slots_in}

-- ---- the transaction, by its number
-- its changes that stand
abbrev pub undos_of : ℕ → List ActiveTransaction → List Undo
undos_of tx actives = elim (transaction_with tx actives) [ None ↦ [] | Some o ↦ o.undos ]

-- until a call has failed it is the active one
abbrev pub IsAlone : ℕ → Book → Type 0
IsAlone tx book = book.down ≡ false → IsOnly tx book.actives

-- the store serves it, and has 65,536 pages at most
pub record Serves (tx : ℕ) (p : Parts) : Type 0 where
  pub ready : IsReady p
  pub alone : IsAlone tx p.store.book
  pub few : p.store.pool.geometry.pages ≤ 65536

-- ---- the pages of a store
-- The disk tells its bytes, and these are the pages wanted and the pages now, which are whole.
pub record Stands (want now : ℕ → List ℕ) (p : Parts) : Type 0 where
  pub tells : is_some p.told ≡ true
  pub store : HoldsPages want now p
  pub whole : AreWhole p.store.pool.geometry.pages now

-- So it is, and those now, by the owners that the table gives them, are these.
pub record HasPages (want : Wanted) (s : Slots) (p : Parts) : Type 0 where
  pub now : ℕ → List ℕ
  pub stands : Stands want now p
  pub table : IsTable p.store.pool.geometry.pages now
  pub slots : s ≡ slots_in p.store.pool.geometry.pages now

-- whatever pages are wanted stay so
abbrev pub StaysWanted : Parts → Parts → Type 0
StaysWanted old new = (want now : ℕ → List ℕ) → HoldsPages want now old → (then : ℕ → List ℕ) × HoldsPages want then new

-- ---- what calls make of it
-- This undo list, its last undo first, leads the pages back to those that were. The pages are whole at each step.
pub record LeadsBack (count : ℕ) (undos : List Undo) (was now : ℕ → List ℕ) : Type 0 where
  pub each : (n : ℕ) → AreWhole count (unwound (drop n undos) now)
  pub back : (p : ℕ) → unwound undos now p ≡ was p

-- The pages now have become others, which this undo list leads back if those were whole; each of its changes was exact.
pub record Turns (want now : ℕ → List ℕ) (undos : List Undo) (old new : Parts) : Type 0 where
  pub pages : ℕ → List ℕ
  pub store : HoldsPages want pages new
  pub back : IfTold old.told (AreWhole old.store.pool.geometry.pages now → LeadsBack old.store.pool.geometry.pages undos now pages)
  pub exact : IfTold old.told (AreWhole old.store.pool.geometry.pages now → AreExact old.store.pool.geometry.pages undos pages)

-- The transaction has so many changes more at most, and the others are as they were. Whatever pages are wanted stay so, and the log grows by what the changes take.
pub record Makes (tx : ℕ) (changes : ℕ) (old new : Parts) : Type 0 where
  pub undos : List Undo
  pub few : length undos ≤ changes
  pub own : undos_of tx new.store.book.actives ≡ undos_of tx old.store.book.actives ++ undos
  pub others : others tx new.store.book.actives ≡ others tx old.store.book.actives
  pub pages : (want now : ℕ → List ℕ) → HoldsPages want now old → Turns want now undos old new
  pub grows : Grows old.store new.store (12400 * changes) (3 * changes)

-- At each moment a crash leaves what was wanted. A store that is down is as it was, and one goes down only where the disk fails a call; unless it does, these changes were made.
pub record Works {D : Type 0} (told : D → Option Story) (len faults : D → ℕ) (tx : ℕ) (changes : ℕ) (old new : D) (s t : State) : Type 0 where
  pub size : len new ≡ len old
  pub later : faults old ≤ faults new
  pub geometry : t.pool.geometry ≡ s.pool.geometry
  pub leaves : LeavesWanted (parts told len old s) (parts told len new t)
  pub down : s.book.down ≡ true → (new ≡ old) × (t ≡ s)
  pub fell : t.book.down ≡ true → (s.book.down ≡ true) ⊎ Rose (faults old) (faults new)
  pub makes : t.book.down ≡ false → Makes tx changes (parts told len old s) (parts told len new t)

-- Why a call is refused: the disk failed a call, and the store is down from now on; it is down already, and stays so; the log hasn't the bytes that a change wants, or no gate is left for it; no page of the store's is left; memory is wanting.
abbrev pub Fails : {D : Type 0} → (D → ℕ) → SpaceFault → D → D → State → State → Type 0
Fails faults Fault old new s t = Rose (faults old) (faults new) × (t.book.down ≡ true)
Fails faults Down old new s t = (faults old ≤ faults new) × ((s.book.down ≡ true) ⊎ Rose (faults old) (faults new)) × (t.book.down ≡ true)
Fails faults (LogFull used need total) old new s t =
    (used ≡ used_of t.journal) × (need ≤ 13424) × (total ≡ t.pool.geometry.log) × (total < used + need)
Fails faults (GatesFull used total) old new s t = (used ≡ length t.journal.lens) × (total ≡ 65536) × (65534 < used)
Fails faults (DataFull used total) old new s t = (used ≡ total) × (total ≡ t.pool.geometry.pages)
Fails faults (Damaged page) old new s t = ⊥
Fails faults (TempFull used total) old new s t = ⊥
Fails faults e old new s t = Unit {0}

-- a call on the disk has failed, in this call or an earlier one
abbrev pub MeansDown : SpaceFault → Type 0
MeansDown Fault = Unit {0}
MeansDown Down = Unit {0}
MeansDown e = ⊥

-- the same, or memory is wanting
abbrev pub IsLookFault : SpaceFault → Type 0
IsLookFault Fault = Unit {0}
IsLookFault Down = Unit {0}
IsLookFault NoMemory = Unit {0}
IsLookFault e = ⊥
