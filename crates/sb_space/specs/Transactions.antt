-- Transactions of a space: what each call keeps, and the pages that going back gives.
use Rattle.std.specs.Prelude.{◌≡◌, ◌⊎◌, ℕ, ◌≤◌, true, false, Option, Result, IfErr, IsErrOf, List, drop}
use Rattle.sb_disk.specs.Causes.{Rose}
use Rattle.sb_disk.specs.Disk.{Story}
use Rattle.sb_drive.specs.Slots.{Slots}
use Rattle.sb_drive.specs.Spaces.{Wanted}
use Rattle.sb_drive.specs.declared.space.SpaceFault.{SpaceFault}
use Rattle.sb_drive.specs.declared.space.SpaceFault.TheVariants.{Fault, Down}
use Rattle.sb_txn.specs.Book.{Book, standing_of}
use Rattle.sb_txn.specs.Clauses.{IsReady}
use Rattle.sb_txn.specs.Parts.{Parts, parts}
use Rattle.sb_txn.specs.State.{State}
use Rattle.sb_space.specs.Durable.{Lent, Leads, parts_in}
use Rattle.sb_space.specs.Table.{AreWhole, IsTable, slots_in}
use Rattle.sb_space.specs.Works.{LeadsBack, Stands, HasPages, Fails, undos_of}

-- ---- what each call keeps
-- A call of a space that is down answers Down, and nothing has changed.
pub record WasDown {D T : Type 0} (old new : D) (s t : State) (result : Result T SpaceFault) : Type 0 where
  pub answer : IsErrOf result Down
  pub disk : new ≡ old
  pub store : t ≡ s

-- The disk's length and the sizes stay, and the store is ready again. It goes down only in a call that answers Fault, since the disk failed a call.
-- A refusal means what `Fails` says.
pub record KeepsSpace {D T : Type 0} (told : D → Option Story) (len faults : D → ℕ) (old new : D) (s t : State) (result : Result T SpaceFault) : Type 0 where
  pub size : len new ≡ len old
  pub later : faults old ≤ faults new
  pub geometry : t.pool.geometry ≡ s.pool.geometry
  pub ready : IsReady (parts told len new t)
  pub down : s.book.down ≡ true → WasDown old new s t result
  pub only : IsErrOf result Down → s.book.down ≡ true
  pub up : t.book.down ≡ true → (s.book.down ≡ true) ⊎ IsErrOf result Fault
  pub fell : t.book.down ≡ true → (s.book.down ≡ true) ⊎ Rose (faults old) (faults new)
  pub fails : IfErr result (λ e. Fails faults e old new s t)

-- ---- going back
-- Going back to the first n changes of the transaction, which stand, gives these pages, each with its owner.
pub record WasAt (tx : ℕ) (want : Wanted) (s : Slots) (n : ℕ) (p : Parts) : Type 0 where
  pub within : n ≤ standing_of tx p.store.book.actives
  pub now : ℕ → List ℕ
  pub stands : Stands want now p
  pub was : ℕ → List ℕ
  pub back : LeadsBack p.store.pool.geometry.pages (drop n (undos_of tx p.store.book.actives)) was now
  pub table : IsTable p.store.pool.geometry.pages was
  pub slots : s ≡ slots_in p.store.pool.geometry.pages was

-- the pages are whole, and the owner table in them is formed
pub record AreFormed (pages : ℕ) (now : ℕ → List ℕ) : Type 0 where
  pub whole : AreWhole pages now
  pub table : IsTable pages now

-- ---- laws
-- the pages now are those that going back to all changes that stand gives
abbrev pub MarkHasPages : Type 0
MarkHasPages = (tx : ℕ) (want : Wanted) (s : Slots) (p : Parts) → HasPages want s p → WasAt tx want s (standing_of tx p.store.book.actives) p

-- whatever calls are driven, going back gives what it gave, unless the store went down
abbrev pub DrivenKeepsWas : {D : Type 0} → (D → Option Story) → (D → ℕ) → (D → ℕ) → Type 0
DrivenKeepsWas {D = D} told len faults =
    (k : ℕ) (a b : Lent D) → Leads told len faults k a b → b.store.now.book.down ≡ false
    → (want : Wanted) (s : Slots) (n : ℕ) → WasAt a.tx want s n (parts_in told len a) → WasAt a.tx want s n (parts_in told len b)

-- and the same pages are wanted
abbrev pub DrivenKeepsWanted : {D : Type 0} → (D → Option Story) → (D → ℕ) → (D → ℕ) → Type 0
DrivenKeepsWanted {D = D} told len faults =
    (k : ℕ) (a b : Lent D) → Leads told len faults k a b → b.store.now.book.down ≡ false
    → (want now : ℕ → List ℕ) → Stands want now (parts_in told len a) → (then : ℕ → List ℕ) × Stands want then (parts_in told len b)

-- A store that is up was up before, and each change of the transaction that stood stands.
abbrev pub KeepsChanges : ℕ → Book → Book → Type 0
KeepsChanges tx old new = new.down ≡ false → (old.down ≡ false) × (standing_of tx old.actives ≤ standing_of tx new.actives)

abbrev pub DrivenKeepsChanges : {D : Type 0} → (D → Option Story) → (D → ℕ) → (D → ℕ) → Type 0
DrivenKeepsChanges {D = D} told len faults = (k : ℕ) (a b : Lent D) → Leads told len faults k a b → KeepsChanges a.tx a.store.now.book b.store.now.book

-- the same store, disk and transaction are borrowed, and the sizes stay
pub record IsSameSpace {D : Type 0} (old new : Lent D) : Type 0 where
  pub store : new.store.ghost_name ≡ old.store.ghost_name
  pub disk : new.disk.ghost_name ≡ old.disk.ghost_name
  pub tx : new.tx ≡ old.tx
  pub geometry : new.store.now.pool.geometry ≡ old.store.now.pool.geometry

abbrev pub DrivenKeepsSpace : {D : Type 0} → (D → Option Story) → (D → ℕ) → (D → ℕ) → Type 0
DrivenKeepsSpace {D = D} told len faults = (k : ℕ) (a b : Lent D) → Leads told len faults k a b → IsSameSpace a b
