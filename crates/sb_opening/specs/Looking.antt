-- A look at the catalogue of a store that was just opened, in a transaction that changes nothing.
use Rattle.std.specs.Prelude.{◌≡◌, ℕ, ◌≤◌, false, Option, Result, Ok, Err, List, []}
use Rattle.sb_disk.specs.Causes.{Rose}
use Rattle.sb_disk.specs.Disk.{Story}
use Rattle.sb_recover.specs.declared.fault.OpenFault.{OpenFault}
use Rattle.sb_recover.specs.declared.fault.OpenFault.TheVariants as opening
use Rattle.sb_registry.specs.Boxes.{Meanings}
use Rattle.sb_drive.specs.declared.space.SpaceFault.{SpaceFault}
use Rattle.sb_drive.specs.declared.space.SpaceFault.TheVariants as space
use Rattle.sb_drive.specs.Slots.{Slots}
use Rattle.sb_drive.specs.Spaces.{Wanted}
use Rattle.sb_standing.specs.Tables.{Kept, Tables}
use Rattle.sb_session.specs.Opened.{IsDurable}
use Rattle.sb_txn.specs.Clauses.{IsReady, LeavesWanted}
use Rattle.sb_txn.specs.Parts.{Parts, parts}
use Rattle.sb_txn.specs.State.{State}
use Rattle.sb_space.specs.Table.{slots_in}
use Rattle.sb_space.specs.Transactions.{AreFormed}
use Rattle.sb_space.specs.Works.{HasPages, StaysWanted}

-- what a look at pages refuses, as an opening says it; the other refusals never come of one
abbrev pub fault_of : SpaceFault → OpenFault
fault_of (space.Damaged page) = opening.Damaged page
fault_of space.NoMemory = opening.NoMemory
fault_of e = opening.Fault

-- what was found, unless the transaction couldn't be ended
abbrev pub found_at_end : {T : Type 0} → Result T SpaceFault → Result (Unit {0}) SpaceFault → Result T OpenFault
found_at_end found (Err e) = Err (fault_of e)
found_at_end (Err e) (Ok done) = Err (fault_of e)
found_at_end (Ok x) (Ok done) = Ok x

-- what is so of pages and of the relations of their catalogue
abbrev pub OverCatalogue : ℕ → Parts → (Slots → List Kept → Type 0) → Type 0
OverCatalogue root p IsSo =
    (m : Meanings) (want : Wanted) (s : Slots) (kept : List Kept) → HasPages want s p → Tables m IsDurable root s kept → IsSo s kept

-- the disk failed a call in it, a page is called damaged, or memory is wanting
abbrev pub IsLookErr : ℕ → ℕ → OpenFault → Type 0
IsLookErr before now opening.Fault = Rose before now
IsLookErr before now (opening.Damaged page) = Unit {0}
IsLookErr before now opening.NoMemory = Unit {0}
IsLookErr before now e = ⊥

-- Whatever it answers: the disk's length and the sizes stay, and at each moment a crash leaves what was wanted.
pub record IsLook {D : Type 0} (told : D → Option Story) (len faults : D → ℕ) (old new : D) (s t : State) : Type 0 where
  pub size : len new ≡ len old
  pub later : faults old ≤ faults new
  pub geometry : t.pool.geometry ≡ s.pool.geometry
  pub leaves : LeavesWanted (parts told len old s) (parts told len new t)

-- The store is ready behind it, and no transaction is out. Pages wanted that are formed are the pages now, if they were; whatever is wanted stays so.
pub record RestsStill (p q : Parts) : Type 0 where
  pub ready : IsReady q
  pub up : q.store.book.down ≡ false
  pub none : q.store.book.actives ≡ []
  pub has : (want : Wanted) (s : Slots) → AreFormed p.store.pool.geometry.pages want → HasPages want s p
      → HasPages want (slots_in q.store.pool.geometry.pages want) q
  pub wanted : StaysWanted p q
