-- Calls over one of both halves: the durable one, a store on its disk, or the volatile one, a memory.
use Rattle.std.specs.Prelude.{◌≡◌, ℕ, ◌≤◌, Bool, true, false, cond, length, Option, Result, IfErr}
use Rattle.sb_disk.specs.Disk.{Story}
use Rattle.sb_drive.specs.Slots.{Slots}
use Rattle.sb_drive.specs.Spaces.{UnlessDown, Wanted}
use Rattle.sb_drive.specs.declared.space.SpaceFault.{SpaceFault}
use Rattle.sb_memory.specs.Contents.{Contents, Grows}
use Rattle.sb_memory.specs.MemorySpaces as memory
use Rattle.sb_memory.specs.MemorySpaces.{IsMemoryFault}
use Rattle.sb_txn.specs.Parts.{Parts, parts}
use Rattle.sb_txn.specs.State.{State}
use Rattle.sb_space.specs.Transactions.{KeepsChanges, WasAt}
use Rattle.sb_space.specs.Works.{Fails, HasPages, Works}
use Rattle.sb_halves.specs.declared.halves.Halves.{Halves}

-- both halves, with the disk
pub record Both (D : Type 0) : Type 0 where
  pub disk : D
  pub store : State
  pub memory : Contents

abbrev pub both : {D : Type 0} → D → Halves → Both D
both d h = record { disk = d; store = h.durable.store; memory = h.volatile }

abbrev pub parts_of : {D : Type 0} → (D → Option Story) → (D → ℕ) → Both D → Parts
parts_of told len b = parts told len b.disk b.store

-- ---- one half
-- these are its pages
abbrev pub HasPagesIn : {D : Type 0} → (D → Option Story) → (D → ℕ) → Bool → Wanted → Slots → Both D → Type 0
HasPagesIn told len true want s b = HasPages want s (parts_of told len b)
HasPagesIn told len false want s b = memory.HasPages s b.memory

-- so many has it
abbrev pub total_in : {D : Type 0} → Bool → Both D → ℕ
total_in durable b = cond durable b.store.pool.geometry.pages 16384

-- Why a call over it is refused. One over the volatile half leaves the memory as it was.
abbrev pub FailsIn : {D : Type 0} → (D → ℕ) → Bool → SpaceFault → Both D → Both D → Type 0
FailsIn faults true e old new = Fails faults e old.disk new.disk old.store new.store
FailsIn faults false e old new = (new.memory ≡ old.memory) × IsMemoryFault e

-- ---- both
-- the other half is as it was
abbrev pub KeepsOther : {D : Type 0} → Bool → Both D → Both D → Type 0
KeepsOther true old new = new.memory ≡ old.memory
KeepsOther false old new = (new.disk ≡ old.disk) × (new.store ≡ old.store)

-- What stood at a savepoint stands: the transaction's changes, and what going back to them gives, unless the store went down; the memory's writes.
pub record KeepsSavepoints {D : Type 0} (told : D → Option Story) (len : D → ℕ) (tx : ℕ) (old new : Both D) : Type 0 where
  pub changes : KeepsChanges tx old.store.book new.store.book
  pub was : new.store.book.down ≡ false → (want : Wanted) (s : Slots) (n : ℕ) → WasAt tx want s n (parts_of told len old)
      → WasAt tx want s n (parts_of told len new)
  pub writes : length old.memory.past ≤ length new.memory.past
  pub stack : Grows old.memory new.memory

-- The transaction has so many changes more at most, none for the volatile half. The store went down only where the call says so.
pub record WorksIn {D T : Type 0} (told : D → Option Story) (len faults : D → ℕ) (tx : ℕ) (durable : Bool) (changes : ℕ) (old new : Both D)
    (result : Result T SpaceFault) : Type 0 where
  pub works : Works told len faults tx (cond durable changes 0) old.disk new.disk old.store new.store
  pub up : UnlessDown result (new.store.book.down ≡ true → old.store.book.down ≡ true)
  pub fails : IfErr result (λ e. FailsIn faults durable e old new)
