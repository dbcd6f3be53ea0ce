-- A store that is borrowed with its disk and a transaction, as a space of pages.
use Rattle.std.specs.Prelude.{◌≡◌, ℕ, true, Option, Result, IfErr}
use Rattle.std.specs.Borrow.{MutBor}
use Rattle.sb_disk.specs.Disk.{Story}
use Rattle.sb_drive.specs.declared.space.SpaceFault.{SpaceFault}
use Rattle.sb_drive.specs.Spaces.{UnlessDown}
use Rattle.sb_txn.specs.Parts.{Parts, parts}
use Rattle.sb_txn.specs.State.{State}
use Rattle.sb_space.specs.Works.{Serves, Works, Fails}

-- what is borrowed
pub record Lent (D : Type 0) : Type 0 where
  pub store : MutBor State
  pub disk : MutBor D
  pub tx : ℕ

abbrev pub parts_in : {D : Type 0} → (D → Option Story) → (D → ℕ) → Lent D → Parts
parts_in told len l = parts told len l.disk.now l.store.now

-- The same store, disk and transaction are borrowed, and so many changes at most were made.
pub record Leads {D : Type 0} (told : D → Option Story) (len faults : D → ℕ) (changes : ℕ) (old new : Lent D) : Type 0 where
  pub store : new.store.ghost_name ≡ old.store.ghost_name
  pub disk : new.disk.ghost_name ≡ old.disk.ghost_name
  pub tx : new.tx ≡ old.tx
  pub works : Works told len faults old.tx changes old.disk.now new.disk.now old.store.now new.store.now

-- What a call keeps and how it is refused. The store goes down in it only where it says so.
pub record Calls {D T : Type 0} (told : D → Option Story) (len faults : D → ℕ) (changes : ℕ) (old new : Lent D) (result : Result T SpaceFault) : Type 0 where
  pub leads : Leads told len faults changes old new
  pub ready : Serves new.tx (parts_in told len new)
  pub up : UnlessDown result (new.store.now.book.down ≡ true → old.store.now.book.down ≡ true)
  pub fails : IfErr result (λ e. Fails faults e old.disk.now new.disk.now old.store.now new.store.now)
