-- A store with the disk that it is on.
use Rattle.std.specs.Prelude.{ℕ, Option}
use Rattle.sb_disk.specs.Disk.{Story}
use Rattle.sb_journal.specs.State as journal
use Rattle.sb_pool.specs.State as pool
use Rattle.sb_txn.specs.Book.{Book}
use Rattle.sb_txn.specs.State.{State, together}

-- a store, what its disk tells, and how long the disk is
pub record Parts : Type 0 where
  pub told : Option Story
  pub size : ℕ
  pub store : State

abbrev pub parts : {D : Type 0} → (D → Option Story) → (D → ℕ) → D → State → Parts
parts told len disk s = record { told = told disk; size = len disk; store = s }

-- the same of a store of these parts
abbrev pub stored : Option Story → ℕ → journal.State → pool.State → Book → Parts
stored told size j p book = record { told = told; size = size; store = together j p book }
