-- What a store is opened as.
use Rattle.std.specs.Prelude.{◌≡◌, ◌⊎◌, ℕ, Option, None, List, []}
use Rattle.sb_disk.specs.Disk.{Story, WhereTold}
use Rattle.sb_log.specs.declared.geometry.Geometry.{Geometry}
use Rattle.sb_images.specs.Store.{IfTold, IsMounted}
use Rattle.sb_recover.specs.Restarted.{IsRestarted, RestartErr, WasSynced}
use Rattle.sb_recover.specs.declared.fault.OpenFault.{OpenFault}
use Rattle.sb_recover.specs.declared.fault.OpenFault.TheVariants.{Fault, BadLog, NoMemory}
use Rattle.sb_txn.specs.Book.{empty_book}
use Rattle.sb_txn.specs.Clauses.{IsReady}
use Rattle.sb_txn.specs.Parts.{Parts}
use Rattle.sb_txn.specs.Tied.{Holds}

-- There was a store of these sizes, and its log restored its pages, whatever they are: they are wanted, and they are the pages now. Its log is empty, and no transaction is active.
pub record IsOpened (old new : Parts) : Type 0 where
  pub book : new.store.book ≡ empty_book new.store.pool.geometry.pages
  pub lens : new.store.journal.lens ≡ []
  pub restart : WhereTold old.told new.told (IsRestarted new.store.pool.geometry)
  pub ready : IsReady new
  pub sizes : (want : ℕ → List ℕ) (g : Geometry) → IsMounted want old.told g → IfTold old.told (g ≡ new.store.pool.geometry)
  pub pages : (want : ℕ → List ℕ) (g : Geometry) → IsMounted want old.told g → Holds want want [] [] new

-- the disk was restarted, as a store of some sizes
abbrev pub WasRestarted : Option Story → Option Story → Type 0
WasRestarted old new = (g : Geometry) × WhereTold old new (IsRestarted g)

-- Why a store isn't opened: what a restart refuses. Memory may be wanting behind the restart too.
abbrev pub OpenErr : OpenFault → Option Story → Option Story → Type 0
OpenErr NoMemory old new = WasSynced old new ⊎ WasRestarted old new
OpenErr other old new = RestartErr other old new

-- Why the journal of a store without an open gate isn't opened. A disk that tells its bytes gives back that no gate is open.
abbrev pub NotOpened : Option Story → OpenFault → Type 0
NotOpened told Fault = Unit {0}
NotOpened told NoMemory = Unit {0}
NotOpened told (BadLog chunk offset) = told ≡ None
NotOpened told other = ⊥
