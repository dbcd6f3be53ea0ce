-- Opening a store of owned pages: its table page by page, what is refused, and what a new store has.
use Rattle.std.specs.Prelude.{◌≡◌, ◌≢◌, ◌⊎◌, ℕ, ◌+◌, ◌*◌, ◌<◌, ◌≤◌, ◌↔◌, true, is_some, Option, Some, Result, OnOk, IsErrOf, List, [], ◌++◌}
use Rattle.sb_bytes.specs.Field.{AreBytes, number_at}
use Rattle.sb_disk.specs.Causes.{Rose}
use Rattle.sb_disk.specs.Disk.{Story}
use Rattle.sb_drive.specs.declared.space.SpaceFault.{SpaceFault}
use Rattle.sb_drive.specs.declared.space.SpaceFault.TheVariants as space
use Rattle.sb_drive.specs.Slots.{nobodys, owned}
use Rattle.sb_forms.specs.Maps.{map_in}
use Rattle.sb_images.specs.Layout.{IsGeometry}
use Rattle.sb_images.specs.Store.{IfTold, IsMounted}
use Rattle.sb_log.specs.declared.geometry.Geometry.{Geometry}
use Rattle.sb_log.specs.Records.{Record}
use Rattle.sb_recover.specs.declared.fault.OpenFault.{OpenFault}
use Rattle.sb_recover.specs.declared.fault.OpenFault.TheVariants.{Fault, Damaged}
use Rattle.sb_recover.specs.FirstPages.{first_page, empty_leaf}
use Rattle.sb_txn.specs.Book.{empty_book}
use Rattle.sb_txn.specs.Clauses.{HoldsAll, IsReady, HoldsPages, LeavesWanted, Loads}
use Rattle.sb_txn.specs.Parts.{Parts, parts}
use Rattle.sb_txn.specs.Tied.{Holds}
use Rattle.sb_txn.specs.Opened.{OpenErr, WasRestarted}
use Rattle.sb_txn.specs.State.{State}
use Rattle.sb_space.specs.Table.{AreWhole, IsTable, slots_in, table_len}
use Rattle.sb_space.specs.Works.{HasPages}

-- ---- the table page by page
-- The entry of page n may be this owner: 1 of the table's own pages, another of other pages of the store, and 0 of a page that the store hasn't.
pub record IsEntry (pages n owner : ℕ) : Type 0 where
  pub own : n < table_len pages → owner ≡ 1
  pub other : table_len pages ≤ n → n < pages → owner ≢ 1
  pub none : pages ≤ n → owner ≡ 0

-- these bytes are page p of the table, as far as its own 2,048 entries go
abbrev pub AreEntries : ℕ → ℕ → List ℕ → Type 0
AreEntries pages p bytes = (k : ℕ) → k < 2048 → IsEntry pages (2048 * p + k) (number_at 2 bytes (2 * k))

-- page p of the owner table has the form, as far as its own entries go
abbrev pub IsTablePage : ℕ → (ℕ → List ℕ) → ℕ → Type 0
IsTablePage pages now p = AreEntries pages p (now p)

-- so has each page below this one
abbrev pub AreTablePages : ℕ → (ℕ → List ℕ) → ℕ → Type 0
AreTablePages pages now count = (p : ℕ) → p < count → IsTablePage pages now p

-- the table has its form where each of its pages has
abbrev pub TablesByPages : Type 0
TablesByPages = (pages : ℕ) (now : ℕ → List ℕ) → IsTable pages now ↔ AreTablePages pages now (table_len pages)

-- page p is the first one of the table that hasn't the form
pub record IsFirstDamaged (pages : ℕ) (now : ℕ → List ℕ) (p : ℕ) : Type 0 where
  pub within : p < table_len pages
  pub damaged : IsTablePage pages now p → ⊥
  pub before : AreTablePages pages now p

-- ---- what is opened
-- where the disk tells its bytes, so it is of the pages now
abbrev pub WhereNow : Parts → ((ℕ → List ℕ) → Type 0) → Type 0
WhereNow p IsSo = (want now : ℕ → List ℕ) → HoldsPages want now p → is_some p.told ≡ true → IsSo now

-- The table of the pages now has its form, so that they are those of owners, where each of their bytes is one. There are 65,536 pages at most, and no transaction is active.
pub record IsSpace (p : Parts) : Type 0 where
  pub table : WhereNow p (IsTable p.store.pool.geometry.pages)
  pub has : (want now : ℕ → List ℕ) → HoldsPages want now p → is_some p.told ≡ true → ((n : ℕ) → n < p.store.pool.geometry.pages → AreBytes (now n))
      → HasPages want (slots_in p.store.pool.geometry.pages now) p
  pub few : p.store.pool.geometry.pages ≤ 65536
  pub none : p.store.book.actives ≡ []

-- A refusal Damaged names the first page of the table that hasn't the form, where the disk tells which pages it holds.
abbrev pub NamesDamage : OpenFault → Option Story → Type 0
NamesDamage (Damaged p) told = (want : ℕ → List ℕ) (g : Geometry) → IsMounted want told g → IfTold told (IsFirstDamaged g.pages want p)
NamesDamage e told = Unit {0}

-- Why a space isn't opened: its store isn't; or it is, behind a restart, and a page of the table is damaged.
abbrev pub SpaceErr : OpenFault → Option Story → Option Story → Type 0
SpaceErr (Damaged p) old new = WasRestarted old new
SpaceErr e old new = OpenErr e old new

-- ---- the pages of a store that was opened are read
-- nothing was logged since it was opened
pub record IsFresh (p : Parts) : Type 0 where
  pub ready : IsReady p
  pub book : p.store.book ≡ empty_book p.store.pool.geometry.pages

-- Pages were brought into memory. All else is as it was, and the disk wasn't written.
pub record OnlyLoads (old new : Parts) : Type 0 where
  pub told : new.told ≡ old.told
  pub size : new.size ≡ old.size
  pub geometry : new.store.pool.geometry ≡ old.store.pool.geometry
  pub book : new.store.book ≡ old.store.book
  pub journal : new.store.journal ≡ old.store.journal
  pub ready : IsReady new
  pub logged : (want now : ℕ → List ℕ) (opened pending : List Record) → Holds want now opened pending old → HoldsAll want now (opened ++ pending) new

-- Why a page of the table is refused: the disk failed a call, or an entry of it can't be.
abbrev pub PageErr : ℕ → Parts → ℕ → ℕ → OpenFault → Type 0
PageErr page p before after Fault = Rose before after
PageErr page p before after (Damaged n) = (n ≡ page) × WhereNow p (λ now. IsTablePage p.store.pool.geometry.pages now page → ⊥)
PageErr page p before after e = ⊥

-- Why a table is refused: the disk failed a call, or this is its first page that hasn't the form.
abbrev pub TableErr : Parts → ℕ → ℕ → OpenFault → Type 0
TableErr p before after Fault = Rose before after
TableErr p before after (Damaged n) = WhereNow p (λ now. IsFirstDamaged p.store.pool.geometry.pages now n)
TableErr p before after e = ⊥

-- ---- a look at the table outside of a transaction too
-- a look at a store that is down answers Down and touches nothing
pub record LooksDown {D T : Type 0} (old new : D) (s t : State) (result : Result T SpaceFault) : Type 0 where
  pub answer : IsErrOf result space.Down
  pub disk : new ≡ old
  pub store : t ≡ s

-- What a look keeps. A page may have been brought into memory; Fault means that the disk failed a call within it, and from then on the store is down.
pub record Looks {D T : Type 0} (told : D → Option Story) (len faults : D → ℕ) (old new : D) (s t : State) (result : Result T SpaceFault) : Type 0 where
  pub loads : OnOk result (Loads (parts told len old s) (parts told len new t))
  pub leaves : LeavesWanted (parts told len old s) (parts told len new t)
  pub size : len new ≡ len old
  pub geometry : t.pool.geometry ≡ s.pool.geometry
  pub later : faults old ≤ faults new
  pub ready : IsReady (parts told len new t)
  pub down : s.book.down ≡ true → LooksDown old new s t result
  pub only : IsErrOf result space.Down → s.book.down ≡ true
  pub fault : IsErrOf result space.Fault → Rose (faults old) (faults new) × (t.book.down ≡ true)
  pub up : t.book.down ≡ true → (s.book.down ≡ true) ⊎ IsErrOf result space.Fault

-- ---- a new store
-- The pages of a new store: those of the table, then the catalogue's root, which is an empty leaf of a tree, and else nobody's.
pub record IsNewStore (pages : ℕ) (want : ℕ → List ℕ) : Type 0 where
  pub whole : AreWhole pages want
  pub table : IsTable pages want
  pub own : (n : ℕ) → n < table_len pages → slots_in pages want n ≡ (1, [])
  pub root : slots_in pages want (table_len pages) ≡ (2, empty_leaf)
  pub rest : (n : ℕ) → table_len pages < n → slots_in pages want n ≡ nobodys
  pub empty : map_in (table_len pages) (owned (slots_in pages want) 2) ≡ Some []

-- what was formatted as a store of these sizes is one
abbrev pub NewStores : Type 0
NewStores = (g : Geometry) → IsGeometry g → IsNewStore g.pages (first_page g.pages)
