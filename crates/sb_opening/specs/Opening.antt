-- What a disk's contents stand for, and why a session isn't opened over them.
use Rattle.std.specs.Prelude.{◌≡◌, ◌⊎◌, ℕ, true, false, is_some, List, [], ◌∷◌, Option, Some, None}
use Rattle.sb_disk.specs.Disk.{Story}
use Rattle.sb_disk.specs.Moments.{LeavesOnly}
use Rattle.sb_images.specs.Images.{Restores}
use Rattle.sb_images.specs.Store.{IfTold, IsMounted}
use Rattle.sb_log.specs.declared.geometry.Geometry.{Geometry}
use Rattle.sb_recover.specs.Restarted.{WasSynced}
use Rattle.sb_recover.specs.declared.fault.OpenFault.{OpenFault}
use Rattle.sb_recover.specs.declared.fault.OpenFault.TheVariants.{Damaged, MissingExtension, NoMemory}
use Rattle.sb_relation.specs.Db.{Db}
use Rattle.sb_plain.specs.State.{State}
use Rattle.sb_registry.specs.Boxes.{Meanings}
use Rattle.sb_drive.specs.Spaces.{Wanted}
use Rattle.sb_txn.specs.Clauses.{HoldsPages}
use Rattle.sb_txn.specs.Opened.{WasRestarted}
use Rattle.sb_txn.specs.Parts.{Parts}
use Rattle.sb_space.specs.Opening.{IsFirstDamaged, SpaceErr}
use Rattle.sb_space.specs.Table.{AreWhole, IsTable, slots_in, table_len}
use Rattle.sb_standing.specs.Standing.{owners_in}
use Rattle.sb_standing.specs.Tables.{Kept, Tables}
use Rattle.sb_session.specs.Opened.{IsDurable}
use Rattle.sb_session.specs.Transactions.{IsCommitted}
use Rattle.sb_vectors.specs.Vectors.{live_codes, spare_codes}
use Rattle.sb_opening.specs.declared.codes.Named.{Named}
use Rattle.sb_opening.specs.Naming.{all_live, first_absent, named_in}
use Rattle.sb_opening.specs.Owners.{TellsStray}

-- The disk tells its contents: they restore these pages, which keep the database, whichever of the boxes are live.
pub record IsStored (m : Meanings) (told : Option Story) (g : Geometry) (want : Wanted) (db : Db) : Type 0 where
  pub tells : is_some told ≡ true
  pub mounted : IsMounted want told g
  pub committed : IsCommitted (all_live m) (table_len g.pages) g.pages want db

-- The disk tells its contents: they restore these pages, which are whole and have a catalogue of these relations, with rows that some boxes keep.
pub record IsCatalogued (told : Option Story) (g : Geometry) (want : Wanted) (kept : List Kept) : Type 0 where
  pub tells : is_some told ≡ true
  pub mounted : IsMounted want told g
  pub whole : AreWhole g.pages want
  pub boxes : Meanings
  pub tables : Tables boxes IsDurable (table_len g.pages) (slots_in g.pages want) kept

-- these pages are wanted of a store, with some that are its pages now
abbrev pub Wants : (ℕ → List ℕ) → Parts → Type 0
Wants want p = (now : ℕ → List ℕ) × HoldsPages want now p

-- where they have a catalogue, there is a box for each code that it names
abbrev pub HasBoxes : Meanings → Option Story → Type 0
HasBoxes m told = (g : Geometry) (want : Wanted) (kept : List Kept) → IsCatalogued told g want kept → first_absent m (named_in kept) ≡ None

-- the state at the opening: the database is the only one that was committed, and no transaction is open
abbrev pub opened : Meanings → Db → State
opened m db = record { live = live_codes m; spare = spare_codes m; commits = db ∷ []; transaction = None; down = false }

-- Over contents that stand for a database nothing is damaged, and what is missing is the first code of which no box is there.
abbrev pub MayRefuse : Meanings → List Named → OpenFault → Type 0
MayRefuse m named (Damaged page) = ⊥
MayRefuse m named (MissingExtension code) = first_absent m named ≡ Some code
MayRefuse m named e = Unit {0}

-- where the owner table hasn't its form, its first page that hasn't is named
abbrev pub NamesTable : OpenFault → Option Story → Type 0
NamesTable (Damaged page) told = (want : ℕ → List ℕ) (g : Geometry) → IsMounted want told g
    → IfTold told ((IsTable g.pages want → ⊥) → IsFirstDamaged g.pages want page)
NamesTable e told = Unit {0}

-- Where the contents have a catalogue, and the owner table its form: a page called damaged has the first entry that is the owner of no instance, and
-- a box is missing only where there is no such entry.
abbrev pub NamesEntry : OpenFault → Option Story → Type 0
NamesEntry e told = (g : Geometry) (want : Wanted) (kept : List Kept) → IsCatalogued told g want kept → IsTable g.pages want
    → TellsStray (slots_in g.pages want) (owners_in kept) e

-- Where the contents have a catalogue, a code that is called missing is the first that it names of which no box is there.
abbrev pub NamesMissing : Meanings → OpenFault → Option Story → Type 0
NamesMissing m (MissingExtension code) told = (g : Geometry) (want : Wanted) (kept : List Kept) → IsCatalogued told g want kept
    → first_absent m (named_in kept) ≡ Some code
NamesMissing m e told = Unit {0}

-- The disk was restarted, as a store of some sizes, and then looked at: all along a crash leaves the pages that were restored.
pub record WasLookedAt (old new : Option Story) : Type 0 where
  pub between : Option Story
  pub restarted : WasRestarted old between
  pub leaves : (want : ℕ → List ℕ) (g : Geometry) → IsMounted want old g → LeavesOnly between new (Restores g want)

-- Why a session isn't opened: its space isn't; or it is, behind a restart, and a box is missing, the catalogue is damaged or memory is wanting.
abbrev pub OpeningErr : OpenFault → Option Story → Option Story → Type 0
OpeningErr (MissingExtension code) old new = WasLookedAt old new
OpeningErr (Damaged page) old new = WasLookedAt old new
OpeningErr NoMemory old new = WasSynced old new ⊎ WasLookedAt old new
OpeningErr e old new = SpaceErr e old new
