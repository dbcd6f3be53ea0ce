-- What holds of a store's disk while its log grows and its pages are written.
use Rattle.std.specs.Prelude.{◌≡◌, ◌⊎◌, ℕ, ◌<◌, ◌≤◌, true, false, Option, Some, None, List, [], ◌++◌}
use Rattle.sb_disk.specs.Disk.{Story}
use Rattle.sb_disk.specs.Moments.{IsSettled, Sure}
use Rattle.sb_journal.specs.Chunks.{IsOpen}
use Rattle.sb_journal.specs.State.{State, Sound, Stands, chunks_of, pending_of}
use Rattle.sb_log.specs.declared.geometry.Geometry.{Geometry}
use Rattle.sb_log.specs.Records.{Change, Record, AreRecords, Spells, spelled}
use Rattle.sb_log.specs.Standing.{keep, standing, own_changes}
use Rattle.sb_log.specs.Restored.{over, counting, restored, imaged, IsCovered, AreHarmless}
use Rattle.sb_log.specs.Views.{Active}
use Rattle.sb_log.specs.Whole.{IsWhole}
use Rattle.sb_images.specs.Layout.{gates_start, log_start, gates_of, log_of, place_of, page_at, IsStoreOf}
use Rattle.sb_images.specs.Images.{Restores}

-- The contents are a store of these sizes, whose super page isn't pending. A journal that hasn't failed stands in its regions.
pub record IsPlaced (s : Story) (j : State) (g : Geometry) : Type 0 where
  pub store : IsStoreOf g s.now.reads
  pub super : Sure 0 4096 s.now.written
  pub gates : j.gates ≡ gates_of g
  pub log : j.log ≡ log_of g
  pub sound : Sound j
  pub up : j.failed ≡ false
  pub stands : Stands s j

-- The open chunks are the records opened, and the pending bytes those pending. Each page has an Image in an open chunk, or isn't pending.
pub record HoldsRecords (s : Story) (j : State) (g : Geometry) (opened pending : List Record) : Type 0 where
  pub placed : IsPlaced s j g
  pub forced : Spells (chunks_of j s.now.reads) opened
  pub tail : pending_of j s.now.reads ≡ spelled pending
  pub sound : AreRecords (opened ++ pending)
  pub covered : IsCovered (opened ++ pending)
  pub backed : (p : ℕ) → p < g.pages → (imaged opened p ≡ true) ⊎ Sure (place_of g p) 4096 s.now.written

-- what is pending leaves each page as the open chunks restore it
abbrev pub IsPlain : Story → Geometry → List Record → List Record → Type 0
IsPlain s g opened pending = (p : ℕ) → p < g.pages → AreHarmless opened p (page_at g p s.now.reads) pending

-- page p as these records restore it over the contents
abbrev pub restored_on : Story → Geometry → List Record → ℕ → List ℕ
restored_on s g recs p = restored recs p (page_at g p s.now.reads)

-- What is restored are these pages, and it stays so when the pending records are forced.
pub record IsReadyFor (want : ℕ → List ℕ) (s : Story) (j : State) (g : Geometry) (opened pending : List Record)
    : Type 0 where
  pub holds : HoldsRecords s j g opened pending
  pub plain : IsPlain s g opened pending
  pub same : (p : ℕ) → p < g.pages → restored_on s g opened p ≡ want p

-- A store: what is restored are the pages wanted, and if all active transactions committed, it would be the pages now.
pub record IsStore (want now : ℕ → List ℕ) (s : Story) (j : State) (g : Geometry)
    (opened pending : List Record) (active : List Active) : Type 0 where
  pub ready : IsReadyFor want s j g opened pending
  pub whole : IsWhole g.pages (λ p. page_at g p s.now.reads) now opened pending active

-- ---- what a step makes of it
-- All records are in open chunks now, and the disk's pages are as they were.
pub record AllOpen (want : ℕ → List ℕ) (j : State) (g : Geometry) (recs : List Record) (s t : Story) : Type 0 where
  pub ready : IsReadyFor want t j g recs []
  pub pages : (q : ℕ) → q < g.pages → page_at g q t.now.reads ≡ page_at g q s.now.reads

-- The disk's page p is these bytes now, and its other pages are as they were.
pub record IsStolen (want : ℕ → List ℕ) (j : State) (g : Geometry) (opened pending : List Record)
    (p : ℕ) (bytes : List ℕ) (s t : Story) : Type 0 where
  pub ready : IsReadyFor want t j g opened pending
  pub page : page_at g p t.now.reads ≡ bytes
  pub others : (q : ℕ) → q < g.pages → ¬ (q ≡ p) → page_at g q t.now.reads ≡ page_at g q s.now.reads

-- each page of which these records hold no Image is on the disk as it was
abbrev pub KeepsRest : Geometry → List Record → Story → Story → Type 0
KeepsRest g recs s t =
    (p : ℕ) → p < g.pages → (imaged recs p ≡ true) ⊎ (page_at g p t.now.reads ≡ page_at g p s.now.reads)

-- ---- commits
-- of an active transaction the changes that stand
abbrev pub own_of : List Record → Active → List Change
own_of recs a = own_changes a.tx (keep a.tx a.n (standing recs))

-- the pages with these changes written over them
abbrev pub with_changes : List Change → (ℕ → List ℕ) → ℕ → List ℕ
with_changes cs pages p = over (counting (λ tx. true) p cs) (pages p)

-- ---- the same of what is told
-- a fact, where the disk tells its bytes
abbrev pub IfTold : Option Story → Type 0 → Type 0
IfTold None A = Unit {0}
IfTold (Some s) A = A

-- what is restored are these pages
abbrev pub IsReadyOn : (ℕ → List ℕ) → Option Story → State → Geometry → List Record → List Record → Type 0
IsReadyOn want None j g opened pending = Unit {0}
IsReadyOn want (Some s) j g opened pending = IsReadyFor want s j g opened pending

-- a store with these pages wanted, these now, and these transactions active
abbrev pub IsStoreOn : (ℕ → List ℕ) → (ℕ → List ℕ) → Option Story → State → Geometry
    → List Record → List Record → List Active → Type 0
IsStoreOn want now None j g opened pending active = Unit {0}
IsStoreOn want now (Some s) j g opened pending active = IsStore want now s j g opened pending active

-- what is pending, and these records, change nothing that is restored
abbrev pub IsPlainOn : Option Story → Geometry → List Record → List Record → Type 0
IsPlainOn None g opened pending = Unit {0}
IsPlainOn (Some s) g opened pending = IsPlain s g opened pending

-- with these records the pages would be restored so
abbrev pub WillBe : (ℕ → List ℕ) → Option Story → Geometry → List Record → Type 0
WillBe want None g recs = Unit {0}
WillBe want (Some s) g recs = (p : ℕ) → p < g.pages → restored_on s g recs p ≡ want p

-- the disk's pages are these, and no byte of them is pending
abbrev pub OnDisk : (ℕ → List ℕ) → Option Story → Geometry → Type 0
OnDisk pages None g = Unit {0}
OnDisk pages (Some s) g =
    (p : ℕ) → p < g.pages → Sure (place_of g p) 4096 s.now.written × (page_at g p s.now.reads ≡ pages p)

-- no byte is pending, and the contents restore these pages
abbrev pub IsMounted : (ℕ → List ℕ) → Option Story → Geometry → Type 0
IsMounted want None g = Unit {0}
IsMounted want (Some s) g = IsSettled (Some s) × Restores g want s.now.reads

-- these are the chunks of the journal
abbrev pub AreChunks : Option Story → State → List (List ℕ) → Type 0
AreChunks None j chunks = Unit {0}
AreChunks (Some s) j chunks = chunks ≡ chunks_of j s.now.reads

-- no gate is open
abbrev pub AreShut : Option Story → Geometry → Type 0
AreShut None g = Unit {0}
AreShut (Some s) g = (i : ℕ) → gates_start ≤ i → i < log_start → ¬ IsOpen s.now.reads i
