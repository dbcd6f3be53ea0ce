-- What making a store leaves of a disk.
use Rattle.std.specs.Prelude.{◌≡◌, ◌⊎◌, ℕ, ◌<◌, ◌≤◌, Option, Some, None, Result, IsErrOf, List, slice_index}
use Rattle.sb_disk.specs.Causes.{Rose}
use Rattle.sb_disk.specs.Disk.{Story, WhereTold}
use Rattle.sb_log.specs.declared.geometry.Geometry.{Geometry}
use Rattle.sb_images.specs.Layout.{gates_start, log_start, need, super_of, IsStoreOf}
use Rattle.sb_images.specs.Images.{Restores}
use Rattle.sb_images.specs.Store.{IsMounted, OnDisk, AreShut}
use Rattle.sb_recover.specs.declared.fault.OpenFault.{OpenFault}
use Rattle.sb_recover.specs.declared.fault.OpenFault.TheVariants.{Fault, TooSmall, AlreadyStore, NoMemory}
use Rattle.sb_recover.specs.FirstPages.{super_page, first_page}
use Rattle.sb_recover.specs.Geometries.{HoldsNone}
use Rattle.sb_recover.specs.SuperPage.{IsNoStore}
use Rattle.sb_recover.specs.Laying.{KeepsLog}

-- the image is one of no store, or restores the pages of a new one
abbrev pub IsFormatting : Geometry → List ℕ → Type 0
IsFormatting g image = IsNoStore image ⊎ Restores g (first_page g.pages) image

-- the contents are a store
abbrev pub HoldsStore : Option Story → Type 0
HoldsStore None = Unit {0}
HoldsStore (Some s) = (g : Geometry) × IsStoreOf g s.now.reads

-- Where the disk tells that it holds a store, it tells the same afterwards: the bytes, what is pending and all moments.
abbrev pub KeepsStore : Option Story → Option Story → Type 0
KeepsStore None new = Unit {0}
KeepsStore (Some s) new = (g : Geometry) → IsStoreOf g s.now.reads → new ≡ Some s

-- the super page is that of a new store
abbrev pub HasSuper : Option Story → Geometry → Type 0
HasSuper None g = Unit {0}
HasSuper (Some s) g = super_of s.now.reads ≡ super_page g

-- each gate of a chunk is 0
abbrev pub AreZero : Option Story → Type 0
AreZero None = Unit {0}
AreZero (Some s) = (i : ℕ) → gates_start ≤ i → i < log_start → slice_index s.now.reads i ≡ 0

-- A new store where there was none. Nothing is pending, its first pages are restored and on the disk, and each gate of a chunk is 0.
pub record IsNew (g : Geometry) (old new : Option Story) : Type 0 where
  pub before : HoldsNone old
  pub mounted : IsMounted (first_page g.pages) new g
  pub pages : OnDisk (first_page g.pages) new g
  pub super : HasSuper new g
  pub shut : AreShut new g
  pub zeros : AreZero new
  pub log : WhereTold old new (KeepsLog g)

-- What is refused, and what is left then. Without a fault nothing is written, and no call at all is made where the disk is too small.
abbrev pub FormatErr : {D : Type 0} → (D → Option Story) → OpenFault → ℕ → Geometry → D → D → Type 0
FormatErr told Fault size g old new = Unit {0}
FormatErr told (TooSmall have needed) size g old new =
    (have ≡ size) × (needed ≡ need g.pages g.log) × (size < needed) × (new ≡ old)
FormatErr told AlreadyStore size g old new = HoldsStore (told old) × (told new ≡ told old)
FormatErr told NoMemory size g old new = new ≡ old
FormatErr told other size g old new = ⊥

-- The disk keeps its length, its count of faults never falls, and Fault is answered only where that rose.
pub record KeepsDisk {D T : Type 0} (len faults : D → ℕ) (old new : D) (result : Result T OpenFault)
    : Type 0 where
  pub size : len new ≡ len old
  pub later : faults old ≤ faults new
  pub cause : IsErrOf result Fault → Rose (faults old) (faults new)
