-- The store that a disk holds.
use Rattle.std.specs.Prelude.{ℕ, ◌≤◌, Option, Some, None}
use Rattle.sb_disk.specs.Disk.{Story}
use Rattle.sb_log.specs.declared.geometry.Geometry.{Geometry}
use Rattle.sb_images.specs.Layout.{need, IsGeometry, IsStoreOf}
use Rattle.sb_recover.specs.declared.fault.OpenFault.{OpenFault}
use Rattle.sb_recover.specs.declared.fault.OpenFault.TheVariants.{Fault, NotStore}
use Rattle.sb_recover.specs.SuperPage.{IsNoStore}

-- the contents are a store of these sizes, where the disk tells them
abbrev pub IsStoreTold : Option Story → Geometry → Type 0
IsStoreTold None g = Unit {0}
IsStoreTold (Some s) g = IsStoreOf g s.now.reads

-- the disk has room for a store of these sizes, and its contents, where it tells them, are one
pub record IsStoreIn (told : Option Story) (size : ℕ) (g : Geometry) : Type 0 where
  pub sizes : IsGeometry g
  pub room : need g.pages g.log ≤ size
  pub store : IsStoreTold told g

-- the contents are no store, where the disk tells them
abbrev pub HoldsNone : Option Story → Type 0
HoldsNone None = Unit {0}
HoldsNone (Some s) = IsNoStore s.now.reads

-- why no store is found
abbrev pub NoStoreErr : Option Story → OpenFault → Type 0
NoStoreErr told NotStore = HoldsNone told
NoStoreErr told Fault = Unit {0}
NoStoreErr told other = ⊥
