-- Why no session is opened over a store that is made.
use Rattle.std.specs.Prelude.{◌⊎◌, ℕ, Option}
use Rattle.sb_disk.specs.Disk.{Story}
use Rattle.sb_disk.specs.Moments.{LeavesOnly}
use Rattle.sb_images.specs.Images.{Restores}
use Rattle.sb_images.specs.Store.{IfTold}
use Rattle.sb_log.specs.declared.geometry.Geometry.{Geometry}
use Rattle.sb_recover.specs.FirstPages.{first_page}
use Rattle.sb_recover.specs.Formatting.{FormatErr, IsNew}
use Rattle.sb_recover.specs.declared.fault.OpenFault.{OpenFault}
use Rattle.sb_recover.specs.declared.fault.OpenFault.TheVariants.{Fault, NoMemory}
use Rattle.sb_opening.specs.Opening.{OpeningErr}

-- the disk failed a call, or memory is wanting
abbrev pub IsOutside : OpenFault → Type 0
IsOutside Fault = Unit {0}
IsOutside NoMemory = Unit {0}
IsOutside e = ⊥

-- The store was made, and then it wasn't opened: for no fault of its own, where the disk tells its bytes. From then on a crash leaves it.
pub record IsMadeOnly (e : OpenFault) (g : Geometry) (old new : Option Story) : Type 0 where
  pub between : Option Story
  pub made : IsNew g old between
  pub refused : OpeningErr e between new
  pub leaves : LeavesOnly between new (Restores g (first_page g.pages))
  pub outside : IfTold old (IsOutside e)

-- no store is made; or it is, and then it isn't opened
abbrev pub CreateErr : {D : Type 0} → (D → Option Story) → OpenFault → ℕ → Geometry → D → D → Type 0
CreateErr told e size g old new = FormatErr told e size g old new ⊎ IsMadeOnly e g (told old) (told new)
