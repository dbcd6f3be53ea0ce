-- What the super page says of a disk.
use Rattle.std.specs.Prelude.{ℕ, Option, Some, None, List}
use Rattle.sb_log.specs.declared.geometry.Geometry.{Geometry}
use Rattle.sb_images.specs.Layout.{IsStoreOf}

-- the image is one of no store, whatever its geometry
abbrev pub IsNoStore : List ℕ → Type 0
IsNoStore image = (g : Geometry) → ¬ IsStoreOf g image

-- the answer is the geometry of the store, or says that there is none
abbrev pub Finds : List ℕ → Option Geometry → Type 0
Finds image None = IsNoStore image
Finds image (Some g) = IsStoreOf g image
