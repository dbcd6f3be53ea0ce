-- What holds of images, whatever they are.
use Rattle.std.specs.Prelude.{◌≡◌, ℕ, ◌<◌, List}
use Rattle.sb_log.specs.declared.geometry.Geometry.{Geometry}
use Rattle.sb_images.specs.Layout.{IsStoreOf}
use Rattle.sb_images.specs.Images.{Restores}

-- an image is one of a store of one geometry
abbrev pub HasOneGeometry : Type 0
HasOneGeometry = (g h : Geometry) (image : List ℕ) → IsStoreOf g image → IsStoreOf h image → g ≡ h

-- and its pages are restored in one way
abbrev pub RestoresOneWay : Type 0
RestoresOneWay =
    (g h : Geometry) (P Q : ℕ → List ℕ) (image : List ℕ) → Restores g P image → Restores h Q image
    → (p : ℕ) → p < g.pages → P p ≡ Q p
