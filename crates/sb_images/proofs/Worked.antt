-- A worked geometry: 64 pages and a log of 2,097,152 bytes.
use Rattle.std.proofs.Common.{◌≡◌, ℕ, List, [], ◌∷◌, ◌++◌, refl, arith}
use Rattle.sb_bytes.specs.Field.{number_at}
use Rattle.sb_log.specs.declared.geometry.Geometry.{Geometry}
use Rattle.sb_images.specs.Layout.{need, IsGeometry, place_of, name_of_store, IsSuper}

abbrev sizes : Geometry
sizes = record { pages = 64; log = 2097152; version = 1 }

pub sizes-need : need 64 2097152 ≡ 2428928
sizes-need = refl

pub sizes-fit : IsGeometry sizes
sizes-fit = record { version = refl; pages = (omega arith, omega arith); log = (omega arith, omega arith) }

pub sizes-first_page : place_of sizes 0 ≡ 2166784
sizes-first_page = refl

pub sizes-last_page : place_of sizes 63 ≡ 2424832
sizes-last_page = refl

-- the first bytes of its super page
abbrev front : List ℕ
front =
    165 ∷ 0 ∷ 0 ∷ 0 ∷ 0 ∷ 0 ∷ 0 ∷ 0 ∷ (name_of_store
    ++ (0 ∷ 1 ∷ 0 ∷ 0 ∷ 0 ∷ 0 ∷ 0 ∷ 64 ∷ 0 ∷ 0 ∷ 0 ∷ 0 ∷ 0 ∷ 32 ∷ 0 ∷ 0 ∷ []))

pub sizes-super : IsSuper sizes front
unfolding number_at
sizes-super = record { gate = refl; name = refl; version = refl; pages = refl; log = refl }
