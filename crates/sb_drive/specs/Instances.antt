-- The owner and the root of a new instance.
use Rattle.std.specs.Prelude.{◌≡◌, ◌≢◌, ◌⊎◌, ℕ, ◌<◌, ◌≤◌, List, All}
use Rattle.std.specs.List.{Contains}
use Rattle.sb_drive.specs.Slots.{Slots}

-- some page is this owner's, or it is among these
abbrev pub IsUsed : Slots → List ℕ → ℕ → Type 0
IsUsed s taken owner = Contains taken owner ⊎ ((n : ℕ) × ((s n).0 ≡ owner))

-- the least owner from 3 on that no page has and that isn't among these
pub record IsLeastOwner (s : Slots) (taken : List ℕ) (owner : ℕ) : Type 0 where
  pub from : 3 ≤ owner
  pub unused : (n : ℕ) → (s n).0 ≢ owner
  pub untaken : All (λ o. o ≢ owner) taken
  pub least : (o : ℕ) → 3 ≤ o → o < owner → IsUsed s taken o

-- the least page that is nobody's
pub record IsLeastFree (s : Slots) (page : ℕ) : Type 0 where
  pub below : page < 65536
  pub free : (s page).0 ≡ 0
  pub least : (m : ℕ) → m < page → (s m).0 ≢ 0
