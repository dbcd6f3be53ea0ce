-- What is looked up in the owner table.
use Rattle.std.specs.Prelude.{◌≡◌, ℕ, ◌+◌, ◌-◌, ◌^◌, ◌<◌, min, Bool, true, false, [], Option, Some, None}
use Rattle.sb_ctx.specs.View.{View, holds_fresh}
use Rattle.sb_drive.specs.Slots.{Slots, owned}
use Rattle.sb_drive.specs.Spaces.{IsFreshIn}

-- a page is this owner's, and neither nobody's nor the table's; or the owner has no such page
abbrev pub IsOwned : Slots → ℕ → ℕ → Bool → Type 0
IsOwned s owner n true = (1 < owner) × ((s n).0 ≡ owner)
IsOwned s owner n false = owned s owner n ≡ []

-- the least page that is nobody's and isn't held as a fresh one, if there is one
abbrev pub IsFree : ℕ → Slots → View → Option ℕ → Type 0
IsFree total s c None = (m : ℕ) → m < total → (s m).0 ≡ 0 → holds_fresh c m ≡ true
IsFree total s c (Some n) = IsFreshIn total s c n

-- the first number above this one, up to the greatest of 32 bits
abbrev pub IsBehind : Option ℕ → ℕ → Type 0
IsBehind None first = first ≡ 0
IsBehind (Some n) first = first ≡ min (n + 1) (2 ^ 32 - 1)
