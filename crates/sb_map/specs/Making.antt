-- A new map.
use Rattle.std.specs.Prelude.{◌≡◌, ◌≢◌, ℕ, [], Some}
use Rattle.sb_forms.specs.Maps.{map_in}
use Rattle.sb_forms.specs.Pages.{Pages, new_pages}
use Rattle.sb_forms.specs.Read.{read_tree}
use Rattle.sb_ctx.specs.View.{View, stored}
use Rattle.sb_drive.specs.Slots.{Slots, owned}
use Rattle.sb_drive.specs.Spaces.{Leaves, Wanted}
use Rattle.sb_map.specs.declared.place.Place.{Place}

-- these are a new root and no other page
abbrev pub IsNew : ℕ → Pages → Type 0
IsNew root P = (n : ℕ) → P n ≡ new_pages root n

-- the root is a page, and there is no other
pub record IsAlone (root : ℕ) (P : Pages) : Type 0 where
  pub there : P root ≢ []
  pub only : (n : ℕ) → n ≢ root → P n ≡ []

-- These pages became a tree without entries, and a map without entries where the root was alone.
pub record IsEmptied (root : ℕ) (P after : Pages) : Type 0 where
  pub tree : read_tree root after ≡ Some []
  pub map : IsAlone root P → map_in root after ≡ Some []

-- so do pages with what a Ctx made of them
abbrev pub MakesEmpty : ℕ → View → Pages → Type 0
MakesEmpty root c P = IsEmptied root P (stored c P)

-- the pages are emptied, and those of all other owners stay
abbrev pub Begins : {S : Type 0} → (Wanted → Slots → S → Type 0) → Place → S → S → Type 0
Begins Has place old new = (want : Wanted) (s : Slots) → Has want s old → Leaves Has place.owner want s new (IsEmptied place.root (owned s place.owner))
