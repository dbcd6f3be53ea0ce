-- A map in the pages of one owner, over a space of pages: a tree that meets them all.
use Rattle.std.specs.Prelude.{◌≡◌, ℕ, ◌≤◌, List, length, Some}
use Rattle.sb_ctx.specs.Bounds.{plain_bound}
use Rattle.sb_node.specs.Entries.{Entry}
use Rattle.sb_forms.specs.Maps.{map_in}
use Rattle.sb_forms.specs.Pages.{Pages, page_count}
use Rattle.sb_drive.specs.Slots.{Slots, owned}
use Rattle.sb_drive.specs.Spaces.{Leaves, Wanted}
use Rattle.sb_map.specs.declared.place.Place.{Place}

-- what is so of the owner's pages, whatever they are
abbrev pub OverPages : {S : Type 0} → (Wanted → Slots → S → Type 0) → Place → S → (Pages → Type 0) → Type 0
OverPages Has place space IsSo = (want : Wanted) (s : Slots) → Has want s space → IsSo (owned s place.owner)

-- what is so of them and of the entries, where they are a map
abbrev pub OverTree : {S : Type 0} → (Wanted → Slots → S → Type 0) → Place → S → (Pages → List Entry → Type 0) → Type 0
OverTree Has place space IsSo = OverPages Has place space (λ P. (es : List Entry) → map_in place.root P ≡ Some es → IsSo P es)

-- what is so of the entries alone
abbrev pub OverMap : {S : Type 0} → (Wanted → Slots → S → Type 0) → Place → S → (List Entry → Type 0) → Type 0
OverMap Has place space IsSo = OverTree Has place space (λ P es. IsSo es)

-- the entries become these, and the pages of all other owners stay
abbrev pub Becomes : {S : Type 0} → (Wanted → Slots → S → Type 0) → Place → S → S → (List Entry → List Entry) → Type 0
Becomes Has place old new change =
    (want : Wanted) (s : Slots) (es : List Entry) → Has want s old → map_in place.root (owned s place.owner) ≡ Some es
    → Leaves Has place.owner want s new (λ after. map_in place.root after ≡ Some (change es))

-- a map has at most so many pages for its entries: the tree meets them all, so none is lost beside it
abbrev pub MapsAreSmall : Type 0
MapsAreSmall = (root : ℕ) (P : Pages) (es : List Entry) → map_in root P ≡ Some es → page_count P ≤ plain_bound (length es)
