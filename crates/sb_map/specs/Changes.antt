-- Another value for a key, or none.
use Rattle.std.specs.Prelude.{◌≡◌, ℕ, ◌+◌, ◌≤◌, Bool, true, false, List, length, Option, Some, None, is_some}
use Rattle.std.specs.FinMap.Entries.{find, put}
use Rattle.sb_node.specs.Entries.{Entry, key_cmp}
use Rattle.sb_ctx.specs.Costs.{tree_cost}
use Rattle.sb_forms.specs.Maps.{map_in}
use Rattle.sb_forms.specs.Pages.{Pages}
use Rattle.sb_ctx.specs.View.{View, HoldsPart, edits_of, stored}
use Rattle.sb_btree.specs.Removes.{entries_without}
use Rattle.sb_btree.specs.declared.walk.Walk.{Walk}
use Rattle.sb_btree.specs.declared.walk.Walk.TheVariants.{Ready}
use Rattle.sb_drive.specs.Slots.{Slots}
use Rattle.sb_drive.specs.Spaces.{Wanted}
use Rattle.sb_map.specs.declared.place.Place.{Place}
use Rattle.sb_map.specs.Maps.{Becomes, OverMap}

-- the bytes that a key has at most, and those of a key with its value
pub record IsSmall (key value : List ℕ) : Type 0 where
  pub short : length key ≤ 602
  pub both : length key + length value ≤ 2032

-- the entries once a key has this value, or none
abbrev pub changed : List ℕ → Option (List ℕ) → List Entry → List Entry
changed key (Some value) es = put key_cmp key value es
changed key None es = entries_without key es

-- a key can always get a value, and only one that stands can lose it
abbrev pub is_change : List ℕ → Option (List ℕ) → List Entry → Bool
is_change key (Some value) es = true
is_change key None es = is_some (find key_cmp key es)

-- The key is gone, if it stood, and other entries stay; where it didn't stand nothing is changed.
pub record RemovesKey {S : Type 0} (Has : Wanted → Slots → S → Type 0) (Leads : ℕ → S → S → Type 0) (place : Place) (key : List ℕ) (old new : S) (stood : Bool) : Type 0 where
  pub stands : OverMap Has place old (λ es. stood ≡ is_some (find key_cmp key es))
  pub becomes : Becomes Has place old new (entries_without key)
  pub none : stood ≡ false → Leads 0 old new

-- ---- over pages that are a map
-- what is so of all maps of which a Ctx holds a part
abbrev pub OverMaps : View → ℕ → (Pages → List Entry → Type 0) → Type 0
OverMaps c root IsSo = (P : Pages) (es : List Entry) → HoldsPart c P → map_in root P ≡ Some es → IsSo P es

-- the end of a walk: whether there was a change to be made, and the map with it
abbrev pub Makes : List ℕ → Option (List ℕ) → ℕ → Pages → List Entry → View → Walk Bool → Type 0
Makes key value root P es c (Ready done) = (done ≡ is_change key value es) × (done ≡ true → map_in root (stored c P) ≡ Some (changed key value es))
Makes key value root P es c walk = Unit {0}

-- the same of a call, with what it costs
pub record IsMade (key : List ℕ) (value : Option (List ℕ)) (root : ℕ) (P : Pages) (es : List Entry) (c : View) (done : Bool) : Type 0 where
  pub is : done ≡ is_change key value es
  pub tree : done ≡ true → map_in root (stored c P) ≡ Some (changed key value es)
  pub edits : edits_of c ≤ tree_cost (length es)
