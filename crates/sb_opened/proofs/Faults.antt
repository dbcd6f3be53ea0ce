-- Reading calls on a space, and refusals that aren't the space's.
use Rattle.std.proofs.Common.{◌≡◌, inl, ℕ, Result, Ok, Err, IfErr, List, Some, map, subst, sym}
use Rattle.sb_ctx.specs.Maps.{map_in}
use Rattle.sb_drive.specs.declared.space.SpaceFault.{SpaceFault}
use Rattle.sb_drive.specs.declared.space.SpaceFault.TheVariants.{Damaged, NoMemory}
use Rattle.sb_drive.specs.Slots.{Slots, owned}
use Rattle.sb_drive.specs.Spaces.{IsReadFault, Wanted}
use Rattle.sb_map.specs.declared.place.Place.{Place}
use Rattle.sb_map.specs.Calls as calls
use Rattle.sb_map.specs.Maps.{OverMap}
use Rattle.sb_map.specs.Refusals.{IsUndamaged}
use Rattle.sb_registry.specs.Boxes.{Meanings}
use Rattle.sb_registry.specs.Runs.{IsSound, Looks}
use Rattle.sb_standing.specs.Tables.{Kept, Tables, entry_of}
use Rattle.sb_opened.specs.Opened.{IsDurable, IsOwnFault}

-- a look-up of the map is a reading call
pub Looks-map : {S T : Type 0} (Has : Wanted → Slots → S → Type 0) (Leads : ℕ → S → S → Type 0) (Fails : SpaceFault → S → S → Type 0) (old new : S) (r : Result T SpaceFault) →
    calls.Looks Has Leads Fails old new r → IfErr r IsReadFault → Looks Has Leads Fails old new r
Looks-map Has Leads Fails old new r looks reads = record { same = looks.same; leads = looks.leads; fault = reads; refused = looks.refused }

-- one who reads what the calls have answered, and refuses it, changes nothing
pub Looks-own : {S T : Type 0} (Has : Wanted → Slots → S → Type 0) (Leads : ℕ → S → S → Type 0) (Fails : SpaceFault → S → S → Type 0) (old new : S) (r : Result T SpaceFault) →
    IfErr r IsOwnFault → Leads 0 old new → ((want : Wanted) (s : Slots) → Has want s old → Has want s new) → Looks Has Leads Fails old new r
Looks-own Has Leads Fails old new (Ok x) own leads has = record { same = has; leads = leads; fault = tt; refused = tt }
Looks-own Has Leads Fails old new (Err (Damaged page)) own leads has = record { same = has; leads = leads; fault = tt; refused = leads }
Looks-own Has Leads Fails old new (Err NoMemory) own leads has = record { same = has; leads = leads; fault = tt; refused = inl leads }
Looks-own Has Leads Fails old new (Err e) own leads has = absurd own

-- the entries of the catalogue are a map of its owner
pub catalogue-at : (place : Place) (s : Slots) (kept : List Kept) → place.owner ≡ 2 → map_in place.root (owned s 2) ≡ Some (map entry_of kept) → map_in place.root (owned s place.owner) ≡ Some (map entry_of kept)
catalogue-at place s kept owner is = subst (λ (o : ℕ). map_in place.root (owned s o) ≡ Some (map entry_of kept)) (sym owner) is

-- over a catalogue the map calls no page damaged
IsSound-undamaged : (e : SpaceFault) → IsUndamaged e → IsSound e
IsSound-undamaged (Damaged page) is = is
IsSound-undamaged e is = tt

pub IsSound-tables : {S : Type 0} (Has : Wanted → Slots → S → Type 0) (m : Meanings) (place : Place) (space : S) (want : Wanted) (s : Slots) (kept : List Kept) (e : SpaceFault) → place.owner ≡ 2 →
    OverMap Has place space (λ es. IsUndamaged e) → Has want s space → Tables m IsDurable place.root s kept → IsSound e
IsSound-tables Has m place space want s kept e owner whole has tables = IsSound-undamaged e (whole want s has (map entry_of kept) (catalogue-at place s kept owner tables.catalogue))
