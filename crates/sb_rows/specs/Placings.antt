-- What becomes of a row that wants a record key.
use Rattle.std.specs.Prelude.{◌≡◌, ◌⊎◌, ℕ, Bool, true, false, cond, Option, Some, None, Result, Ok, Err}
use Rattle.sb_relation.specs.Db.{Key, Row}
use Rattle.sb_relation.specs.Keys.{NewKeys, AnyOf, Just, Taken, NoGreater}
use Rattle.sb_treemethod.specs.Move.{Move}
use Rattle.sb_treemethod.specs.Move.TheVariants as move
use Rattle.sb_registry.specs.SpaceFault.{SpaceFault}
use Rattle.sb_registry.specs.Spaces.{LeadsWithin}
use Rattle.sb_rows.specs.declared.changes.Placing.{Placing}
use Rattle.sb_rows.specs.declared.changes.Placing.TheVariants as placing

-- It gets one of these keys, and this is left with it; or none, and this is left without.
abbrev pub IsPlaced : NewKeys → Placing → (Key → Type 0) → Type 0 → Type 0
IsPlaced (AnyOf may) (placing.Key key) LeavesWith Leaves = (may key ≡ true) × LeavesWith key
IsPlaced (Just given) (placing.Key key) LeavesWith Leaves = (key ≡ given) × LeavesWith key
IsPlaced Taken placing.Duplicate LeavesWith Leaves = Leaves
IsPlaced NoGreater placing.Range LeavesWith Leaves = Leaves
IsPlaced keys placed LeavesWith Leaves = ⊥

-- The row of a key gets other values and one of these keys; or there is no row of the key, and this is left without.
abbrev pub IsReplaced : Option Row → NewKeys → Option Placing → (Key → Type 0) → Type 0 → Type 0
IsReplaced None keys None LeavesWith Leaves = Leaves
IsReplaced (Some old) keys (Some placed) LeavesWith Leaves = IsPlaced keys placed LeavesWith Leaves
IsReplaced old keys placed LeavesWith Leaves = ⊥

-- The row of a key goes, and this is left without it; or there is none, and this is left as it was.
abbrev pub IsGone : Option Row → Bool → Type 0 → Type 0 → Type 0
IsGone (Some old) true LeavesWithout Leaves = LeavesWithout
IsGone None false LeavesWithout Leaves = Leaves
IsGone old gone LeavesWithout Leaves = ⊥

-- what is so of the key that a row got
abbrev pub OfKey : Placing → (Key → Type 0) → Type 0
OfKey (placing.Key key) IsSo = IsSo key
OfKey placed IsSo = Unit {0}

-- ---- what the calls cost
abbrev pub has_key : Placing → Bool
has_key (placing.Key key) = true
has_key placed = false

abbrev pub has_new : Option Placing → Bool
has_new None = false
has_new (Some placed) = has_key placed

-- A call that refuses its row changes nothing. One that the space refuses has changed nothing, or its row gets a key, where it is given one.
abbrev pub RowCosts : {S T : Type 0} → (ℕ → S → S → Type 0) → (T → Bool) → (GetsKey : Type 0) → ℕ → S → S → Result T SpaceFault → Type 0
RowCosts Leads is_made GetsKey most old new (Ok x) = LeadsWithin Leads (cond (is_made x) most 0) old new
RowCosts Leads is_made GetsKey most old new (Err e) = Leads 0 old new ⊎ (GetsKey × LeadsWithin Leads most old new)

-- ---- the ends of the calls
abbrev pub IsPlacing : Move → Type 0
IsPlacing (move.Key key) = Unit {0}
IsPlacing move.Duplicate = Unit {0}
IsPlacing move.Range = Unit {0}
IsPlacing _ = ⊥

-- what an insert's end says
abbrev pub placing_in : Move → Placing
placing_in (move.Key key) = placing.Key key
placing_in move.Duplicate = placing.Duplicate
placing_in _ = placing.Range

abbrev pub IsReplacing : Move → Type 0
IsReplacing (move.Key key) = Unit {0}
IsReplacing move.Duplicate = Unit {0}
IsReplacing move.NoRecord = Unit {0}
IsReplacing _ = ⊥

-- what an update's end says
abbrev pub replacing_in : Move → Option Placing
replacing_in (move.Key key) = Some (placing.Key key)
replacing_in move.Duplicate = Some placing.Duplicate
replacing_in _ = None

abbrev pub IsDoneOrNone : Move → Type 0
IsDoneOrNone move.Done = Unit {0}
IsDoneOrNone move.NoRecord = Unit {0}
IsDoneOrNone _ = ⊥

-- whether a delete ended with a row that went
abbrev pub is_gone : Move → Bool
is_gone move.Done = true
is_gone _ = false
