-- What a call leaves that stores what a walk made.
use Rattle.std.proofs.Common.{◌≡◌, ℕ, ◌≤◌, Bool, false, List, length, Option, Some, None, Result, Ok, Err, IfOk, OnOk, refl, sym, ap, ◌∙◌}
use Rattle.std.specs.Result.{IsErrAnd}
use Rattle.sb_ctx.specs.Costs.{tree_cost}
use Rattle.sb_node.specs.Entries.{Entry}
use Rattle.sb_forms.specs.Maps.{map_in}
use Rattle.sb_forms.specs.Pages.{Pages}
use Rattle.sb_ctx.specs.View.{View, HoldsPart, edits_of, stored}
use Rattle.sb_drive.specs.declared.space.SpaceFault.{SpaceFault}
use Rattle.sb_drive.specs.declared.space.SpaceFault.TheVariants.{DataFull, TempFull}
use Rattle.sb_drive.specs.Slots.{Slots, owned}
use Rattle.sb_drive.specs.Spaces.{IsFullFor, IsRefused, IsStoreFault, Leaves, LeadsWithin, UnlessDown, Wanted, WhereFull}
use Rattle.sb_drive.proofs.SpacesLemmas.{GoesOn, IfErr-passed, IsRefused-store, LeadsWithin-more, LeadsWithin-on, Leaves-so, UnlessDown-passed}
use Rattle.sb_map.specs.declared.place.Place.{Place}
use Rattle.sb_map.specs.Calls.{IsWithin, Looks, Works}
use Rattle.sb_map.specs.Changes.{RemovesKey, changed, is_change}
use Rattle.sb_map.specs.Maps.{Becomes, OverMap, OverPages, OverTree}
use Rattle.sb_map.proofs.Changing.{changed-none}
use Rattle.sb_map.proofs.Walking.{FailsOn}

-- ---- nothing is stored
Leaves-same : {S : Type 0} (Has : Wanted → Slots → S → Type 0) (owner : ℕ) (want : Wanted) (s : Slots) (new : S) (IsSo : Pages → Type 0) → Has want s new → IsSo (owned s owner) → Leaves Has owner want s new IsSo
Leaves-same Has owner want s new IsSo has so = record { slots = s; has = has; others = λ o other. refl; own = so }

pub Becomes-same : {S : Type 0} (Has : Wanted → Slots → S → Type 0) (place : Place) (first now : S) (key : List ℕ) (value : Option (List ℕ)) → ((want : Wanted) (s : Slots) → Has want s first → Has want s now)
    → OverTree Has place first (λ P es. is_change key value es ≡ false) → Becomes Has place first now (changed key value)
Becomes-same Has place first now key value same none = λ want s es has read.
    Leaves-same Has place.owner want s now (λ after. map_in place.root after ≡ Some (changed key value es)) (same want s has)
    (read ∙ ap Some (sym (changed-none key value es (none want s has es read))))

-- ---- what a Ctx holds is stored
-- what a space says of a store
abbrev pub Stores : {S : Type 0} → (Wanted → Slots → S → Type 0) → ℕ → S → S → View → (Pages → Pages → Type 0) → Type 0
Stores Has owner now new c IsSo = (want : Wanted) (s : Slots) → Has want s now → HoldsPart c (owned s owner) → Leaves Has owner want s new (IsSo (owned s owner))

pub Works-stored : {S T U : Type 0} (Has : Wanted → Slots → S → Type 0) (Leads : ℕ → S → S → Type 0) (Fails : SpaceFault → S → S → Type 0) (durable : S → Bool) (total : S → ℕ) (place : Place) (Asks : View → Type 0) (first now new : S) (c : View) (x : T) (u : U)
    → GoesOn Leads → Looks {T = T} Has Leads Fails first now (Ok x) → OverPages Has place first (HoldsPart c) → OverTree Has place first (λ P es. edits_of c ≤ tree_cost (length es))
    → Stores Has place.owner now new c (λ P after. after ≡ stored c P) → LeadsWithin Leads (edits_of c) now new → Works {T = U} Has Leads Fails durable total place Asks first new (Ok u)
Works-stored Has Leads Fails durable total place Asks first now new c x u goes_on looks part cheap stores leads =
    let within = LeadsWithin-on Leads (edits_of c) first now new goes_on looks.leads leads in
    record {
      others = λ want s has. Leaves-so Has place.owner want s new (λ after. after ≡ stored c (owned s place.owner)) (λ after. Unit {0}) (λ after so. tt) (stores want s (looks.same want s has) (part want s has));
      full = tt;
      leads = (within.changes, within.leads);
      costs = λ want s has es read. LeadsWithin-more Leads (edits_of c) (tree_cost (length es)) first new (cheap want s has es read) within;
      refused = tt;
    }

pub Becomes-stored : {S T : Type 0} (Has : Wanted → Slots → S → Type 0) (Leads : ℕ → S → S → Type 0) (Fails : SpaceFault → S → S → Type 0) (place : Place) (first now new : S) (c : View) (x : T) (change : List Entry → List Entry)
    → Looks {T = T} Has Leads Fails first now (Ok x) → OverPages Has place first (HoldsPart c) → OverTree Has place first (λ P es. map_in place.root (stored c P) ≡ Some (change es))
    → Stores Has place.owner now new c (λ P after. after ≡ stored c P) → Becomes Has place first new change
Becomes-stored Has Leads Fails place first now new c x change looks part tree stores = λ want s es has read.
    Leaves-so Has place.owner want s new (λ after. after ≡ stored c (owned s place.owner)) (λ after. map_in place.root after ≡ Some (change es))
    (λ after so. ap (map_in place.root) so ∙ tree want s has es read) (stores want s (looks.same want s has) (part want s has))

-- or isn't, where the space refuses it
WhereFull-stored : (IsSo : Type 0) (e : SpaceFault) → IsStoreFault e → WhereFull e IsSo
WhereFull-stored IsSo (DataFull used of) is = absurd is
WhereFull-stored IsSo (TempFull used of) is = absurd is
WhereFull-stored IsSo e is = tt

pub Works-unstored : {S T U : Type 0} (Has : Wanted → Slots → S → Type 0) (Leads : ℕ → S → S → Type 0) (Fails : SpaceFault → S → S → Type 0) (durable : S → Bool) (total : S → ℕ) (place : Place) (Asks : View → Type 0) (first now new : S) (c : View) (x : T)
    (r : Result U SpaceFault) (e : SpaceFault) → GoesOn Leads → FailsOn Leads Fails → IsErrAnd r (λ y. y ≡ e) → Looks {T = T} Has Leads Fails first now (Ok x) → OverPages Has place first (HoldsPart c)
    → OverTree Has place first (λ P es. edits_of c ≤ tree_cost (length es)) → UnlessDown {T = Unit {0}} (Err e) (Stores Has place.owner now new c (λ P after. Unit {0})) → IsStoreFault e
    → LeadsWithin Leads (edits_of c) now new → Fails e now new → Works Has Leads Fails durable total place Asks first new r
Works-unstored {S} {T} {U} Has Leads Fails durable total place Asks first now new c x r e goes_on fails_on is looks part cheap stores undamaged leads fails =
    let within = LeadsWithin-on Leads (edits_of c) first now new goes_on looks.leads leads in
    record {
      others = UnlessDown-passed (Unit {0}) U r e (Stores Has place.owner now new c (λ P after. Unit {0})) ((want : Wanted) (s : Slots) → Has want s first → Leaves Has place.owner want s new (λ after. Unit {0})) is
          (λ stores want s has. stores want s (looks.same want s has) (part want s has)) stores;
      full = IfErr-passed r e (λ y. (want : Wanted) (s : Slots) → Has want s first → WhereFull y (IsFullFor Leads durable total place.owner Asks (IsWithin place.root (owned s place.owner)) first s y)) is
          (λ want s has. WhereFull-stored (IsFullFor Leads durable total place.owner Asks (IsWithin place.root (owned s place.owner)) first s e) e undamaged);
      leads = (within.changes, within.leads);
      costs = λ want s has es read. LeadsWithin-more Leads (edits_of c) (tree_cost (length es)) first new (cheap want s has es read) within;
      refused = IfErr-passed r e (λ y. IsRefused (Leads 0 first new) (Fails y first new) y) is
          (IsRefused-store (Leads 0 first new) (Fails e first new) e undamaged (fails_on e first now new looks.leads fails));
    }

-- ---- a removal
pub RemovesKey-changed : {S : Type 0} (Has : Wanted → Slots → S → Type 0) (Leads : ℕ → S → S → Type 0) (place : Place) (key : List ℕ) (old new : S) (r : Result Bool SpaceFault)
    → IfOk r (λ done. OverMap Has place old (λ es. done ≡ is_change key None es)) → OnOk r (Becomes Has place old new (changed key None)) → IfOk r (λ done. done ≡ false → Leads 0 old new)
    → IfOk r (RemovesKey Has Leads place key old new)
RemovesKey-changed Has Leads place key old new (Ok done) stands becomes none = record { stands = stands; becomes = becomes; none = none }
RemovesKey-changed Has Leads place key old new (Err e) stands becomes none = tt
