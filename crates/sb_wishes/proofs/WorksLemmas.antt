-- What a changing call leaves of a space, behind reading ones and where it isn't made.
use Rattle.std.proofs.Common.{◌≡◌, ℕ, ◌+◌, Bool, Result, Ok, Err, IfErr, inl, inr, refl}
use Rattle.std.specs.Result.{IsErrAnd}
use Rattle.sb_drive.specs.declared.space.SpaceFault.{SpaceFault}
use Rattle.sb_drive.specs.declared.space.SpaceFault.TheVariants.{Fault, DataFull, TempFull, Damaged, Down, NoMemory}
use Rattle.sb_drive.specs.Slots.{Slots}
use Rattle.sb_drive.specs.Spaces.{IsReadFault, IsRefused, Leaves, UnlessDown, Wanted}
use Rattle.sb_drive.proofs.SpacesLemmas.{GoesOn, UnlessDown-passed}
use Rattle.sb_registry.specs.Runs.{IsFullOf, Looks, WasFull, Works}
use Rattle.sb_standing.proofs.CallsLemmas.{FailsOn, Works-passed}

-- the same pages leave those of all other owners
abbrev pub KeepsAll : {S : Type 0} → (Wanted → Slots → S → Type 0) → S → S → Type 0
KeepsAll Has old new = (want : Wanted) (s : Slots) → Has want s old → Has want s new

Leaves-same : {S : Type 0} (Has : Wanted → Slots → S → Type 0) (owner : ℕ) (old new : S) → KeepsAll Has old new → (want : Wanted) (s : Slots) → Has want s old → Leaves Has owner want s new (λ after. Unit {0})
Leaves-same Has owner old new same want s has = record { slots = s; has = same want s has; others = λ o other. refl; own = tt }

-- no change was made
pub Works-same : {S T : Type 0} (Has : Wanted → Slots → S → Type 0) (Ways : ℕ → S → S → Type 0) (Fails : SpaceFault → S → S → Type 0) (Durable : S → Bool) (Total : S → ℕ) (owner : ℕ)
    (old new : S) (x : T) → Ways 0 old new → KeepsAll Has old new → Works Has Ways Fails Durable Total owner old new (Ok x)
Works-same Has Ways Fails Durable Total owner old new x ways same = record { others = Leaves-same Has owner old new same; leads = (0, ways); full = tt; refused = tt }

-- a reading call was refused
not_full : (durable : Bool) (total : ℕ) (e : SpaceFault) → IsReadFault e → IsFullOf durable total e
not_full durable total (DataFull used of) is = absurd is
not_full durable total (TempFull used of) is = absurd is
not_full durable total e is = tt

looked : {S T : Type 0} (Has : Wanted → Slots → S → Type 0) (Ways : ℕ → S → S → Type 0) (Fails : SpaceFault → S → S → Type 0) (Durable : S → Bool) (Total : S → ℕ) (owner : ℕ)
    (old new : S) (e : SpaceFault) → Ways 0 old old → Looks {T = T} Has Ways Fails old new (Err e) → Works {T = T} Has Ways Fails Durable Total owner old new (Err e)
looked {S} {T} Has Ways Fails Durable Total owner old new e stays looks = record {
  others = UnlessDown-passed T T (Err e) e (KeepsAll Has old new) ((want : Wanted) (s : Slots) → Has want s old → Leaves Has owner want s new (λ after. Unit {0})) refl
      (λ same. Leaves-same Has owner old new same) looks.same;
  leads = (0, looks.leads);
  full = λ want s has. record { space = old; leads = stays; full = not_full (Durable old) (Total old) e looks.fault };
  refused = looks.refused;
}

pub Works-looked : {S T U : Type 0} (Has : Wanted → Slots → S → Type 0) (Ways : ℕ → S → S → Type 0) (Fails : SpaceFault → S → S → Type 0) (Durable : S → Bool) (Total : S → ℕ) (owner : ℕ)
    (old new : S) (r : Result U SpaceFault) (e : SpaceFault) → IsErrAnd r (λ x. x ≡ e) → Ways 0 old old → Looks {T = T} Has Ways Fails old new (Err e) → Works Has Ways Fails Durable Total owner old new r
Works-looked {S} {T} Has Ways Fails Durable Total owner old new r e is stays looks =
    Works-passed {T = T} Has Ways Fails Durable Total owner old new r e is (looked Has Ways Fails Durable Total owner old new e stays looks)

-- memory is wanting before any change
pub Works-no_memory : {S U : Type 0} (Has : Wanted → Slots → S → Type 0) (Ways : ℕ → S → S → Type 0) (Fails : SpaceFault → S → S → Type 0) (Durable : S → Bool) (Total : S → ℕ) (owner : ℕ)
    (old new : S) (r : Result U SpaceFault) → IsErrAnd r (λ x. x ≡ NoMemory) → Ways 0 old old → Ways 0 old new → KeepsAll Has old new → Works Has Ways Fails Durable Total owner old new r
Works-no_memory {S} {U} Has Ways Fails Durable Total owner old new r is stays ways same =
    Works-looked {T = U} Has Ways Fails Durable Total owner old new r NoMemory is stays (record { same = same; leads = ways; fault = tt; refused = inl ways })

-- ---- behind reading calls
refused-later : {A B C D : Type 0} (e : SpaceFault) → (A → C) → (B → D) → IsRefused A B e → IsRefused C D e
refused-later (Damaged page) same fails is = same is
refused-later NoMemory same fails (inl is) = inl (same is)
refused-later NoMemory same fails (inr is) = inr (fails is)
refused-later e same fails is = fails is

pub Works-later : {S T : Type 0} (Has : Wanted → Slots → S → Type 0) (Ways : ℕ → S → S → Type 0) (Fails : SpaceFault → S → S → Type 0) (Durable : S → Bool) (Total : S → ℕ) (owner : ℕ)
    (a b c : S) (r : Result T SpaceFault) → GoesOn Ways → FailsOn Ways Fails → Ways 0 a b → KeepsAll Has a b → Works Has Ways Fails Durable Total owner b c r → Works Has Ways Fails Durable Total owner a c r
Works-later {S} {T} Has Ways Fails Durable Total owner a b c r goes_on fails_on first has works = record {
  others = others r works.others;
  leads = (0 + works.leads.0, goes_on 0 works.leads.0 a b c first works.leads.1);
  full = full r works.full;
  refused = refused r works.refused;
}
  where
    others : (r : Result T SpaceFault) → UnlessDown r ((want : Wanted) (s : Slots) → Has want s b → Leaves Has owner want s c (λ after. Unit {0})) → UnlessDown r ((want : Wanted) (s : Slots) → Has want s a → Leaves Has owner want s c (λ after. Unit {0}))
    others (Ok x) left = λ want s there. left want s (has want s there)
    others (Err Fault) left = tt
    others (Err Down) left = tt
    others (Err e) left = λ want s there. left want s (has want s there)

    full : (r : Result T SpaceFault) → IfErr r (λ e. (want : Wanted) (s : Slots) → Has want s b → WasFull Ways Durable Total b e) → IfErr r (λ e. (want : Wanted) (s : Slots) → Has want s a → WasFull Ways Durable Total a e)
    full (Ok x) is = tt
    full (Err e) is = λ want s there. let at = is want s (has want s there) in record { space = at.space; leads = goes_on 0 0 a b at.space first at.leads; full = at.full }

    refused : (r : Result T SpaceFault) → IfErr r (λ e. IsRefused (Ways 0 b c) (Fails e b c) e) → IfErr r (λ e. IsRefused (Ways 0 a c) (Fails e a c) e)
    refused (Ok x) is = tt
    refused (Err e) is = refused-later e (λ ways. goes_on 0 0 a b c first ways) (λ fails. fails_on e a b c first fails) is
