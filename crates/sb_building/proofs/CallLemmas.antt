-- Calls that are refused, and what leads to them.
use Rattle.std.proofs.Common.{ℕ, ◌+◌, inr, Result, Ok, Err, IfErr, IfOk, OnOk}
use Rattle.std.specs.Result.{IsErrAnd}
use Rattle.sb_drive.specs.declared.space.SpaceFault.{SpaceFault}
use Rattle.sb_drive.specs.declared.space.SpaceFault.TheVariants.{Damaged, NoMemory}
use Rattle.sb_drive.specs.Spaces.{IsRefused, LeadsOn}
use Rattle.sb_drive.proofs.SpacesLemmas.{GoesOn}
use Rattle.sb_owners.specs.Instances.{IsUnbroken}
use Rattle.sb_registry.specs.Runs.{IsSound}
use Rattle.sb_tables.specs.Refusals.{HasRefusalCause, refusal_of}
use Rattle.sb_tables.proofs.RefusedLemmas.{refused_cause}

-- a number of changes leads on behind another
pub leads_then : {S : Type 0} (Leads : ℕ → S → S → Type 0) → GoesOn Leads → (a b c : S) → LeadsOn Leads a b → LeadsOn Leads b c → LeadsOn Leads a c
leads_then Leads goes a b c first second = (first.0 + second.0, goes first.0 second.0 a b c first.1 second.1)

pub leads_later : {S : Type 0} (Leads : ℕ → S → S → Type 0) → GoesOn Leads → (a b c : S) → Leads 0 a b → LeadsOn Leads b c → LeadsOn Leads a c
leads_later Leads goes a b c first second = leads_then Leads goes a b c (0, first) second

pub IsSound-unbroken : (e : SpaceFault) → IsUnbroken e → IsSound e
IsSound-unbroken (Damaged page) is = is
IsSound-unbroken e is = tt

IsRefused-sound : (Same Fails : Type 0) (e : SpaceFault) → IsSound e → Fails → IsRefused Same Fails e
IsRefused-sound Same Fails (Damaged page) sound fails = absurd sound
IsRefused-sound Same Fails NoMemory sound fails = inr fails
IsRefused-sound Same Fails e sound fails = fails

-- a refusal of the space itself, which calls no page damaged, has its cause
pub unbroken_cause : {S : Type 0} (Fails : SpaceFault → S → S → Type 0) (old new : S) (e : SpaceFault) → IsUnbroken e → Fails e old new → HasRefusalCause Fails (refusal_of e) new
unbroken_cause Fails old new e unbroken fails =
    let sound = IsSound-unbroken e unbroken in refused_cause Fails (Unit {0}) old new e (IsRefused-sound (Unit {0}) (Fails e old new) e sound fails) sound

-- ---- results
pub OnOk-so : {T E : Type 0} (r : Result T E) (P : Type 0) → P → OnOk r P
OnOk-so (Ok x) P so = so
OnOk-so (Err e) P so = tt

pub OnOk-then : {T E : Type 0} (r : Result T E) (P Q : Type 0) → (P → Q) → OnOk r P → OnOk r Q
OnOk-then (Ok x) P Q then so = then so
OnOk-then (Err e) P Q then so = tt

pub IfErr-both : {T E : Type 0} (r : Result T E) (P Q R : E → Type 0) → ((e : E) → P e → Q e → R e) → IfErr r P → IfErr r Q → IfErr r R
IfErr-both (Ok x) P Q R then first second = tt
IfErr-both (Err e) P Q R then first second = then e first second

pub IfOk-failed : {T E : Type 0} (r : Result T E) (P : T → Type 0) (Q : E → Type 0) → IsErrAnd r Q → IfOk r P
IfOk-failed (Ok x) P Q is = absurd is
IfOk-failed (Err e) P Q is = tt
