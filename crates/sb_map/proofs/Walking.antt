-- What is so between two turns of a walk.
use Rattle.std.proofs.Common.{◌≡◌, ℕ, ◌≤◌, Option, Some, None, Result, Err, sym, subst, ◌∙◌, inl, inr}
use Rattle.std.specs.Result.{IsErrAnd}
use Rattle.sb_ctx.specs.View.{View, nothing, dropped, HoldsPart, IsClean}
use Rattle.sb_ctx.proofs.ViewLaws.{HoldsPart-from_dropped}
use Rattle.sb_btree.specs.declared.walk.Walk.{Walk}
use Rattle.sb_ctx.proofs.DrivingLaws.{IsClean-nothing}
use Rattle.sb_drive.proofs.AsksLemmas.{HoldsOf-nothing}
use Rattle.sb_drive.specs.declared.space.SpaceFault.{SpaceFault}
use Rattle.sb_drive.specs.declared.space.SpaceFault.TheVariants.{Damaged, NoMemory}
use Rattle.sb_drive.specs.Slots.{AreWhole, Slots, owned}
use Rattle.sb_drive.specs.Spaces.{HoldsOf, IsRefused, Wanted}
use Rattle.sb_drive.proofs.SpacesLemmas.{ArePages-few, GoesOn, IfErr-passed, UnlessDown-passed}
use Rattle.sb_map.specs.Calls.{Looks}
use Rattle.sb_map.specs.Turns.{HasEnded, IsAnswered, Turned}

-- No change leads here, what the space had it has still, and a part of the owner's pages is held as it is, with fresh ones that are nobody's.
pub record Walking {S : Type 0} (Has : Wanted → Slots → S → Type 0) (Leads : ℕ → S → S → Type 0) (owner : ℕ) (first now : S) (c : View) : Type 0 where
  pub clean : IsClean c
  pub leads : Leads 0 first now
  pub has : (want : Wanted) (s : Slots) → Has want s first → Has want s now
  pub holds : (want : Wanted) (s : Slots) → Has want s first → HoldsOf s owner c

pub Walking-begins : {S : Type 0} (Has : Wanted → Slots → S → Type 0) (Leads : ℕ → S → S → Type 0) (owner : ℕ) (a : S) (c : View) → c ≡ nothing → Leads 0 a a
    → ((want : Wanted) (s : Slots) (b : S) → Has want s b → AreWhole s) → ((want : Wanted) (s : Slots) (b : S) → Has want s b → (n : ℕ) → 65536 ≤ n → (s n).0 ≡ 0) → Walking Has Leads owner a a c
Walking-begins Has Leads owner a c new stays whole few = record {
  clean = subst IsClean (sym new) IsClean-nothing;
  leads = stays;
  has = λ want s has. has;
  holds = λ want s has. subst (HoldsOf s owner) (sym new) (HoldsOf-nothing s owner (ArePages-few s owner (whole want s a has) (few want s a has)));
}

-- once a question is answered
pub Walking-on : {S : Type 0} (Has : Wanted → Slots → S → Type 0) (Leads : ℕ → S → S → Type 0) (owner : ℕ) (first now new : S) (c walked d : View) → GoesOn Leads → Walking Has Leads owner first now c
    → dropped walked ≡ dropped c → IsAnswered Has owner now walked d → ((want : Wanted) (s : Slots) → Has want s now → Has want s new) → Leads 0 now new → Walking Has Leads owner first new d
Walking-on Has Leads owner first now new c walked d goes_on before given answered same leads =
    let back : dropped walked ≡ c = given ∙ before.clean.unchanged in
    record {
      clean = answered.clean (subst IsClean (sym back) before.clean);
      leads = goes_on 0 0 first now new before.leads leads;
      has = λ want s has. same want s (before.has want s has);
      holds = λ want s has. answered.holds want s (before.has want s has) (subst (HoldsOf s owner) (sym back) (before.holds want s has));
    }

-- once a walk has come to its end
pub HoldsPart-ended : {S : Type 0} (Has : Wanted → Slots → S → Type 0) (Leads : ℕ → S → S → Type 0) (owner : ℕ) (first now : S) (c walked d : View) → Walking Has Leads owner first now c → dropped walked ≡ dropped c → d ≡ walked
    → (want : Wanted) (s : Slots) → Has want s first → HoldsPart d (owned s owner)
HoldsPart-ended Has Leads owner first now c walked d before given same want s has =
    subst (λ (v : View). HoldsPart v (owned s owner)) (sym same) (HoldsPart-from_dropped walked c (owned s owner) (given ∙ before.clean.unchanged) (before.holds want s has).part)

-- ---- a turn
pub Turned-ended : {S T : Type 0} (Has : Wanted → Slots → S → Type 0) (owner : ℕ) (old new : S) (c d : View) (w : Walk T) (o : Option T) (end : T) → o ≡ Some end → Turned Has owner old new c d w o → HasEnded old new c d w end
Turned-ended Has owner old new c d w o end is turned = subst (Turned Has owner old new c d w) is turned

pub Turned-answered : {S T : Type 0} (Has : Wanted → Slots → S → Type 0) (owner : ℕ) (old new : S) (c d : View) (w : Walk T) (o : Option T) → o ≡ None → Turned Has owner old new c d w o → IsAnswered Has owner old c d
Turned-answered Has owner old new c d w o is turned = subst (Turned Has owner old new c d w) is turned

-- ---- refusals
-- what a space says of a refusal behind calls that made no change
abbrev pub FailsOn : {S : Type 0} → (ℕ → S → S → Type 0) → (SpaceFault → S → S → Type 0) → Type 0
FailsOn {S} Leads Fails = (e : SpaceFault) (a b c : S) → Leads 0 a b → Fails e b c → Fails e a c

pub IsRefused-on : (Same Fails Same2 Fails2 : Type 0) (e : SpaceFault) → (Same → Same2) → (Fails → Fails2) → IsRefused Same Fails e → IsRefused Same2 Fails2 e
IsRefused-on Same Fails Same2 Fails2 (Damaged n) same fails is = same is
IsRefused-on Same Fails Same2 Fails2 NoMemory same fails (inl is) = inl (same is)
IsRefused-on Same Fails Same2 Fails2 NoMemory same fails (inr is) = inr (fails is)
IsRefused-on Same Fails Same2 Fails2 e same fails is = fails is

-- a refused turn is a refused call
pub Looks-refused : {S T U : Type 0} (Has : Wanted → Slots → S → Type 0) (Leads : ℕ → S → S → Type 0) (Fails : SpaceFault → S → S → Type 0) (owner : ℕ) (first now new : S) (c : View) (r : Result U SpaceFault) (e : SpaceFault)
    → GoesOn Leads → FailsOn Leads Fails → Walking Has Leads owner first now c → IsErrAnd r (λ x. x ≡ e) → Looks {T = T} Has Leads Fails now new (Err e) → Looks Has Leads Fails first new r
Looks-refused {S} {T} {U} Has Leads Fails owner first now new c r e goes_on fails_on before is turn = record {
  same = UnlessDown-passed T U r e ((want : Wanted) (s : Slots) → Has want s now → Has want s new) ((want : Wanted) (s : Slots) → Has want s first → Has want s new) is
      (λ same want s has. same want s (before.has want s has)) turn.same;
  leads = goes_on 0 0 first now new before.leads turn.leads;
  refused = IfErr-passed r e (λ x. IsRefused (Leads 0 first new) (Fails x first new) x) is
      (IsRefused-on (Leads 0 now new) (Fails e now new) (Leads 0 first new) (Fails e first new) e (goes_on 0 0 first now new before.leads) (fails_on e first now new before.leads) turn.refused);
}
