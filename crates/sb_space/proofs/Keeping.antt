-- What storing a page makes of the pages by their owners.
use Rattle.std.proofs.Common.{◌≡◌, ℕ, ◌==◌, Bool, true, false, cond, Option, Some, None, option_map, Result, Ok, Err, OnOk, List, [], refl, sym, ap, ◌∙◌}
use Rattle.std.proofs.lemmas.Bool.{false≢true, eqb-true, eq-eqb}
use Rattle.sb_ctx.specs.View.{View, page_of}
use Rattle.sb_drive.specs.declared.space.SpaceFault.{SpaceFault}
use Rattle.sb_drive.specs.Slots.{Slots, Slot, owned, bytes_for, with_slot}
use Rattle.sb_drive.specs.Spaces.{Wanted}
use Rattle.sb_drive.specs.Stores.{bytes_in}
use Rattle.sb_txn.specs.Parts.{Parts}
use Rattle.sb_space.specs.Stored.{if_ok, Ends, IsSet, KeepsOthers}
use Rattle.sb_space.specs.Works.{HasPages}
use Rattle.sb_space.proofs.Looking.{not_eq, bytes_for-other, bytes_for-nobody}

-- ---- one slot
-- what others have of a page that is nobody's, or this owner's: nothing
pub others_none : (owner o : ℕ) (slot : Slot) → (o ≡ owner → ⊥) → slot.0 ≡ owner → bytes_for o slot ≡ []
others_none owner o slot other is = bytes_for-other o slot (not_eq slot.0 o (λ same. other (sym same ∙ is)))

pub none_nobodys : (o : ℕ) (slot : Slot) → slot.0 ≡ 0 → bytes_for o slot ≡ []
none_nobodys o slot nobody = by_case (o == 0) refl
  where
    by_case : (b : Bool) → (o == 0) ≡ b → bytes_for o slot ≡ []
    by_case true is = bytes_for-nobody o slot (eqb-true o 0 is)
    by_case false is = bytes_for-other o slot (not_eq slot.0 o (λ same. false≢true (sym is ∙ eq-eqb o 0 (sym same ∙ nobody))))

module _ (owner n : ℕ) (slot : Slot) (s : Slots) where
  owned-here : owned (with_slot n slot s) owner n ≡ bytes_for owner slot
  owned-here = ap (λ (b : Bool). bytes_for owner (cond b slot (s n))) (eq-eqb n n refl)

  owned-rest : (o m : ℕ) → (n ≡ m → ⊥) → owned (with_slot n slot s) o m ≡ owned s o m
  owned-rest o m far = ap (λ (b : Bool). bytes_for o (cond b slot (s m))) (not_eq n m far)

  others-set : ((o : ℕ) → (o ≡ owner → ⊥) → bytes_for o slot ≡ []) → ((o : ℕ) → (o ≡ owner → ⊥) → bytes_for o (s n) ≡ []) → KeepsOthers owner s (with_slot n slot s)
  others-set new old o other = λ i m. by m (n == m) refl i
    where
      by : (m : ℕ) (b : Bool) → (n == m) ≡ b → bytes_for o (cond (n == m) slot (s m)) ≡ bytes_for o (s m)
      by m true is = ap (λ (b : Bool). bytes_for o (cond b slot (s m))) is ∙ new o other ∙ sym (ap (λ (x : ℕ). bytes_for o (s x)) (sym (eqb-true n m is)) ∙ old o other)
      by m false is = ap (λ (b : Bool). bytes_for o (cond b slot (s m))) is

-- ---- by the result of the call
pub Ends-set : (owner n : ℕ) (slot : Slot) (want : Wanted) (s : Slots) (q : Parts) (r : Result (Unit {0}) SpaceFault) → ((o : ℕ) → (o ≡ owner → ⊥) → bytes_for o slot ≡ []) → ((o : ℕ) → (o ≡ owner → ⊥) → bytes_for o (s n) ≡ [])
    → HasPages want (if_ok r (with_slot n slot) s) q → Ends owner want s q (λ t. OnOk r (IsSet owner n (bytes_for owner slot) s t))
Ends-set owner n slot want s q (Ok done) new old has = record {
  slots = with_slot n slot s;
  has = has;
  others = others-set owner n slot s new old;
  is = record { here = owned-here owner n slot s; rest = owned-rest owner n slot s owner };
}
Ends-set owner n slot want s q (Err e) new old has = record { slots = s; has = has; others = λ o other. refl; is = tt }

pub Ends-map : (owner : ℕ) (want : Wanted) (s : Slots) (q : Parts) (A B : Slots → Type 0) → ((t : Slots) → A t → B t) → Ends owner want s q A → Ends owner want s q B
Ends-map owner want s q A B f ends = record { slots = ends.slots; has = ends.has; others = ends.others; is = f ends.slots ends.is }

pub Ends-none : (owner : ℕ) (want : Wanted) (s : Slots) (q : Parts) → HasPages want s q → Ends owner want s q (λ t. Unit {0})
Ends-none owner want s q has = record { slots = s; has = has; others = λ o other. refl; is = tt }

-- the bytes that a Ctx has of a page
pub bytes_in-page : {B : Type 0} (f : B → List ℕ) (c : View) (n : ℕ) (o : Option B) (b : B) → option_map f o ≡ page_of c n → o ≡ Some b → f b ≡ bytes_in c n
bytes_in-page f c n o b is some = ap (λ (x : Option (List ℕ)). elim x [ None ↦ [] | Some bytes ↦ bytes ]) (sym (ap (option_map f) some) ∙ is)
