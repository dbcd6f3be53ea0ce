-- Pages that are stored one after another.
use Rattle.std.proofs.Common.{◌≡◌, ℕ, zero, suc, ◌+◌, ◌≤◌, ◌==◌, Bool, true, false, ◌||◌, Some, None, Result, Ok, Err, OnOk, List, [], ◌∷◌, ◌++◌, length, take, slice_get, refl, sym, ap, subst, ◌∙◌, arith}
use Rattle.std.proofs.lemmas.Bool.{false≢true, eqb-true, eq-eqb}
use Rattle.std.proofs.lemmas.List.{take_more, length-append}
use Rattle.std.proofs.lemmas.List.Folds.{list_any-append}
use Rattle.std.proofs.lemmas.Option.{slice_get_within, get_or_from_slice_get}
use Rattle.sb_drive.specs.Slots.{Slots, owned}
use Rattle.std.specs.Result.{IsErrAnd}
use Rattle.sb_drive.specs.declared.space.SpaceFault.{SpaceFault}
use Rattle.sb_drive.specs.Spaces.{UnlessDown, Wanted}
use Rattle.sb_space.proofs.Calling.{UnlessDown-map}
use Rattle.sb_txn.specs.Parts.{Parts}
use Rattle.sb_space.specs.Stored.{taken_in, is_among, Ends, Touches, IsSet, AreSet}
use Rattle.sb_space.specs.Works.{HasPages}

-- ---- fronts of a list
pub front-more : {X : Type 0} (xs : List X) (i : ℕ) (x : X) → slice_get xs i ≡ Some x → take (i + 1) xs ≡ take i xs ++ x ∷ []
front-more xs i x at = take_more xs i x (slice_get_within xs i x at) ∙ ap (λ y. take i xs ++ y ∷ []) (get_or_from_slice_get xs i x x at)

pub front-all : {X : Type 0} (xs : List X) (i : ℕ) → slice_get xs i ≡ None → take i xs ≡ xs
front-all [] zero none = refl
front-all [] (suc i) none = refl
front-all (x ∷ xs) zero none = absurd cc
front-all (x ∷ xs) (suc i) none = ap (λ ys. x ∷ ys) (front-all xs i none)

pub front-less : {X : Type 0} (xs : List X) (i : ℕ) (x : X) → slice_get xs i ≡ Some x → length (take i xs) + 1 ≤ length xs
front-less [] zero x at = absurd cc
front-less [] (suc i) x at = absurd cc
front-less (y ∷ xs) zero x at = omega arith
front-less (y ∷ xs) (suc i) x at = let rest = front-less xs i x at in omega (arith, rest)

pub front-most : {X : Type 0} (xs : List X) (i : ℕ) → length (take i xs) ≤ length xs
front-most [] zero = omega arith
front-most [] (suc i) = omega arith
front-most (x ∷ xs) zero = omega arith
front-most (x ∷ xs) (suc i) = let rest = front-most xs i in omega (arith, rest)

-- ---- pages that were taken
pub taken-front : (xs : List (ℕ × Bool)) (e : ℕ × Bool) → taken_in (xs ++ e ∷ []) ≡ taken_in xs ++ taken_in (e ∷ [])
taken-front [] e = refl
taken-front ((k, true) ∷ xs) e = ap (λ ys. k ∷ ys) (taken-front xs e)
taken-front ((k, false) ∷ xs) e = taken-front xs e

pub taken-most : (xs : List (ℕ × Bool)) (i : ℕ) → length (taken_in (take i xs)) ≤ length (taken_in xs)
taken-most [] zero = omega arith
taken-most [] (suc i) = omega arith
taken-most (x ∷ xs) zero = omega arith
taken-most ((k, true) ∷ xs) (suc i) = let rest = taken-most xs i in omega (arith, rest)
taken-most ((k, false) ∷ xs) (suc i) = taken-most xs i

pub taken-next : (xs : List (ℕ × Bool)) (i : ℕ) (e : ℕ × Bool) → slice_get xs i ≡ Some e → taken_in (take (i + 1) xs) ≡ taken_in (take i xs) ++ taken_in (e ∷ [])
taken-next xs i e at = ap taken_in (front-more xs i e at) ∙ taken-front (take i xs) e

pub taken-count : (xs : List (ℕ × Bool)) (i : ℕ) (e : ℕ × Bool) → slice_get xs i ≡ Some e → length (taken_in (take i xs)) + length (taken_in (e ∷ [])) ≡ length (taken_in (take (i + 1) xs))
taken-count xs i e at = sym (ap (λ ns. length ns) (taken-next xs i e at) ∙ length-append (taken_in (take i xs)) (taken_in (e ∷ [])))

-- ---- one more
pub Touches-then : (owner : ℕ) (ns ms : List ℕ) (s t u : Slots) → Touches owner ns s t → Touches owner ms t u → Touches owner (ns ++ ms) s u
Touches-then owner ns ms s t u before now m other =
    let both = or-neither (is_among ns m) (is_among ms m) (sym (list_any-append (λ k. k == m) ns ms) ∙ other) in
    now m both.1 ∙ before m both.0
  where
    or-neither : (a b : Bool) → (a || b) ≡ false → (a ≡ false) × (b ≡ false)
    or-neither false b is = (refl, is)
    or-neither true b is = absurd (false≢true (sym is))

among-front : (ns : List ℕ) (n m : ℕ) → is_among (ns ++ n ∷ []) m ≡ (is_among ns m || (n == m || false))
among-front ns n m = list_any-append (λ k. k == m) ns (n ∷ [])

or-false : (a b : Bool) → (a || (b || false)) ≡ false → (a ≡ false) × (b ≡ false)
or-false false false is = (refl, refl)
or-false true b is = absurd (false≢true (sym is))
or-false false true is = absurd (false≢true (sym is))

or-true : (a b : Bool) → (a || (b || false)) ≡ true → b ≡ false → a ≡ true
or-true true b is other = refl
or-true false true is other = absurd (false≢true (sym other))
or-true false false is other = absurd (false≢true is)

far : (n m : ℕ) → (n == m) ≡ false → n ≡ m → ⊥
far n m other same = false≢true (sym other ∙ eq-eqb n m same)

pub Touches-more : (owner : ℕ) (ns : List ℕ) (n : ℕ) (s t u : Slots) → Touches owner ns s t → ((m : ℕ) → (n ≡ m → ⊥) → owned u owner m ≡ owned t owner m) → Touches owner (ns ++ n ∷ []) s u
Touches-more owner ns n s t u before now m other =
    let both = or-false (is_among ns m) (n == m) (sym (among-front ns n m) ∙ other) in
    now m (far n m both.1) ∙ before m both.0

pub AreSet-more : (owner : ℕ) (ns : List ℕ) (n : ℕ) (bytes : ℕ → List ℕ) (s t u : Slots) → AreSet owner ns bytes s t → IsSet owner n (bytes n) t u → AreSet owner (ns ++ n ∷ []) bytes s u
AreSet-more owner ns n bytes s t u before now = record {
  here = λ m among. by m (n == m) refl among;
  rest = Touches-more owner ns n s t u before.rest now.rest;
}
  where
    by : (m : ℕ) (b : Bool) → (n == m) ≡ b → is_among (ns ++ n ∷ []) m ≡ true → owned u owner m ≡ bytes m
    by m true is among = let same = eqb-true n m is in subst (λ (k : ℕ). owned u owner k ≡ bytes k) same now.here
    by m false is among = now.rest m (far n m is) ∙ before.here m (or-true (is_among ns m) (n == m) (sym (among-front ns n m) ∙ among) is)

pub Ends-then : (owner : ℕ) (want : Wanted) (s : Slots) (p q : Parts) (A B C : Slots → Type 0) (first : Ends owner want s p A) → (HasPages want first.slots p → Ends owner want first.slots q B) → ((u : Slots) → A first.slots → B u → C u) → Ends owner want s q C
Ends-then owner want s p q A B C first next both =
    let second = next first.has in
    record { slots = second.slots; has = second.has; others = λ o other. second.others o other ∙ first.others o other; is = both second.slots first.is second.is }

-- a refusal of a later call, which is handed on
pub Ends-handed : (owner : ℕ) (o p q : Parts) (e : SpaceFault) (r : Result (Unit {0}) SpaceFault) → IsErrAnd r (λ f. f ≡ e) → (A B C : Slots → Slots → Type 0)
    → UnlessDown {T = Unit {0}} (Err e) ((want : Wanted) (s : Slots) → HasPages want s p → Ends owner want s q (A s))
    → ((want : Wanted) (s : Slots) → HasPages want s o → Ends owner want s p (B s))
    → UnlessDown r ((want : Wanted) (s : Slots) → HasPages want s o → Ends owner want s q (λ t. OnOk r (C s t)))
Ends-handed owner o p q e (Ok done) is A B C last first = absurd is
Ends-handed owner o p q e (Err f) is A B C last first =
    UnlessDown-map {T = Unit {0}} (Err f) ((want : Wanted) (s : Slots) → HasPages want s p → Ends owner want s q (A s)) ((want : Wanted) (s : Slots) → HasPages want s o → Ends owner want s q (λ t. Unit {0}))
    (λ next want s has. Ends-then owner want s p q (B s) (A _) (λ t. Unit {0}) (first want s has) (λ mid. next want _ mid) (λ u before now. tt))
    (subst (λ (x : SpaceFault). UnlessDown {T = Unit {0}} (Err x) ((want : Wanted) (s : Slots) → HasPages want s p → Ends owner want s q (A s))) (sym is) last)

pub Touches-one : (owner n : ℕ) (s t : Slots) → ((m : ℕ) → (n ≡ m → ⊥) → owned t owner m ≡ owned s owner m) → Touches owner (n ∷ []) s t
Touches-one owner n s t rest m other = rest m (far n m (or-false false (n == m) other).1)
