-- Items by their places.
use Rattle.std.proofs.Common.{◌≡◌, ℕ, zero, suc, ◌<◌, ◌≤◌, Bool, true, false, true≢false, cond, ◌||◌, List, [], ◌∷◌, length, All, Some, None, refl, sym, ap, ◌∙◌, subst, arith}
use Rattle.std.specs.List.{find, list_any, slice_get}
use Rattle.std.proofs.lemmas.List.Elements.{All-nil, All-cons, All-head, All-tail}
use Rattle.std.proofs.lemmas.Option.{same_Some}
use Rattle.sb_value.proofs.Truths.{some_none}

pub all_placed : {A : Type 0} (P : A → Type 0) (xs : List A) (n : ℕ) → length xs ≤ n → ((i : ℕ) → i < n → (a : A) → slice_get xs i ≡ Some a → P a) → All P xs
all_placed P [] n le is = All-nil P
all_placed P (x ∷ xs) zero le is = absurd (omega arith)
all_placed P (x ∷ xs) (suc n) le is = All-cons P x xs (is zero (omega arith) x refl) (all_placed P xs n (omega arith) (λ i less a at. is (suc i) (omega (arith, less)) a at))

pub placed_all : {A : Type 0} (P : A → Type 0) (xs : List A) (i : ℕ) (a : A) → All P xs → slice_get xs i ≡ Some a → P a
placed_all P [] i a all at = absurd (cc)
placed_all P (x ∷ xs) zero a all at = subst P (same_Some x a at) (All-head P x xs all)
placed_all P (x ∷ xs) (suc i) a all at = placed_all P xs i a (All-tail P x xs all) at

pub placed_some : {A : Type 0} (xs : List A) (i : ℕ) → i < length xs → (a : A) × (slice_get xs i ≡ Some a)
placed_some [] i less = absurd (omega arith)
placed_some (x ∷ xs) zero less = (x, refl)
placed_some (x ∷ xs) (suc i) less = placed_some xs i (omega arith)

pub placed_below : {A : Type 0} (xs : List A) (i : ℕ) (a : A) → slice_get xs i ≡ Some a → i < length xs
placed_below [] i a at = absurd (cc)
placed_below (x ∷ xs) zero a at = omega arith
placed_below (x ∷ xs) (suc i) a at = let less : i < length xs = placed_below xs i a at in omega (arith, less)

-- of two lists of one length one has an item where the other has
pub absent : {A B : Type 0} (xs : List A) (ys : List B) (i : ℕ) (b : B) → length ys ≡ length xs → slice_get xs i ≡ None → slice_get ys i ≡ Some b → ⊥
absent xs ys i b same none at =
    let less = placed_below ys i b at in
    let found = placed_some xs i (omega (arith, same, less)) in
    some_none found.0 (sym found.1 ∙ none)

-- ---- the first that passes a test
pub find_first : {A : Type 0} (test : A → Bool) (xs : List A) (i : ℕ) (a : A) → slice_get xs i ≡ Some a → test a ≡ true → ((j : ℕ) → j < i → (b : A) → slice_get xs j ≡ Some b → test b ≡ false) → find test xs ≡ Some a
find_first test [] i a at is none = absurd (cc)
find_first test (x ∷ xs) zero a at is none = ap (λ (b : Bool). cond b (Some x) (find test xs)) (ap test (same_Some x a at) ∙ is) ∙ at
find_first test (x ∷ xs) (suc i) a at is none =
    ap (λ (b : Bool). cond b (Some x) (find test xs)) (none zero (omega arith) x refl) ∙ find_first test xs i a at is (λ j less b there. none (suc j) (omega (arith, less)) b there)

pub find_none : {A : Type 0} (test : A → Bool) (xs : List A) (n : ℕ) → length xs ≤ n → ((j : ℕ) → j < n → (b : A) → slice_get xs j ≡ Some b → test b ≡ false) → find test xs ≡ None
find_none test [] n le none = refl
find_none test (x ∷ xs) zero le none = absurd (omega arith)
find_none test (x ∷ xs) (suc n) le none =
    ap (λ (b : Bool). cond b (Some x) (find test xs)) (none zero (omega arith) x refl) ∙ find_none test xs n (omega arith) (λ j less b there. none (suc j) (omega (arith, less)) b there)

-- some item passes
pub any_placed : {A : Type 0} (test : A → Bool) (xs : List A) → list_any test xs ≡ true → (j : ℕ) × (a : A) × (slice_get xs j ≡ Some a) × (test a ≡ true)
any_placed test [] some = absurd (true≢false (sym some))
any_placed {A} test (x ∷ xs) some = by (test x) refl some (any_placed test xs)
  where
    by : (b : Bool) → test x ≡ b → (b || list_any test xs) ≡ true → (list_any test xs ≡ true → (j : ℕ) × (a : A) × (slice_get xs j ≡ Some a) × (test a ≡ true))
        → (j : ℕ) × (a : A) × (slice_get (x ∷ xs) j ≡ Some a) × (test a ≡ true)
    by true is some rest = (zero, x, refl, is)
    by false is some rest = let later = rest some in (suc later.0, later.1, later.2, later.3)
