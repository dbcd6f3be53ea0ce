-- Numbers of pages in lists, counted.
use Rattle.std.proofs.Common.{◌≡◌, ℕ, zero, suc, ◌+◌, ◌≤◌, ◌<◌, ◌==◌, Bool, true, false, true≢false, cond, not, List, [], ◌∷◌, length, filter, refl, ap, sym, ◌∙◌, subst, arith, eq-eqb, eqb-true, inl, inr}
use Rattle.std.specs.List.{range_with_len}
use Rattle.std.proofs.lemmas.Bool.{not-true}
use Rattle.sb_forms.specs.Fits.{is_empty}
use Rattle.sb_forms.specs.Pages.{Pages, page_numbers, page_count}
use Rattle.sb_forms.specs.Tree.{Has, Apart}
use Rattle.sb_forms.specs.Read.{has}
use Rattle.sb_forms.specs.TreePages.{tree_met}
use Rattle.sb_btree.proofs.Members.{has_is}

-- ---- a list without a number
abbrev less_one : ℕ → List ℕ → List ℕ
less_one x [] = []
less_one x (y ∷ ys) = cond (x == y) ys (y ∷ less_one x ys)

has_later : (x y : ℕ) (ys : List ℕ) → x == y ≡ false → Has x (y ∷ ys) → Has x ys
has_later x y ys other (inl e) = absurd (true≢false (sym (eq-eqb x y e) ∙ other))
has_later x y ys other (inr h) = h

less_length : (x : ℕ) (ys : List ℕ) → Has x ys → length ys ≡ length (less_one x ys) + 1
less_length x [] h = absurd h
less_length x (y ∷ ys) h = elim (x == y) as (λ t. x == y ≡ t → length (y ∷ ys) ≡ length (cond t ys (y ∷ less_one x ys)) + 1) [
  | true ↦ λ is. omega arith
  | false ↦ λ other. omega (arith, less_length x ys (has_later x y ys other h))
] refl

less_has : (x z : ℕ) (ys : List ℕ) → (z ≡ x → ⊥) → Has z ys → Has z (less_one x ys)
less_has x z [] ne h = absurd h
less_has x z (y ∷ ys) ne h = elim (x == y) as (λ t. x == y ≡ t → Has z (cond t ys (y ∷ less_one x ys))) [
  | true ↦ λ is. elim h [ inl e ↦ absurd (ne (e ∙ sym (eqb-true x y is))) | inr r ↦ r ]
  | false ↦ λ other. elim h [ inl e ↦ inl e | inr r ↦ inr (less_has x z ys ne r) ]
] refl

-- numbers that stand apart, and are all in another list, are no more than it has
pub no_more : (xs ys : List ℕ) → Apart xs → ((x : ℕ) → Has x xs → Has x ys) → length xs ≤ length ys
no_more [] ys apart in_all = omega arith
no_more (x ∷ xs) ys apart in_all =
    let rest = no_more xs (less_one x ys) apart.1 (λ z h. less_has x z ys (λ e. apart.0 (subst (λ y. Has y xs) e h)) (in_all z (inr h))) in
    omega (arith, rest, less_length x ys (in_all x (inl refl)))

-- ---- the numbers of an instance's pages
range_from : (p : ℕ → Bool) (low len x : ℕ) → Has x (filter p (range_with_len low len)) → low ≤ x
range_from p low zero x h = absurd h
range_from p low (suc len) x h = by (p low) h (range_from p (low + 1) len x)
  where
    by : (b : Bool) → Has x (cond b (low ∷ filter p (range_with_len (low + 1) len)) (filter p (range_with_len (low + 1) len))) → (Has x (filter p (range_with_len (low + 1) len)) → low + 1 ≤ x) → low ≤ x
    by true (inl e) later = omega (arith, e)
    by true (inr g) later = omega (arith, later g)
    by false g later = omega (arith, later g)

range_to : (p : ℕ → Bool) (low len x : ℕ) → Has x (filter p (range_with_len low len)) → x < low + len
range_to p low zero x h = absurd h
range_to p low (suc len) x h = by (p low) h (range_to p (low + 1) len x)
  where
    by : (b : Bool) → Has x (cond b (low ∷ filter p (range_with_len (low + 1) len)) (filter p (range_with_len (low + 1) len))) → (Has x (filter p (range_with_len (low + 1) len)) → x < low + 1 + len) → x < low + suc len
    by true (inl e) later = omega (arith, e)
    by true (inr g) later = omega (arith, later g)
    by false g later = omega (arith, later g)

range_apart : (p : ℕ → Bool) (low len : ℕ) → Apart (filter p (range_with_len low len))
range_apart p low zero = tt
range_apart p low (suc len) = elim (p low) as (λ b. Apart (cond b (low ∷ filter p (range_with_len (low + 1) len)) (filter p (range_with_len (low + 1) len)))) [
  | true ↦ ((λ h. omega (arith, range_from p (low + 1) len low h)), range_apart p (low + 1) len)
  | false ↦ range_apart p (low + 1) len
]

kept_passes : (p : ℕ → Bool) (xs : List ℕ) (x : ℕ) → Has x (filter p xs) → p x ≡ true
kept_passes p [] x h = absurd h
kept_passes p (y ∷ ys) x h = elim (p y) as (λ b. p y ≡ b → Has x (cond b (y ∷ filter p ys) (filter p ys)) → p x ≡ true) [
  | true ↦ λ is g. elim g [ inl e ↦ ap p e ∙ is | inr r ↦ kept_passes p ys x r ]
  | false ↦ λ other g. kept_passes p ys x g
] refl h

pub pages_apart : (P : Pages) → Apart (page_numbers P)
unfolding page_numbers
pages_apart P = range_apart (λ n. not (is_empty (P n))) 0 65536

pub pages_some : (P : Pages) (n : ℕ) → Has n (page_numbers P) → is_empty (P n) ≡ false
unfolding page_numbers
pages_some P n h = not-true (is_empty (P n)) (kept_passes (λ m. not (is_empty (P m))) (range_with_len 0 65536) n h)

pages_low : (P : Pages) (n : ℕ) → Has n (page_numbers P) → n < 65536
unfolding page_numbers
pages_low P n h = range_to (λ m. not (is_empty (P m))) 0 65536 n h

-- pages that a tree meets all are no more than it meets
pub all_few : (root : ℕ) (P : Pages) → ((n : ℕ) → n < 65536 → is_empty (P n) ≡ false → has n (tree_met root P) ≡ true) → page_count P ≤ length (tree_met root P)
all_few root P all = no_more (page_numbers P) (tree_met root P) (pages_apart P) (λ n h. has_is n (tree_met root P) (all n (pages_low P n h) (pages_some P n h)))

pub pages_few : (root : ℕ) (P : Pages) → ((n : ℕ) → is_empty (P n) ≡ false → has n (tree_met root P) ≡ true) → page_count P ≤ length (tree_met root P)
pages_few root P all = all_few root P (λ n less. all n)
