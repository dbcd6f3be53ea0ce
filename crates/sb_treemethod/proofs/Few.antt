-- A tree of pages has fewer than 2 to the 48th entries.
use Rattle.std.proofs.Common.{◌≡◌, ℕ, zero, suc, ◌+◌, ◌*◌, ◌<◌, ◌≤◌, ◌==◌, nat_lt, Bool, true, false, cond, not, ◌&&◌, ◌||◌, List, [], ◌∷◌, length, Some, None, refl, arith, eqb-true, ne_eqb, length-append, inl, inr}
use Rattle.std.specs.Prelude.{nat_eq}
use Rattle.std.specs.List.{list_any, AllByRecursion, IsDistinct}
use Rattle.std.proofs.lemmas.Bool.Decides.{nat_tests}
use Rattle.std.proofs.lemmas.List.Sums.{sum_by-cons}
use Rattle.std.proofs.lemmas.Map.Steps.{length-le_from_distinct_below}
use Rattle.sb_bytes.specs.Field.{number_at}
use Rattle.sb_node.specs.Entries.{Entry, size_of, sizes}
use Rattle.sb_node.specs.Page.{has_form, node_in}
use Rattle.sb_node.proofs.Sizes.{used_is}
use Rattle.sb_forms.specs.Pages.{Pages}
use Rattle.sb_forms.specs.Tree.{nodes, Child, children_of, entries_of, over, items, met, Has, Apart}
use Rattle.sb_forms.specs.Read.{has}
use Rattle.sb_btree.proofs.Reading.{has_says}

-- ---- a page has at most 1,018 entries
sizes_more : (es : List Entry) → 4 * length es ≤ sizes es
sizes_more [] = omega arith
sizes_more (e ∷ es) =
    let all : sizes (e ∷ es) ≡ size_of e + sizes es = sum_by-cons size_of e es in
    omega (arith, all, sizes_more es)

used_few : (b : List ℕ) → has_form b ≡ true → number_at 2 b 4 ≤ 4072
unfolding has_form
used_few b is = few (nat_eq (length b) 4096) (nat_lt 4072 (number_at 2 b 4)) refl _ is
  where
    few : (p q : Bool) → nat_lt 4072 (number_at 2 b 4) ≡ q → (r : Bool) → (p && (not q && r)) ≡ true → number_at 2 b 4 ≤ 4072
    few true true far r e = cc
    few false true far r e = cc
    few p false near r e = grind (arith, nat_tests, near)

page_few : (P : Pages) (p : ℕ) → length (entries_of (nodes P p)) ≤ 1018
page_few P p = elim (has_form (P p)) as (λ t. has_form (P p) ≡ t → length (entries_of (cond t (Some (node_in (P p))) None)) ≤ 1018) [
  | true ↦ λ is. omega (arith, sizes_more (node_in (P p)).entries, used_is (P p) is, used_few (P p) is)
  | false ↦ λ is. omega arith
] refl

-- ---- and a tree as many for each page
over_few : (f : ℕ → List Entry) (g : ℕ → List ℕ) → ((p : ℕ) → length (f p) ≤ 1018 * length (g p)) → (ks : List Child) → length (over f ks) ≤ 1018 * length (over g ks)
over_few f g few [] = omega arith
over_few f g few (k ∷ ks) = omega (arith, few k.1, over_few f g few ks, length-append (f k.1) (over f ks), length-append (g k.1) (over g ks))

pub items_few : (P : Pages) (l p : ℕ) → length (items l (nodes P) p) ≤ 1018 * length (met l (nodes P) p)
items_few P zero p = omega (arith, page_few P p)
items_few P (suc l) p = omega (arith, over_few (items l (nodes P)) (met l (nodes P)) (λ c. items_few P l c) (children_of (nodes P p)))

-- ---- pages that stand apart below a bound are no more than it
none_same : (x : ℕ) (xs : List ℕ) → (Has x xs → ⊥) → AllByRecursion (λ y. (x == y) ≡ false) xs
none_same x [] none = tt
none_same x (y ∷ ys) none = (ne_eqb x y (λ e. none (inl e)), none_same x ys (λ h. none (inr h)))

distinct : (xs : List ℕ) → Apart xs → IsDistinct (λ a b. a == b) xs
unfolding IsDistinct
distinct [] apart = tt
distinct (x ∷ xs) apart = (none_same x xs apart.0, distinct xs apart.1)

any_has : (q : ℕ) (xs : List ℕ) → list_any (λ x. q == x) xs ≡ true → Has q xs
any_has q [] is = cc
any_has q (x ∷ xs) is = elim (q == x) as (λ t. (q == x) ≡ t → (t || list_any (λ x. q == x) xs) ≡ true → Has q (x ∷ xs)) [
  | true ↦ λ same e. inl (eqb-true q x same)
  | false ↦ λ other e. inr (any_has q xs e)
] refl is

pub apart_few : (xs : List ℕ) (most : ℕ) → Apart xs → ((n : ℕ) → has n xs ≡ true → n < most) → length xs ≤ most
apart_few xs most apart low = length-le_from_distinct_below xs most (distinct xs apart) (λ q is. low q ((has_says q xs).1 (any_has q xs is)))
