-- Keys in order, and lists of entries of which one part alone can have a key.
use Rattle.std.proofs.Common.{◌≡◌, ℕ, true, false, cond, List, [], ◌∷◌, ◌++◌, Some, None, refl, ap, sym, ◌∙◌, subst}
use Rattle.std.specs.declared.cmp.Ordering.{Ordering}
use Rattle.std.specs.declared.cmp.Ordering.TheVariants.{Less, Equal, Greater}
use Rattle.std.specs.Ordering.{is_lt, is_eq, eq_by_cmp, ordering_reverse}
use Rattle.std.specs.List.{AllByRecursion}
use Rattle.std.proofs.lemmas.Cmp.{nat_list_cmp_total}
use Rattle.std.specs.FinMap.{slice_cmp-IsAntisymmetric, nat_cmp-IsAntisymmetric}
use Rattle.std.specs.FinMap.Entries.{find}
use Rattle.std.proofs.lemmas.Bool.{false_from_ne_true}
use Rattle.sb_value.proofs.Truths.{is_lt-less}
use Rattle.sb_node.specs.Entries.{Entry, key_cmp, is_below}

pub same_key : (x y : List ℕ) → key_cmp x y ≡ Equal → x ≡ y
same_key x y e = slice_cmp-IsAntisymmetric nat_cmp-IsAntisymmetric x y e

pub below-less : (x y : List ℕ) → is_below x y ≡ true → key_cmp x y ≡ Less
unfolding is_below
below-less x y e = is_lt-less (key_cmp x y) e

pub less-below : (x y : List ℕ) → key_cmp x y ≡ Less → is_below x y ≡ true
unfolding is_below
less-below x y e = ap is_lt e

turned : (o : Ordering) → is_lt o ≡ false → (o ≡ Equal → ⊥) → ordering_reverse o ≡ Less
turned Less e d = absurd (cc)
turned Equal e d = absurd (d refl)
turned Greater e d = refl

-- greater, where neither below nor the same
pub not_below-greater : (x y : List ℕ) → is_below x y ≡ false → (key_cmp x y ≡ Equal → ⊥) → is_below y x ≡ true
not_below-greater x y e d = less-below y x (nat_list_cmp_total.antisymm y x ∙ turned (key_cmp x y) (unfold is_below in e) d)

pub below-trans : (x y z : List ℕ) → is_below x y ≡ true → is_below y z ≡ true → is_below x z ≡ true
below-trans x y z p q = less-below x z (nat_list_cmp_total.trans x y z (below-less x y p) (below-less y z q))

-- x < z where y is not above x and y < z
pub upto-below : (x y z : List ℕ) → is_below y x ≡ false → is_below y z ≡ true → is_below x z ≡ true
upto-below x y z p q =
    elim (key_cmp y x) as (λ o. key_cmp y x ≡ o → is_below x z ≡ true) [
      | Less ↦ λ e. let f = less-below y x e in cc
      | Equal ↦ λ e. subst (λ k. is_below k z ≡ true) (same_key y x e) q
      | Greater ↦ λ e. below-trans x y z (not_below-greater y x p (λ f. cc)) q
    ] refl

pub below-upto : (x y z : List ℕ) → is_below x y ≡ true → is_below z y ≡ false → is_below x z ≡ true
below-upto x y z p q =
    elim (key_cmp z y) as (λ o. key_cmp z y ≡ o → is_below x z ≡ true) [
      | Less ↦ λ e. let f = less-below z y e in cc
      | Equal ↦ λ e. subst (λ k. is_below x k ≡ true) (sym (same_key z y e)) p
      | Greater ↦ λ e. below-trans x y z p (not_below-greater z y q (λ f. cc))
    ] refl

pub below-greater : (x y : List ℕ) → is_below x y ≡ true → key_cmp y x ≡ Greater
below-greater x y p = nat_list_cmp_total.antisymm y x ∙ ap ordering_reverse (below-less x y p)

-- x ≥ z where x ≥ y and y ≥ z
pub above-trans : (x y z : List ℕ) → is_below x y ≡ false → is_below y z ≡ false → is_below x z ≡ false
above-trans x y z p q = false_from_ne_true (is_below x z) (λ e. let f = upto-below y x z p e in cc)

pub above-first : (x : List ℕ) → is_below x [] ≡ false
unfolding is_below
above-first [] = refl
above-first (a ∷ x) = refl

-- all are less, and all are greater
abbrev pub AllLess : List ℕ → List Entry → Type 0
AllLess key es = AllByRecursion (λ e. key_cmp key e.0 ≡ Greater) es

abbrev pub AllMore : List ℕ → List Entry → Type 0
AllMore key es = AllByRecursion (λ e. key_cmp key e.0 ≡ Less) es

pub find_less : (key : List ℕ) (xs ys : List Entry) → AllLess key xs → find key_cmp key (xs ++ ys) ≡ find key_cmp key ys
find_less key [] ys h = refl
find_less key (x ∷ xs) ys h = ap (λ o. cond (is_eq o) (Some x.1) (find key_cmp key (xs ++ ys))) h.0 ∙ find_less key xs ys h.1

pub find_none : (key : List ℕ) (ys : List Entry) → AllMore key ys → find key_cmp key ys ≡ None
find_none key [] h = refl
find_none key (y ∷ ys) h = ap (λ o. cond (is_eq o) (Some y.1) (find key_cmp key ys)) h.0 ∙ find_none key ys h.1

pub find_more : (key : List ℕ) (xs ys : List Entry) → AllMore key ys → find key_cmp key (xs ++ ys) ≡ find key_cmp key xs
find_more key [] ys h = find_none key ys h
find_more key (x ∷ xs) ys h = ap (λ r. cond (eq_by_cmp key_cmp key x.0) (Some x.1) r) (find_more key xs ys h)

-- a key of the part in the middle
pub find_middle : (key : List ℕ) (xs ms ys : List Entry) → AllLess key xs → AllMore key ys → find key_cmp key (xs ++ (ms ++ ys)) ≡ find key_cmp key ms
find_middle key xs ms ys h g = find_less key xs (ms ++ ys) h ∙ find_more key ms ys g
