-- Trees that meet all pages of an instance.
use Rattle.std.proofs.Common.{◌≡◌, ◌≢◌, ℕ, zero, suc, ◌+◌, ◌<◌, ◌≤◌, ◌==◌, nat_lt, Bool, true, false, cond, not, ◌||◌, List, [], ◌∷◌, filter, Some, None, refl, ap, sym, ◌∙◌, subst, arith, eqb-true, eq-eqb, true≢false}
use Rattle.std.specs.List.{list_all, range_with_len}
use Rattle.std.specs.Prelude.{nat_eq}
use Rattle.std.proofs.lemmas.Bool.{and_parts, and_from, ltb-true, lt-ltb, not-true, eqb-false}
use Rattle.sb_relation.specs.Fits.{is_empty}
use Rattle.sb_node.specs.Entries.{Entry}
use Rattle.sb_forms.specs.Maps.{map_in}
use Rattle.sb_forms.specs.Pages.{Pages, page_numbers}
use Rattle.sb_forms.specs.Read.{has, read_tree}
use Rattle.sb_forms.specs.TreePages.{is_all, tree_met}

-- ---- numbers in lists
has_first : (x : ℕ) (xs : List ℕ) → has x (x ∷ xs) ≡ true
has_first x xs = ap (λ t. t || has x xs) (eq-eqb x x refl)

has_later : (n : ℕ) (x : ℕ) (xs : List ℕ) → has n xs ≡ true → has n (x ∷ xs) ≡ true
has_later n x xs is = elim (nat_eq n x) as (λ t. (t || has n xs) ≡ true) [ true ↦ refl | false ↦ is ]

-- what is so of each number of a list
each_passes : (q : ℕ → Bool) (xs : List ℕ) (n : ℕ) → list_all q xs ≡ true → has n xs ≡ true → q n ≡ true
each_passes q [] n all is = cc
each_passes q (x ∷ xs) n all is =
    let parts = and_parts (q x) (list_all q xs) all in
    elim (nat_eq n x) as (λ t. nat_eq n x ≡ t → (t || has n xs) ≡ true → q n ≡ true) [
      | true ↦ λ same e. subst (λ m. q m ≡ true) (sym (eqb-true n x same)) parts.0
      | false ↦ λ other e. each_passes q xs n parts.1 e
    ] refl is

all_pass : (q : ℕ → Bool) (xs : List ℕ) → ((n : ℕ) → has n xs ≡ true → q n ≡ true) → list_all q xs ≡ true
all_pass q [] gives = refl
all_pass q (x ∷ xs) gives = and_from (q x) (list_all q xs) (gives x (has_first x xs)) (all_pass q xs (λ n is. gives n (has_later n x xs is)))

-- what is so of all numbers in a range that pass, is so of one
one_in : (p q : ℕ → Bool) (low len n : ℕ) → low ≤ n → n < low + len → p n ≡ true → list_all q (filter p (range_with_len low len)) ≡ true → q n ≡ true
one_in p q low zero n from to passes all = absurd (omega arith)
one_in p q low (suc len) n from to passes all =
    by (low == n) refl (p low) refl all (λ more rest. one_in p q (low + 1) len n more (omega arith) passes rest)
  where
    F : List ℕ
    F = filter p (range_with_len (low + 1) len)

    rest_of : (b : Bool) → list_all q (cond b (low ∷ F) F) ≡ true → list_all q F ≡ true
    rest_of true all = (and_parts (q low) (list_all q F) all).1
    rest_of false all = all

    by : (t : Bool) → low == n ≡ t → (b : Bool) → p low ≡ b → list_all q (cond b (low ∷ F) F) ≡ true → (low + 1 ≤ n → list_all q F ≡ true → q n ≡ true) → q n ≡ true
    by true same true is all more = subst (λ m. q m ≡ true) (eqb-true low n same) (and_parts (q low) (list_all q F) all).0
    by true same false is all more = absurd (true≢false (sym passes ∙ ap p (sym (eqb-true low n same)) ∙ is))
    by false other b is all more = more (omega (arith, from, eqb-false low n other)) (rest_of b all)

-- and what is so of each that passes, is so of all
all_in : (p q : ℕ → Bool) (low len : ℕ) → ((n : ℕ) → low ≤ n → n < low + len → p n ≡ true → q n ≡ true) → list_all q (filter p (range_with_len low len)) ≡ true
all_in p q low zero gives = refl
all_in p q low (suc len) gives =
    by (p low) refl (all_in p q (low + 1) len (λ n from to passes. gives n (omega (arith, from)) (omega (arith, to)) passes))
  where
    F : List ℕ
    F = filter p (range_with_len (low + 1) len)

    by : (b : Bool) → p low ≡ b → list_all q F ≡ true → list_all q (cond b (low ∷ F) F) ≡ true
    by true passes rest = and_from (q low) (list_all q F) (gives low (omega arith) (omega arith) passes) rest
    by false fails rest = rest

-- ---- the tree meets each page, and no number that no page has
pub record MeetsAll (root : ℕ) (P : Pages) : Type 0 where
  pub all : (n : ℕ) → n < 65536 → is_empty (P n) ≡ false → has n (tree_met root P) ≡ true
  pub low : (n : ℕ) → has n (tree_met root P) ≡ true → n < 65536

one_page : (P : Pages) (q : ℕ → Bool) (n : ℕ) → list_all q (page_numbers P) ≡ true → n < 65536 → is_empty (P n) ≡ false → q n ≡ true
unfolding page_numbers
one_page P q n all less some = one_in (λ m. not (is_empty (P m))) q 0 65536 n (omega arith) (omega (arith, less)) (ap not some) all

all_pages : (P : Pages) (q : ℕ → Bool) → ((n : ℕ) → n < 65536 → is_empty (P n) ≡ false → q n ≡ true) → list_all q (page_numbers P) ≡ true
unfolding page_numbers
all_pages P q gives = all_in (λ m. not (is_empty (P m))) q 0 65536 (λ n from to some. gives n (omega (arith, to)) (not-true (is_empty (P n)) some))

pub meets_all : (root : ℕ) (P : Pages) → is_all root P ≡ true → MeetsAll root P
meets_all root P is =
    let parts = and_parts (list_all (λ n. has n (tree_met root P)) (page_numbers P)) (list_all (λ n. nat_lt n 65536) (tree_met root P)) is in
    record {
      all = λ n less some. one_page P (λ m. has m (tree_met root P)) n parts.0 less some;
      low = λ n met. ltb-true n 65536 (each_passes (λ m. nat_lt m 65536) (tree_met root P) n parts.1 met);
    }

pub is_all-met : (root : ℕ) (P : Pages) → MeetsAll root P → is_all root P ≡ true
is_all-met root P meets =
    and_from (list_all (λ n. has n (tree_met root P)) (page_numbers P)) (list_all (λ n. nat_lt n 65536) (tree_met root P))
    (all_pages P (λ n. has n (tree_met root P)) meets.all) (all_pass (λ n. nat_lt n 65536) (tree_met root P) (λ n is. lt-ltb n 65536 (meets.low n is)))

-- a root alone is met, and no other number
pub one_met : (root : ℕ) (P : Pages) (n : ℕ) → tree_met root P ≡ root ∷ [] → ((m : ℕ) → m ≢ root → P m ≡ []) → is_empty (P n) ≡ false → has n (tree_met root P) ≡ true
one_met root P n one others some =
    ap (has n) one ∙ elim (nat_eq n root) as (λ t. nat_eq n root ≡ t → (t || false) ≡ true) [
      | true ↦ λ same. refl
      | false ↦ λ other. absurd (true≢false (sym (ap is_empty (others n (eqb-false n root other))) ∙ some))
    ] refl

pub one_low : (root : ℕ) (P : Pages) (n : ℕ) → tree_met root P ≡ root ∷ [] → root < 65536 → has n (tree_met root P) ≡ true → n < 65536
one_low root P n one less is =
    elim (nat_eq n root) as (λ t. nat_eq n root ≡ t → (t || false) ≡ true → n < 65536) [
      | true ↦ λ same e. subst (λ m. m < 65536) (sym (eqb-true n root same)) less
      | false ↦ λ other e. absurd (true≢false (sym e))
    ] refl (ap (has n) (sym one) ∙ is)

pub MeetsAll-one : (root : ℕ) (P : Pages) → tree_met root P ≡ root ∷ [] → root < 65536 → ((n : ℕ) → n ≢ root → P n ≡ []) → MeetsAll root P
MeetsAll-one root P one less others = record {
  all = λ n below some. one_met root P n one others some;
  low = λ n is. one_low root P n one less is;
}

-- ---- a map is a tree that does so
pub record IsMap (root : ℕ) (P : Pages) (es : List Entry) : Type 0 where
  pub tree : read_tree root P ≡ Some es
  pub all : is_all root P ≡ true

pub is_map : (root : ℕ) (P : Pages) (es : List Entry) → map_in root P ≡ Some es → IsMap root P es
unfolding map_in
is_map root P es is = by (is_all root P) refl is
  where
    by : (b : Bool) → is_all root P ≡ b → cond b (read_tree root P) None ≡ Some es → IsMap root P es
    by true met e = record { tree = e; all = met }
    by false none e = absurd (cc)

pub map_tree : (root : ℕ) (P : Pages) (es : List Entry) → map_in root P ≡ Some es → read_tree root P ≡ Some es
map_tree root P es is = (is_map root P es is).tree

pub map_all : (root : ℕ) (P : Pages) (es : List Entry) → map_in root P ≡ Some es → is_all root P ≡ true
map_all root P es is = (is_map root P es is).all

pub map_from : (root : ℕ) (P : Pages) (es : List Entry) → read_tree root P ≡ Some es → is_all root P ≡ true → map_in root P ≡ Some es
unfolding map_in
map_from root P es tree all = ap (λ b. cond b (read_tree root P) None) all ∙ tree
