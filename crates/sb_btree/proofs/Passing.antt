-- Entries that a key has passed, and the children and entries behind it.
use Rattle.std.proofs.Common.{◌≡◌, ℕ, zero, suc, Bool, true, false, cond, not, List, [], ◌∷◌, ◌++◌, length, map, Option, Some, None, is_some, refl, ap, sym, ◌∙◌, subst, arith}
use Rattle.std.specs.Prelude.{nat_lt, slice_get}
use Rattle.std.specs.List.{find as first, AllByRecursion}
use Rattle.sb_bytes.specs.Field.{number_at}
use Rattle.sb_node.specs.Entries.{Entry, is_below}
use Rattle.sb_forms.specs.Tree.{child_of, over, IsWithin, AreChildren, child_for}
use Rattle.sb_btree.specs.Held.{passed, nth_child}
use Rattle.sb_btree.specs.Ways.{is_behind}
use Rattle.std.proofs.lemmas.Bool.Decides.{nat_tests}
use Rattle.std.proofs.lemmas.Bool.{false_from_ne_true}
use Rattle.sb_btree.proofs.Order.{below-upto, below-trans, above-trans}
use Rattle.sb_btree.proofs.Children.{children_above}
use Rattle.sb_btree.proofs.Placing.{nth_first}
use Rattle.sb_btree.proofs.Reading.{unders}

-- the first entry behind stands at the place of those passed
pub first_behind : (after : Option (List ℕ)) (es : List Entry) → first (is_behind after) es ≡ slice_get es (passed after es)
first_behind after [] = refl
first_behind after (e ∷ es) =
    let rest = first_behind after es in
    elim (is_behind after e) as (λ b. cond b (Some e) (first (is_behind after) es) ≡ slice_get (e ∷ es) (cond b 0 (suc (passed after es)))) [ true ↦ refl | false ↦ rest ]

-- the child in which a key stands is the one at the place of those passed
pub child_passed : (key : List ℕ) (a : ℕ) (es : List Entry) → child_for key a (map child_of es) ≡ nth_child a es (passed (Some key) es)
child_passed key a [] = refl
child_passed key a (e ∷ es) =
    let rest = child_passed key (number_at 4 e.1 0) es in
    elim (is_below key e.0) as (λ b. cond b a (child_for key (number_at 4 e.1 0) (map child_of es)) ≡ nth_child a (e ∷ es) (cond b 0 (suc (passed (Some key) es)))) [ true ↦ refl | false ↦ rest ]

-- ---- the first entry behind a key, over children in order
abbrev pub or_else : {A : Type 0} → Option A → Option A → Option A
or_else None other = other
or_else (Some x) other = Some x

first-append : (t : Entry → Bool) (xs ys : List Entry) → first t (xs ++ ys) ≡ or_else (first t xs) (first t ys)
first-append t [] ys = refl
first-append t (x ∷ xs) ys =
    let rest = first-append t xs ys in
    elim (t x) as (λ b. cond b (Some x) (first t (xs ++ ys)) ≡ or_else (cond b (Some x) (first t xs)) (first t ys)) [ true ↦ refl | false ↦ rest ]

-- all are behind what the first one is behind
all_behind : (after : Option (List ℕ)) (e : Entry) (es : List Entry) → is_behind after e ≡ true → AllByRecursion (λ x. is_below x.0 e.0 ≡ false) es → first (is_behind after) es ≡ first (is_behind None) es
all_behind after e [] is all = refl
all_behind None e (x ∷ es) is all = refl
all_behind (Some key) e (x ∷ es) is all = ap (λ b. cond b (Some x) (first (is_behind (Some key)) es)) (below-upto key e.0 x.0 is all.0)

not_above : (key x e : List ℕ) → is_below key e ≡ false → is_below x e ≡ true → is_below key x ≡ false
not_above key x e not up = false_from_ne_true (is_below key x) (λ is. let s = below-trans key x e is up in cc)

-- none is behind a key that their upper bound is not behind
none_behind : (after : Option (List ℕ)) (e : Entry) (low : List ℕ) (es : List Entry) → is_behind after e ≡ false → IsWithin low (Some e.0) es → first (is_behind after) es ≡ None
none_behind after e low [] not all = refl
none_behind None e low (x ∷ es) not all = absurd (cc)
none_behind (Some key) e low (x ∷ es) not all =
    ap (λ b. cond b (Some x) (first (is_behind (Some key)) es)) (not_above key x.0 e.0 not all.0.1) ∙ none_behind (Some key) e low es not all.1

some_stays : (o other : Option Entry) → is_some o ≡ true → or_else o other ≡ o
some_stays None other is = absurd (cc)
some_stays (Some x) other is = refl

less_more : (m n : ℕ) → nat_lt m n ≡ nat_lt (suc m) (suc n)
less_more m n = grind (arith, nat_tests)

none_less : (n : ℕ) → nat_lt 0 (suc n) ≡ true
none_less n = grind (arith, nat_tests)

-- the first entry behind a key stands in the child at the place of those passed, or is the first one of the next child
pub next_over : (P : ℕ → Type 0) (f : ℕ → List Entry) → ((c : ℕ) → P c → is_some (first (is_behind None) (f c)) ≡ true)
    → (after : Option (List ℕ)) (high : Option (List ℕ)) (low : List ℕ) (a : ℕ) (es : List Entry) → AreChildren P f high ((low, a) ∷ map child_of es)
    → first (is_behind after) (over f ((low, a) ∷ map child_of es))
    ≡ or_else (first (is_behind after) (f (nth_child a es (passed after es)))) (cond (nat_lt (passed after es) (length es)) (first (is_behind None) (f (nth_child a es (suc (passed after es))))) None)
next_over P f some after high low a [] h = first-append (is_behind after) (f a) []
next_over P f some after high low a (e ∷ es) h =
    let c = number_at 4 e.1 0 in
    let ys = over f ((e.0, c) ∷ map child_of es) in
    let rest = next_over P f some after high e.0 c es h.3 in
    first-append (is_behind after) (f a) ys
    ∙ elim (is_behind after e) as (λ b. is_behind after e ≡ b → or_else (first (is_behind after) (f a)) (first (is_behind after) ys)
    ≡ or_else (first (is_behind after) (f (nth_child a (e ∷ es) (cond b 0 (suc (passed after es))))))
    (cond (nat_lt (cond b 0 (suc (passed after es))) (length (e ∷ es))) (first (is_behind None) (f (nth_child a (e ∷ es) (suc (cond b 0 (suc (passed after es))))))) None)) [
      | true ↦ λ is.
          let behind = all_behind after e ys is (children_above P f high (e.0, c) (map child_of es) h.3) in
          let head = first-append (is_behind None) (f c) (over f (map child_of es)) ∙ some_stays (first (is_behind None) (f c)) (first (is_behind None) (over f (map child_of es))) (some c (first_is P f high e.0 c es h.3)) in
          (λ t. or_else (first (is_behind after) (f a)) ((behind ∙ head) t))
          ∙ sym (λ t. or_else (first (is_behind after) (f a)) (cond (none_less (length es) t) (first (is_behind None) (f (nth_first c es t))) None))
      | false ↦ λ not.
          ap (λ o. or_else o (first (is_behind after) ys)) (none_behind after e low (f a) not h.1) ∙ rest
          ∙ ap (λ b. or_else (first (is_behind after) (f (nth_child c es (passed after es)))) (cond b (first (is_behind None) (f (nth_child c es (suc (passed after es))))) None)) (less_more (passed after es) (length es))
    ] refl
  where
    first_is : (P : ℕ → Type 0) (f : ℕ → List Entry) (high : Option (List ℕ)) (low : List ℕ) (a : ℕ) (es : List Entry) → AreChildren P f high ((low, a) ∷ map child_of es) → P a
    first_is P f high low a es h = h.0

-- each child is so
pub nth_is : (P : ℕ → Type 0) (f : ℕ → List Entry) (high : Option (List ℕ)) (low : List ℕ) (a : ℕ) (es : List Entry) (n : ℕ) → AreChildren P f high ((low, a) ∷ map child_of es) → P (nth_child a es n)
nth_is P f high low a [] n h = h.0
nth_is P f high low a (e ∷ es) zero h = h.0
nth_is P f high low a (e ∷ es) (suc n) h = nth_is P f high e.0 (number_at 4 e.1 0) es n h.3

aboves : (low : List ℕ) (high : Option (List ℕ)) (es : List Entry) → IsWithin low high es → AllByRecursion (λ e. is_below e.0 low ≡ false) es
aboves low high [] h = tt
aboves low high (e ∷ es) h = (h.0.0, aboves low high es h.1)

-- its keys aren't below the first bound
nth_above : (P : ℕ → Type 0) (f : ℕ → List Entry) (high : Option (List ℕ)) (low : List ℕ) (a : ℕ) (es : List Entry) (n : ℕ) → AreChildren P f high ((low, a) ∷ map child_of es) → AllByRecursion (λ e. is_below e.0 low ≡ false) (f (nth_child a es n))
nth_above P f high low a [] n h = aboves low high (f a) h.1
nth_above P f high low a (x ∷ es) zero h = aboves low (Some x.0) (f a) h.1
nth_above P f high low a (x ∷ es) (suc n) h =
    more low x.0 h.2 (f (nth_child (number_at 4 x.1 0) es n)) (nth_above P f high x.0 (number_at 4 x.1 0) es n h.3)
  where
    more : (low mid : List ℕ) → is_below mid low ≡ false → (es : List Entry) → AllByRecursion (λ e. is_below e.0 mid ≡ false) es → AllByRecursion (λ e. is_below e.0 low ≡ false) es
    more low mid goes [] h = tt
    more low mid goes (e ∷ es) h = (above-trans e.0 mid low h.0 goes, more low mid goes es h.1)

-- what is so of all entries is so of the first one that passes a test
pub first_all : (t : Entry → Bool) (P : Entry → Type 0) (es : List Entry) (e : Entry) → AllByRecursion P es → first t es ≡ Some e → P e
first_all t P [] e all is = absurd (cc)
first_all t P (x ∷ es) e all is =
    elim (t x) as (λ b. cond b (Some x) (first t es) ≡ Some e → P e) [
      | true ↦ λ q. let s : x ≡ e = cc in subst P s all.0
      | false ↦ λ q. first_all t P es e all.1 q
    ] is

-- the key of an entry stands in the child that has the entry
pub child_for-entry : (P : ℕ → Type 0) (f : ℕ → List Entry) (high : Option (List ℕ)) (low : List ℕ) (a : ℕ) (es : List Entry) (n : ℕ) (t : Entry → Bool) (e : Entry) → AreChildren P f high ((low, a) ∷ map child_of es)
    → first t (f (nth_child a es n)) ≡ Some e → child_for e.0 a (map child_of es) ≡ nth_child a es n
child_for-entry P f high low a [] n t e h is = refl
child_for-entry P f high low a (x ∷ es) zero t e h is =
    let under = first_all t (λ (y : Entry). is_below y.0 x.0 ≡ true) (f a) e (unders low x.0 (f a) h.1) is in
    ap (λ b. cond b a (child_for e.0 (number_at 4 x.1 0) (map child_of es))) under
child_for-entry P f high low a (x ∷ es) (suc n) t e h is =
    let c = number_at 4 x.1 0 in
    let not = first_all t (λ (y : Entry). is_below y.0 x.0 ≡ false) (f (nth_child c es n)) e (nth_above P f high x.0 c es n h.3) is in
    ap (λ b. cond b a (child_for e.0 c (map child_of es))) not ∙ child_for-entry P f high x.0 c es n t e h.3 is

-- ---- the first entry behind a key, on a page
past_end : (es : List Entry) (i : ℕ) → length es ≡ i → slice_get es i ≡ None
past_end [] i e = refl
past_end (x ∷ es) zero e = absurd (omega arith)
past_end (x ∷ es) (suc i) e = past_end es i (omega arith)

pub next-none : (after : Option (List ℕ)) (es : List Entry) → length es ≡ passed after es → first (is_behind after) es ≡ None
next-none after es all = first_behind after es ∙ past_end es (passed after es) all

pub next-some : (after : Option (List ℕ)) (es : List Entry) (i : ℕ) (e : Entry) → i ≡ passed after es → slice_get es i ≡ Some e → first (is_behind after) es ≡ Some e
next-some after es i e is at = first_behind after es ∙ ap (slice_get es) (sym is) ∙ at
