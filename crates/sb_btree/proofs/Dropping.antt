-- The children of an inner page without one of them.
use Rattle.std.proofs.Common.{◌≡◌, ℕ, zero, suc, ◌+◌, ◌-◌, ◌<◌, true, false, cond, List, [], ◌∷◌, ◌++◌, length, map, Some, refl, ap, sym, ◌∙◌, arith, length-append}
use Rattle.std.specs.Prelude.{nat_eq}
use Rattle.std.proofs.lemmas.List.{length-map}
use Rattle.sb_bytes.specs.Field.{number_at}
use Rattle.sb_node.specs.Entries.{Entry, is_below, without}
use Rattle.sb_node.specs.Page.{Node}
use Rattle.sb_forms.specs.Tree.{Child, child_of, IsInner}
use Rattle.sb_btree.specs.Held.{passed, nth_child}
use Rattle.sb_btree.specs.Removes.{before, beside, first_without, without_child, place_beside}
use Rattle.sb_btree.proofs.Descending.{not_zero}
use Rattle.sb_btree.proofs.Placing.{nth_first}
use Rattle.sb_btree.proofs.Splitting.{tail_of, head_of}
use Rattle.sb_btree.proofs.Without.{children_without, without_every}

-- the children that are left, and those of the page without the one
pub record Left (n : Node) (xs ys : List Child) (i : ℕ) : Type 0 where
  pub first : Child
  pub others : List Child
  pub are : xs ++ ys ≡ first ∷ others
  pub list : ([], first_without i n) ∷ map child_of (without (i - 1) n.entries) ≡ ([], first.1) ∷ others
  pub count : length others + 1 ≡ length n.entries

pub left : (n : Node) (xs : List Child) (kid : Child) (ys : List Child) (i : ℕ) → ([], n.head.a) ∷ map child_of n.entries ≡ xs ++ kid ∷ ys → length xs ≡ i → 0 < length n.entries → Left n xs ys i
left n xs kid ys i parts count some = by n.head.a n.entries refl refl some xs i parts count
  where
    by : (a : ℕ) (es : List Entry) → n.head.a ≡ a → n.entries ≡ es → 0 < length es → (xs : List Child) (i : ℕ) → ([], n.head.a) ∷ map child_of n.entries ≡ xs ++ kid ∷ ys → length xs ≡ i → Left n xs ys i
    by a [] is are some xs i parts count = absurd (omega arith)
    by a (e ∷ es) is are some [] zero parts count =
        let rest : map child_of (e ∷ es) ≡ ys = ap (map child_of) (sym are) ∙ tail_of ([], n.head.a) kid (map child_of n.entries) ys parts in
        record {
          first = child_of e;
          others = map child_of es;
          are = sym rest;
          list = ap (λ (xs : List Entry). ([], nth_child n.head.a xs 1) ∷ map child_of (without 0 xs)) are ∙ ap (λ c. ([], c) ∷ map child_of es) (nth_first (number_at 4 e.1 0) es);
          count = omega (arith, length-map es child_of, ap length are);
        }
    by a (e ∷ es) is are some [] (suc i) parts count = absurd (omega (arith, count))
    by a (e ∷ es) is are some (x ∷ xs) zero parts count = absurd (omega (arith, count))
    by a (e ∷ es) is are some (x ∷ xs) (suc i) parts count =
        let rest : map child_of n.entries ≡ xs ++ kid ∷ ys = tail_of ([], n.head.a) x (map child_of n.entries) (xs ++ kid ∷ ys) parts in
        let first : ([], n.head.a) ≡ x = head_of ([], n.head.a) x (map child_of n.entries) (xs ++ kid ∷ ys) parts in
        let j : suc i - 1 ≡ i = omega arith in
        record {
          first = x;
          others = xs ++ ys;
          are = refl;
          list = ap (λ k. ([], first_without (suc i) n) ∷ map child_of (without k n.entries)) j ∙ ap (λ xs. ([], first_without (suc i) n) ∷ xs) (children_without n.entries xs kid ys i rest (omega (arith, count)))
              ∙ ap (λ b. ([], cond b (nth_child n.head.a n.entries 1) n.head.a) ∷ (xs ++ ys)) (not_zero i) ∙ ap (λ (c : Child). ([], c.1) ∷ (xs ++ ys)) first;
          count = omega (arith, ap length rest, length-map n.entries child_of, length-append xs (kid ∷ ys), length-append xs ys);
        }

-- a page without a child is an inner page still
pub without_inner : (l i : ℕ) (n : Node) → IsInner (suc l) (Some n) → IsInner (suc l) (Some (without_child i n))
without_inner l i n h = (h.0, h.1, without_every _ (i - 1) n.entries h.2)

-- the page beside stands beside the place of the entries that the key has passed
nth_step : (c : ℕ) (e : Entry) (es : List Entry) (p : ℕ) → nth_child c (e ∷ es) p ≡ cond (nat_eq p 0) c (nth_child (number_at 4 e.1 0) es (p - 1))
nth_step c e es zero = refl
nth_step c e es (suc p) = let s : suc p - 1 ≡ p = omega arith in sym (λ i. cond (not_zero p i) c (nth_child (number_at 4 e.1 0) es (s i)))

before_is : (key : List ℕ) (d c : ℕ) (es : List Entry) → before key d c (map child_of es) ≡ cond (nat_eq (passed (Some key) es) 0) d (nth_child c es (passed (Some key) es - 1))
before_is key d c [] = refl
before_is key d c (e ∷ es) =
    let p = passed (Some key) es in
    let s : suc p - 1 ≡ p = omega arith in
    let rest = before_is key c (number_at 4 e.1 0) es ∙ sym (nth_step c e es p) ∙ sym (λ i. cond (not_zero p i) d (nth_child c (e ∷ es) (s i))) in
    elim (is_below key e.0) as (λ b. cond b d (before key c (number_at 4 e.1 0) (map child_of es)) ≡ cond (nat_eq (cond b 0 (suc p)) 0) d (nth_child c (e ∷ es) (cond b 0 (suc p) - 1))) [ true ↦ refl | false ↦ rest ]

pub beside_is : (key : List ℕ) (a : ℕ) (es : List Entry) → 0 < length es → beside key a (map child_of es) ≡ nth_child a es (place_beside (passed (Some key) es))
beside_is key a [] some = absurd (omega arith)
beside_is key a (e ∷ es) some =
    let p = passed (Some key) es in
    let s : suc p - 1 ≡ p = omega arith in
    let rest = before_is key a (number_at 4 e.1 0) es ∙ sym (nth_step a e es p) ∙ sym (λ i. nth_child a (e ∷ es) (cond (not_zero p i) 1 (s i))) in
    elim (is_below key e.0) as (λ b. cond b (number_at 4 e.1 0) (before key a (number_at 4 e.1 0) (map child_of es)) ≡ nth_child a (e ∷ es) (place_beside (cond b 0 (suc p)))) [ true ↦ sym (nth_first (number_at 4 e.1 0) es) | false ↦ rest ]

-- of two children, the other one is the one beside
pub lone_beside : (key : List ℕ) (n : Node) → length n.entries ≡ 1 → beside key n.head.a (map child_of n.entries) ≡ first_without (passed (Some key) n.entries) n
lone_beside key n one = by n.head.a n.entries one
  where
    by : (a : ℕ) (es : List Entry) → length es ≡ 1 → beside key a (map child_of es) ≡ cond (nat_eq (passed (Some key) es) 0) (nth_child a es 1) a
    by a [] one = absurd (omega arith)
    by a (e ∷ []) one = elim (is_below key e.0) as (λ b. cond b (number_at 4 e.1 0) a ≡ cond (nat_eq (cond b 0 1) 0) (nth_child a (e ∷ []) 1) a) [ true ↦ refl | false ↦ refl ]
    by a (e ∷ f ∷ es) one = absurd (omega arith)
