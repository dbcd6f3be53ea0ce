-- Lists of attachments: what is found under a name, what is left without some names, and what comes with one more.
use Rattle.std.proofs.Common.{◌≡◌, ℕ, ◌+◌, ◌≤◌, ◌<◌, Bool, true, false, not, ◌&&◌, ◌||◌, ◌⊎◌, inl, inr, List, [], ◌∷◌, map, length, Option, Some, None, refl, sym, ap, ◌∙◌, arith, nat_le, leb-true, leb-false, le-leb, get_or}
use Rattle.std.specs.Prelude.{All, cond, filter, sum_by}
use Rattle.std.specs.List.{find, list_any}
use Rattle.std.specs.Str.{bytes_eq}
use Rattle.std.specs.Cmp.Lexicographic.{nat_list_eq_equiv}
use Rattle.std.proofs.lemmas.Bool.{and_parts, and_from, or_parts, or_from, cond-true, cond-false}
use Rattle.std.proofs.lemmas.List.Elements.{All-nil, All-cons, All-head, All-tail, All-filter}
use Rattle.std.proofs.lemmas.List.Sums.{sum_by-cons}
use Rattle.std.proofs.lemmas.Option.{same_Some}
use Rattle.sb_value.specs.Equal.{bytes_same}
use Rattle.sb_rule.specs.declared.rule.Rule.{Rule}
use Rattle.sb_rule.specs.Spelling.{rule_code}
use Rattle.sb_relation.specs.Build.{with_instance}
use Rattle.sb_relation.specs.Db.{Name, Attached}
use Rattle.sb_plain.specs.Lawful.{is_in_order}
use Rattle.sb_plain.specs.Refusing.{first_again, first_twice}

-- ---- names
pub apart_turned : (a b : Name) → bytes_eq a b ≡ false → bytes_eq b a ≡ false
apart_turned a b e = nat_list_eq_equiv.symm b a ∙ e

pub itself : (a : Name) → bytes_eq a a ≡ true
itself a = (bytes_same a a).1 refl

pub same_or_apart : (a b : Name) → (a ≡ b) ⊎ (bytes_eq a b ≡ false)
same_or_apart a b = by (bytes_eq a b) refl
  where
    by : (t : Bool) → bytes_eq a b ≡ t → (a ≡ b) ⊎ (bytes_eq a b ≡ false)
    by true e = inl ((bytes_same a b).0 e)
    by false e = inr e

abbrev pub is_named : Name → Attached → Bool
is_named label a = bytes_eq a.name label

abbrev pub names_of : List Attached → List Name
names_of = map (λ a. a.name)

-- those whose name isn't gone
abbrev pub spared : (Name → Bool) → List Attached → List Attached
spared gone = filter (λ a. not (gone a.name))

-- ---- what is found
pub found_name : (label : Name) (items : List Attached) (a : Attached) → find (is_named label) items ≡ Some a → a.name ≡ label
found_name label [] a e = absurd (cc)
found_name label (x ∷ items) a e = by (bytes_eq x.name label) refl e (found_name label items a)
  where
    by : (t : Bool) → bytes_eq x.name label ≡ t → cond t (Some x) (find (is_named label) items) ≡ Some a → (find (is_named label) items ≡ Some a → a.name ≡ label) → a.name ≡ label
    by true same is rest = ap (λ (y : Attached). y.name) (sym (same_Some x a is)) ∙ (bytes_same x.name label).0 same
    by false differs is rest = rest is

pub all_found : {A : Type 0} (test : A → Bool) (items : List A) → All (λ a. test a ≡ false) items → find test items ≡ None
all_found test [] all = refl
all_found test (x ∷ items) all = cond-false (test x) (Some x) (find test items) (All-head (λ a. test a ≡ false) x items all) ∙ all_found test items (All-tail (λ a. test a ≡ false) x items all)

pub find_spared : (gone : Name → Bool) (label : Name) (items : List Attached) → find (is_named label) (spared gone items) ≡ cond (gone label) None (find (is_named label) items)
find_spared gone label [] = by (gone label)
  where
    by : (g : Bool) → ◌≡◌ {A = Option Attached} None (cond g None None)
    by true = refl
    by false = refl
find_spared gone label (a ∷ items) = by (bytes_eq a.name label) refl (gone a.name) refl (find_spared gone label items)
  where
    alike : bytes_eq a.name label ≡ true → gone label ≡ gone a.name
    alike same = ap gone (sym ((bytes_same a.name label).0 same))

    by : (t : Bool) → bytes_eq a.name label ≡ t → (g : Bool) → gone a.name ≡ g → find (is_named label) (spared gone items) ≡ cond (gone label) None (find (is_named label) items)
        → find (is_named label) (cond (not g) (a ∷ spared gone items) (spared gone items)) ≡ cond (gone label) None (cond t (Some a) (find (is_named label) items))
    by true same true goes rest =
        rest ∙ cond-true (gone label) None (find (is_named label) items) (alike same ∙ goes) ∙ sym (cond-true (gone label) None (Some a) (alike same ∙ goes))
    by true same false stays rest =
        cond-true (bytes_eq a.name label) (Some a) (find (is_named label) (spared gone items)) same ∙ sym (cond-false (gone label) None (Some a) (alike same ∙ stays))
    by false differs true goes rest = rest
    by false differs false stays rest = cond-false (bytes_eq a.name label) (Some a) (find (is_named label) (spared gone items)) differs ∙ rest

-- one more is found under its name, where none was; all others as before
pub find_instance : (new : Attached) (label : Name) (items : List Attached) → find (is_named new.name) items ≡ None
    → find (is_named label) (with_instance new items) ≡ cond (bytes_eq new.name label) (Some new) (find (is_named label) items)
find_instance new label [] none = refl
find_instance new label (a ∷ items) none = by (nat_le (rule_code a.rule) (rule_code new.rule)) (bytes_eq a.name new.name) refl none (find_instance new label items)
  where
    swapped : (t u : Bool) (o : Option Attached) → (t ≡ true → u ≡ true → ⊥) → cond t (Some a) (cond u (Some new) o) ≡ cond u (Some new) (cond t (Some a) o)
    swapped true true o apart = absurd (apart refl refl)
    swapped true false o apart = refl
    swapped false u o apart = refl

    never : bytes_eq a.name new.name ≡ false → bytes_eq a.name label ≡ true → bytes_eq new.name label ≡ true → ⊥
    never differs one other =
        let same : bytes_eq a.name new.name ≡ true = (bytes_same a.name new.name).1 ((bytes_same a.name label).0 one ∙ sym ((bytes_same new.name label).0 other)) in
        absurd (cc)

    by : (b t : Bool) → bytes_eq a.name new.name ≡ t → cond t (Some a) (find (is_named new.name) items) ≡ None
        → (find (is_named new.name) items ≡ None → find (is_named label) (with_instance new items) ≡ cond (bytes_eq new.name label) (Some new) (find (is_named label) items))
        → find (is_named label) (cond b (a ∷ with_instance new items) (new ∷ a ∷ items)) ≡ cond (bytes_eq new.name label) (Some new) (cond (bytes_eq a.name label) (Some a) (find (is_named label) items))
    by b true same is rest = absurd (cc)
    by true false differs is rest =
        ap (cond (bytes_eq a.name label) (Some a)) (rest is) ∙ swapped (bytes_eq a.name label) (bytes_eq new.name label) (find (is_named label) items) (never differs)
    by false false differs is rest = refl

-- ---- names that are apart
abbrev pub AreApart : List Attached → Type 0
AreApart [] = Unit {0}
AreApart (a ∷ items) = All (λ x. bytes_eq a.name x.name ≡ false) items × AreApart items

abbrev AreNew : List Name → List Attached → Type 0
AreNew before items = All (λ x. list_any (bytes_eq x.name) before ≡ false) items

of_again : (before : List Name) (items : List Attached) → first_again before (names_of items) ≡ None → AreNew before items × AreApart items
of_again before [] e = (All-nil _, tt)
of_again before (a ∷ items) e = by (list_any (bytes_eq a.name) before) refl e (of_again (a.name ∷ before) items)
  where
    parts : AreNew (a.name ∷ before) items → (k : ℕ) (d : Attached) → k < length items → (bytes_eq (get_or items k d).name a.name ≡ false) × (list_any (bytes_eq (get_or items k d).name) before ≡ false)
    parts new k d below = or_parts (bytes_eq (get_or items k d).name a.name) (list_any (bytes_eq (get_or items k d).name) before) (new k d below)

    by : (b : Bool) → list_any (bytes_eq a.name) before ≡ b → cond b (Some a.name) (first_again (a.name ∷ before) (names_of items)) ≡ None
        → (first_again (a.name ∷ before) (names_of items) ≡ None → AreNew (a.name ∷ before) items × AreApart items) → AreNew before (a ∷ items) × AreApart (a ∷ items)
    by true is none rest = absurd (cc)
    by false is none rest =
        let later : AreNew (a.name ∷ before) items × AreApart items = rest none in (
          All-cons (λ x. list_any (bytes_eq x.name) before ≡ false) a items is (λ k d below. (parts later.0 k d below).1),
          ((λ k d below. apart_turned (get_or items k d).name a.name (parts later.0 k d below).0), later.1),
        )

to_again : (before : List Name) (items : List Attached) → AreNew before items → AreApart items → first_again before (names_of items) ≡ None
to_again before [] new d = refl
to_again before (a ∷ items) new d =
    cond-false (list_any (bytes_eq a.name) before) (Some a.name) (first_again (a.name ∷ before) (names_of items)) (All-head (λ x. list_any (bytes_eq x.name) before ≡ false) a items new)
    ∙ to_again (a.name ∷ before) items
    (λ k e below. or_from (bytes_eq (get_or items k e).name a.name) (list_any (bytes_eq (get_or items k e).name) before) (apart_turned a.name (get_or items k e).name (d.0 k e below))
    (All-tail (λ x. list_any (bytes_eq x.name) before ≡ false) a items new k e below)) d.1

pub of_twice : (items : List Attached) → first_twice (names_of items) ≡ None → AreApart items
of_twice items e = (of_again [] items e).1

pub to_twice : (items : List Attached) → AreApart items → first_twice (names_of items) ≡ None
to_twice items d = to_again [] items (λ k e below. refl) d

-- each is found under its own name
pub each_found : (items : List Attached) → AreApart items → All (λ a. find (is_named a.name) items ≡ Some a) items
each_found [] d = All-nil _
each_found (a ∷ items) d =
    All-cons (λ x. find (is_named x.name) (a ∷ items) ≡ Some x) a items (cond-true (bytes_eq a.name a.name) (Some a) (find (is_named a.name) items) (itself a.name))
    (λ k e below.
    let x : Attached = get_or items k e in
    cond-false (bytes_eq a.name x.name) (Some a) (find (is_named x.name) items) (d.0 k e below) ∙ each_found items d.1 k e below)

pub filter_apart : (p : Attached → Bool) (items : List Attached) → AreApart items → AreApart (filter p items)
filter_apart p [] d = d
filter_apart p (a ∷ items) d = by (p a) (filter_apart p items d.1)
  where
    by : (b : Bool) → AreApart (filter p items) → AreApart (cond b (a ∷ filter p items) (filter p items))
    by true rest = (All-filter p (λ x. bytes_eq a.name x.name ≡ false) items d.0, rest)
    by false rest = rest

-- ---- one more
pub all_instance : (P : Attached → Type 0) (new : Attached) (items : List Attached) → P new → All P items → All P (with_instance new items)
all_instance P new [] it all = All-cons P new [] it all
all_instance P new (a ∷ items) it all = by (nat_le (rule_code a.rule) (rule_code new.rule)) (all_instance P new items it (All-tail P a items all))
  where
    by : (b : Bool) → All P (with_instance new items) → All P (cond b (a ∷ with_instance new items) (new ∷ a ∷ items))
    by true rest = All-cons P a (with_instance new items) (All-head P a items all) rest
    by false rest = All-cons P new (a ∷ items) it all

pub instance_apart : (new : Attached) (items : List Attached) → All (λ a. bytes_eq a.name new.name ≡ false) items → AreApart items → AreApart (with_instance new items)
instance_apart new [] others d = (All-nil _, tt)
instance_apart new (a ∷ items) others d =
    by (nat_le (rule_code a.rule) (rule_code new.rule)) (instance_apart new items (All-tail (λ x. bytes_eq x.name new.name ≡ false) a items others) d.1)
  where
    by : (b : Bool) → AreApart (with_instance new items) → AreApart (cond b (a ∷ with_instance new items) (new ∷ a ∷ items))
    by true rest = (all_instance (λ x. bytes_eq a.name x.name ≡ false) new items (All-head (λ x. bytes_eq x.name new.name ≡ false) a items others) d.0, rest)
    by false rest = ((λ k e below. apart_turned (get_or (a ∷ items) k e).name new.name (others k e below)), d)

-- ---- call order
abbrev pub ordered_from : ℕ → List Attached → Bool
ordered_from n [] = true
ordered_from n (a ∷ items) = nat_le n (rule_code a.rule) && ordered_from (rule_code a.rule) items

from_first : (a : Attached) (items : List Attached) → is_in_order (a ∷ items) ≡ ordered_from (rule_code a.rule) items
from_first a [] = refl
from_first a (b ∷ items) = ap (λ (t : Bool). nat_le (rule_code a.rule) (rule_code b.rule) && t) (from_first b items)

to_ordered : (items : List Attached) → is_in_order items ≡ true → ordered_from 0 items ≡ true
to_ordered [] e = refl
to_ordered (a ∷ items) e = and_from (nat_le 0 (rule_code a.rule)) (ordered_from (rule_code a.rule) items) (le-leb 0 (rule_code a.rule) (omega arith)) (sym (from_first a items) ∙ e)

of_ordered : (items : List Attached) → ordered_from 0 items ≡ true → is_in_order items ≡ true
of_ordered [] e = refl
of_ordered (a ∷ items) e = from_first a items ∙ (and_parts (nat_le 0 (rule_code a.rule)) (ordered_from (rule_code a.rule) items) e).1

lower : (n m : ℕ) (items : List Attached) → n ≤ m → ordered_from m items ≡ true → ordered_from n items ≡ true
lower n m [] le e = refl
lower n m (a ∷ items) le e =
    let parts = and_parts (nat_le m (rule_code a.rule)) (ordered_from (rule_code a.rule) items) e in
    let above : m ≤ rule_code a.rule = leb-true m (rule_code a.rule) parts.0 in
    and_from (nat_le n (rule_code a.rule)) (ordered_from (rule_code a.rule) items) (le-leb n (rule_code a.rule) (omega arith)) parts.1

filter_ordered : (p : Attached → Bool) (n : ℕ) (items : List Attached) → ordered_from n items ≡ true → ordered_from n (filter p items) ≡ true
filter_ordered p n [] e = refl
filter_ordered p n (a ∷ items) e = by (p a) (filter_ordered p (rule_code a.rule) items parts.1)
  where
    parts : (nat_le n (rule_code a.rule) ≡ true) × (ordered_from (rule_code a.rule) items ≡ true)
    parts = and_parts (nat_le n (rule_code a.rule)) (ordered_from (rule_code a.rule) items) e

    by : (b : Bool) → ordered_from (rule_code a.rule) (filter p items) ≡ true → ordered_from n (cond b (a ∷ filter p items) (filter p items)) ≡ true
    by true rest = and_from (nat_le n (rule_code a.rule)) (ordered_from (rule_code a.rule) (filter p items)) parts.0 rest
    by false rest = lower n (rule_code a.rule) (filter p items) (leb-true n (rule_code a.rule) parts.0) rest

pub filter_in_order : (p : Attached → Bool) (items : List Attached) → is_in_order items ≡ true → is_in_order (filter p items) ≡ true
filter_in_order p items e = of_ordered (filter p items) (filter_ordered p 0 items (to_ordered items e))

instance_ordered : (new : Attached) (n : ℕ) (items : List Attached) → n ≤ rule_code new.rule → ordered_from n items ≡ true → ordered_from n (with_instance new items) ≡ true
instance_ordered new n [] le e = and_from (nat_le n (rule_code new.rule)) true (le-leb n (rule_code new.rule) le) refl
instance_ordered new n (a ∷ items) le e = by (nat_le (rule_code a.rule) (rule_code new.rule)) refl (λ below. instance_ordered new (rule_code a.rule) items below parts.1)
  where
    parts : (nat_le n (rule_code a.rule) ≡ true) × (ordered_from (rule_code a.rule) items ≡ true)
    parts = and_parts (nat_le n (rule_code a.rule)) (ordered_from (rule_code a.rule) items) e

    later : nat_le (rule_code a.rule) (rule_code new.rule) ≡ false → rule_code new.rule ≤ rule_code a.rule
    later over = let strictly = leb-false (rule_code a.rule) (rule_code new.rule) over in omega arith

    by : (b : Bool) → nat_le (rule_code a.rule) (rule_code new.rule) ≡ b → (rule_code a.rule ≤ rule_code new.rule → ordered_from (rule_code a.rule) (with_instance new items) ≡ true)
        → ordered_from n (cond b (a ∷ with_instance new items) (new ∷ a ∷ items)) ≡ true
    by true is rest = and_from (nat_le n (rule_code a.rule)) (ordered_from (rule_code a.rule) (with_instance new items)) parts.0 (rest (leb-true (rule_code a.rule) (rule_code new.rule) is))
    by false is rest =
        and_from (nat_le n (rule_code new.rule)) (ordered_from (rule_code new.rule) (a ∷ items)) (le-leb n (rule_code new.rule) le)
        (and_from (nat_le (rule_code new.rule) (rule_code a.rule)) (ordered_from (rule_code a.rule) items) (le-leb (rule_code new.rule) (rule_code a.rule) (later is)) parts.1)

pub instance_in_order : (new : Attached) (items : List Attached) → is_in_order items ≡ true → is_in_order (with_instance new items) ≡ true
instance_in_order new items e = of_ordered (with_instance new items) (instance_ordered new 0 items (omega arith) (to_ordered items e))

-- ---- tests of which none is met
pub any_filter : (test p : Attached → Bool) (items : List Attached) → list_any test items ≡ false → list_any test (filter p items) ≡ false
any_filter test p [] none = refl
any_filter test p (a ∷ items) none = by (p a) (any_filter test p items (or_parts (test a) (list_any test items) none).1)
  where
    by : (b : Bool) → list_any test (filter p items) ≡ false → list_any test (cond b (a ∷ filter p items) (filter p items)) ≡ false
    by true rest = or_from (test a) (list_any test (filter p items)) (or_parts (test a) (list_any test items) none).0 rest
    by false rest = rest

pub any_instance : (test : Attached → Bool) (new : Attached) (items : List Attached) → test new ≡ false → list_any test items ≡ false → list_any test (with_instance new items) ≡ false
any_instance test new [] it none = or_from (test new) false it refl
any_instance test new (a ∷ items) it none = by (nat_le (rule_code a.rule) (rule_code new.rule)) (any_instance test new items it parts.1)
  where
    parts : (test a ≡ false) × (list_any test items ≡ false)
    parts = or_parts (test a) (list_any test items) none

    by : (b : Bool) → list_any test (with_instance new items) ≡ false → list_any test (cond b (a ∷ with_instance new items) (new ∷ a ∷ items)) ≡ false
    by true rest = or_from (test a) (list_any test (with_instance new items)) parts.0 rest
    by false rest = or_from (test new) (list_any test (a ∷ items)) it none

-- ---- sums over names and rules
abbrev pub Weight : Type 0
Weight = Name → Rule → ℕ

abbrev pub weight : Weight → List Attached → ℕ
weight w [] = 0
weight w (a ∷ items) = w a.name a.rule + weight w items

pub weight-sum_by : (w : Weight) (items : List Attached) → sum_by (λ a. w a.name a.rule) items ≡ weight w items
weight-sum_by w [] = refl
weight-sum_by w (a ∷ items) = sum_by-cons (λ (x : Attached). w x.name x.rule) a items ∙ ap (λ (n : ℕ). w a.name a.rule + n) (weight-sum_by w items)

pub weight-length : (items : List Attached) → length items ≡ weight (λ name rule. 1) items
weight-length [] = refl
weight-length (a ∷ items) = let rest = weight-length items in omega arith

pub weight-filter : (w : Weight) (p : Attached → Bool) (items : List Attached) → weight w (filter p items) ≤ weight w items
weight-filter w p [] = omega arith
weight-filter w p (a ∷ items) = by (p a) (weight-filter w p items)
  where
    by : (b : Bool) → weight w (filter p items) ≤ weight w items → weight w (cond b (a ∷ filter p items) (filter p items)) ≤ w a.name a.rule + weight w items
    by true rest = omega arith
    by false rest = omega arith

pub weight-instance : (w : Weight) (new : Attached) (items : List Attached) → weight w (with_instance new items) ≡ w new.name new.rule + weight w items
weight-instance w new [] = refl
weight-instance w new (a ∷ items) = by (nat_le (rule_code a.rule) (rule_code new.rule)) (weight-instance w new items)
  where
    by : (b : Bool) → weight w (with_instance new items) ≡ w new.name new.rule + weight w items
        → weight w (cond b (a ∷ with_instance new items) (new ∷ a ∷ items)) ≡ w new.name new.rule + (w a.name a.rule + weight w items)
    by true rest = omega arith
    by false rest = refl

pub filter_all : (p : Attached → Bool) (items : List Attached) → All (λ a. p a ≡ true) items → filter p items ≡ items
filter_all p [] all = refl
filter_all p (a ∷ items) all =
    cond-true (p a) (a ∷ filter p items) (filter p items) (All-head (λ x. p x ≡ true) a items all) ∙ ap (λ (l : List Attached). a ∷ l) (filter_all p items (All-tail (λ x. p x ≡ true) a items all))

-- without the one of a name
pub weight-spared : (w : Weight) (label : Name) (items : List Attached) (a : Attached) → AreApart items → find (is_named label) items ≡ Some a
    → weight w (spared (λ n. bytes_eq n label) items) + w a.name a.rule ≡ weight w items
weight-spared w label [] a d e = absurd (cc)
weight-spared w label (x ∷ items) a d e = by (bytes_eq x.name label) refl e (weight-spared w label items a d.1)
  where
    others : bytes_eq x.name label ≡ true → spared (λ n. bytes_eq n label) items ≡ items
    others same =
        filter_all (λ y. not (bytes_eq y.name label)) items (λ k b below.
        let y : Attached = get_or items k b in
        ap not (ap (bytes_eq y.name) (sym ((bytes_same x.name label).0 same)) ∙ apart_turned x.name y.name (d.0 k b below)))

    by : (t : Bool) → bytes_eq x.name label ≡ t → cond t (Some x) (find (is_named label) items) ≡ Some a
        → (find (is_named label) items ≡ Some a → weight w (spared (λ n. bytes_eq n label) items) + w a.name a.rule ≡ weight w items)
        → weight w (cond (not t) (x ∷ spared (λ n. bytes_eq n label) items) (spared (λ n. bytes_eq n label) items)) + w a.name a.rule ≡ w x.name x.rule + weight w items
    by true same is rest =
        let left : weight w (spared (λ n. bytes_eq n label) items) ≡ weight w items = ap (weight w) (others same) in
        let this : w a.name a.rule ≡ w x.name x.rule = ap (λ (y : Attached). w y.name y.rule) (sym (same_Some x a is)) in
        omega arith
    by false differs is rest = let left = rest is in omega arith

-- none is gone
pub spared_none : (items : List Attached) → spared (λ n. false) items ≡ items
spared_none items = filter_all (λ a. true) items (λ k e below. refl)

pub spared_twice : (g h : Name → Bool) (items : List Attached) → spared h (spared g items) ≡ spared (λ n. g n || h n) items
spared_twice g h [] = refl
spared_twice g h (a ∷ items) = by (g a.name) (spared_twice g h items)
  where
    by : (b : Bool) → spared h (spared g items) ≡ spared (λ n. g n || h n) items
        → spared h (cond (not b) (a ∷ spared g items) (spared g items)) ≡ cond (not (b || h a.name)) (a ∷ spared (λ n. g n || h n) items) (spared (λ n. g n || h n) items)
    by true rest = rest
    by false rest = ap (λ (l : List Attached). cond (not (h a.name)) (a ∷ l) l) rest
