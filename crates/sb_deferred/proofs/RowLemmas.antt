-- Rows in the order of their keys, and what holds of some and of all of them after a change.
use Rattle.std.proofs.Common.{◌≡◌, Bool, true, false, not, cond, ◌&&◌, ◌||◌, T, List, [], ◌∷◌, ◌⊎◌, Some, None, refl, sym, ap, subst, ◌∙◌, inl, inr, get_or}
use Rattle.std.specs.Prelude.{All, filter}
use Rattle.std.specs.List.{list_any, list_all}
use Rattle.std.specs.Str.{bytes_eq}
use Rattle.std.specs.declared.cmp.Ordering.{Ordering}
use Rattle.std.specs.declared.cmp.Ordering.TheVariants.{Less, Equal, Greater}
use Rattle.std.specs.Ordering.{is_eq, is_lt}
use Rattle.std.specs.FinMap.Entries.{by_order, put, find, is_sorted, below_all, find-where_key}
use Rattle.std.proofs.lemmas.Bool.{true≢false, and_parts, and_from, or_cases, or_left, or_right, false_from_ne_true}
use Rattle.std.proofs.lemmas.Cmp.{tied_itself, nat_list_cmp_total}
use Rattle.std.proofs.lemmas.List.Elements.{All-nil, All-cons, All-head, All-tail}
use Rattle.std.proofs.lemmas.List.Folds.{list_any_at}
use Rattle.std.proofs.lemmas.Map.Text.{is_eq-slice_cmp}
use Rattle.std.proofs.lemmas.Option.{same_Some}
use Rattle.sb_value.specs.Equal.{bytes_same}
use Rattle.sb_value.specs.Order.{bytes_cmp}
use Rattle.sb_rule.specs.Bound.{row_before, row_after}
use Rattle.sb_rule.specs.declared.change.Change.{Change}
use Rattle.sb_rule.specs.declared.change.Change.TheVariants as change
use Rattle.sb_relation.specs.Changes.{changed_rows}
use Rattle.sb_relation.specs.Db.{Key, Row, Rows, row_at, without_row}
use Rattle.sb_deferred.specs.Complete.{IsChangeOf}

-- ---- tests on lists
-- where none passes, none at any place does
pub none_passes : {A : Type 0} (test : A → Bool) (xs : List A) → list_any test xs ≡ false → All (λ x. test x ≡ false) xs
none_passes test xs none = λ k d below. false_from_ne_true (test (get_or xs k d)) (λ passes. true≢false (sym (list_any_at test xs k d below passes) ∙ none))

or_later : (a b c : Bool) → (b ≡ true → c ≡ true) → (a || b) ≡ true → (a || c) ≡ true
or_later true b c later e = refl
or_later false b c later e = later e

-- ---- keys
head_of : (a b : Bool) → T (a && b) → T a
head_of true b p = tt
head_of false b p = p

rest_of : (a b : Bool) → T (a && b) → T b
rest_of true b p = p
rest_of false b p = absurd p

differs_less : (k x : Key) → T (is_lt (bytes_cmp k x)) → bytes_eq x k ≡ false
differs_less k x below = false_from_ne_true (bytes_eq x k) (λ is.
    subst (λ o. T (is_lt o)) (tied_itself nat_list_cmp_total k) (subst (λ (y : Key). T (is_lt (bytes_cmp k y))) ((bytes_same x k).0 is) below))

pub tied : (a b : Key) → bytes_cmp a b ≡ Equal → a ≡ b
tied a b tie = (bytes_same a b).0 (sym (is_eq-slice_cmp a b) ∙ ap is_eq tie)

below_each : {X : Type 0} (k : Key) (es : List (Key × X)) → T (below_all bytes_cmp k es) → All (λ e. bytes_eq e.0 k ≡ false) es
below_each k [] below = All-nil _
below_each {X = X} k (e ∷ es) below =
    All-cons (λ (x : Key × X). bytes_eq x.0 k ≡ false) e es (differs_less k e.0 (head_of (is_lt (bytes_cmp k e.0)) (below_all bytes_cmp k es) below))
    (below_each k es (rest_of (is_lt (bytes_cmp k e.0)) (below_all bytes_cmp k es) below))

-- in order, each entry is the one that stands under its key
pub each_found : {X : Type 0} (es : List (Key × X)) → T (is_sorted bytes_cmp es) → All (λ e. find bytes_cmp e.0 es ≡ Some e.1) es
each_found [] rises = All-nil _
each_found {X = X} (e ∷ es) rises =
    let apart = below_each e.0 es (head_of (below_all bytes_cmp e.0 es) (is_sorted bytes_cmp es) rises) in
    let later = each_found es (rest_of (below_all bytes_cmp e.0 es) (is_sorted bytes_cmp es) rises) in
    All-cons (λ (x : Key × X). find bytes_cmp x.0 (e ∷ es) ≡ Some x.1) e es
    (ap (λ o. cond (is_eq o) (Some e.1) (find bytes_cmp e.0 es)) (tied_itself nat_list_cmp_total e.0))
    (λ k d below.
    ap (λ (b : Bool). cond b (Some e.1) (find bytes_cmp (get_or es k d).0 es)) (is_eq-slice_cmp (get_or es k d).0 e.0 ∙ apart k d below) ∙ later k d below)

-- so all that have a key are the one that stands there
ones_at : (rows : Rows) (key : Key) (old : Row) → T (is_sorted bytes_cmp rows) → row_at rows key ≡ Some old → All (λ e. bytes_eq e.0 key ≡ true → e.1 ≡ old) rows
ones_at rows key old rises there = λ k d below same.
    same_Some _ _ (sym (each_found rows rises k d below) ∙ ap (row_at rows) ((bytes_same (get_or rows k d).0 key).0 same) ∙ there)

-- ---- some row
-- no row goes where one comes under a free key
any_put : (test : Row → Bool) (k : Key) (v : Row) (es : Rows) → row_at es k ≡ None → list_any (λ e. test e.1) es ≡ true → list_any (λ e. test e.1) (put bytes_cmp k v es) ≡ true
any_put test k v [] free some = absurd (true≢false (sym some))
any_put test k v (e ∷ es) free some = of_order (bytes_cmp k e.0) free (λ later. any_put test k v es later)
  where
    of_order : (o : Ordering) → cond (is_eq o) (Some e.1) (row_at es k) ≡ None
        → (row_at es k ≡ None → list_any (λ x. test x.1) es ≡ true → list_any (λ x. test x.1) (put bytes_cmp k v es) ≡ true)
        → list_any (λ x. test x.1) (by_order o ((k, v) ∷ e ∷ es) ((e.0, v) ∷ es) (e ∷ put bytes_cmp k v es)) ≡ true
    of_order Less is rest = or_right (test v) _ some
    of_order Equal is rest = absurd (cc)
    of_order Greater is rest = or_later (test e.1) (list_any (λ x. test x.1) es) (list_any (λ x. test x.1) (put bytes_cmp k v es)) (rest is) some

any_without : (test : Row → Bool) (k : Key) (old : Row) (es : Rows) → All (λ e. bytes_eq e.0 k ≡ true → e.1 ≡ old) es → list_any (λ e. test e.1) es ≡ true
    → (test old ≡ true) ⊎ (list_any (λ e. test e.1) (without_row es k) ≡ true)
any_without test k old [] ones some = absurd (true≢false (sym some))
any_without test k old (e ∷ es) ones some =
    by (bytes_eq e.0 k) refl (any_without test k old es (All-tail (λ x. bytes_eq x.0 k ≡ true → x.1 ≡ old) e es ones)) (or_cases (test e.1) (list_any (λ x. test x.1) es) some)
  where
    by : (b : Bool) → bytes_eq e.0 k ≡ b → (list_any (λ x. test x.1) es ≡ true → (test old ≡ true) ⊎ (list_any (λ x. test x.1) (without_row es k) ≡ true))
        → (test e.1 ≡ true) ⊎ (list_any (λ x. test x.1) es ≡ true) → (test old ≡ true) ⊎ (list_any (λ x. test x.1) (cond (not b) (e ∷ without_row es k) (without_row es k)) ≡ true)
    by true is rest (inl here) = inl (ap test (sym (All-head (λ x. bytes_eq x.0 k ≡ true → x.1 ≡ old) e es ones is)) ∙ here)
    by true is rest (inr later) = rest later
    by false is rest (inl here) = inr (or_left (test e.1) _ here)
    by false is rest (inr later) = elim (rest later) [ inl it ↦ inl it | inr more ↦ inr (or_right (test e.1) _ more) ]

free_without : (rows : Rows) (from to : Key) → ((to ≡ from → ⊥) → row_at rows to ≡ None) → row_at (without_row rows from) to ≡ None
free_without rows from to free =
    find-where_key bytes_cmp (λ k. not (bytes_eq k from)) to (λ k tie. ap (λ (x : Key). not (bytes_eq x from)) (sym (tied to k tie))) rows ∙ by (bytes_eq to from) refl
  where
    by : (b : Bool) → bytes_eq to from ≡ b → cond (not b) (row_at rows to) None ≡ None
    by true is = refl
    by false is = free (λ same. true≢false (sym ((bytes_same to from).1 same) ∙ is))

-- the row that goes is such a one
pub record IsOfOld (test : Row → Bool) (c : Change) : Type 0 where
  pub old : Row
  pub stood : row_before c ≡ Some old
  pub passes : test old ≡ true

-- where some row passed a test, some row still does, or the old row did
pub any_changed : (test : Row → Bool) (rows : Rows) (c : Change) → T (is_sorted bytes_cmp rows) → IsChangeOf rows c → list_any (λ e. test e.1) rows ≡ true
    → IsOfOld test c ⊎ (list_any (λ e. test e.1) (changed_rows rows c) ≡ true)
any_changed test rows (change.Insert key new) rises free some = inr (any_put test key new rows free some)
any_changed test rows (change.Delete key old) rises there some =
    elim (any_without test key old rows (ones_at rows key old rises there) some) [ inl it ↦ inl (record { old = old; stood = refl; passes = it }) | inr more ↦ inr more ]
any_changed test rows (change.Update from old to new) rises is some =
    elim (any_without test from old rows (ones_at rows from old rises is.0) some) [
      | inl it ↦ inl (record { old = old; stood = refl; passes = it })
      | inr more ↦ inr (any_put test to new (without_row rows from) (free_without rows from to is.1) more)
    ]

-- ---- all rows
all_put : (test : Row → Bool) (k : Key) (v : Row) (es : Rows) → list_all (λ e. test e.1) es ≡ true → test v ≡ true → list_all (λ e. test e.1) (put bytes_cmp k v es) ≡ true
all_put test k v [] all new = and_from (test v) true new refl
all_put test k v (e ∷ es) all new =
    let parts = and_parts (test e.1) (list_all (λ x. test x.1) es) all in of_order (bytes_cmp k e.0) parts.0 parts.1 (all_put test k v es parts.1 new)
  where
    of_order : (o : Ordering) → test e.1 ≡ true → list_all (λ x. test x.1) es ≡ true → list_all (λ x. test x.1) (put bytes_cmp k v es) ≡ true
        → list_all (λ x. test x.1) (by_order o ((k, v) ∷ e ∷ es) ((e.0, v) ∷ es) (e ∷ put bytes_cmp k v es)) ≡ true
    of_order Less here later rest = and_from (test v) _ new all
    of_order Equal here later rest = and_from (test v) _ new later
    of_order Greater here later rest = and_from (test e.1) _ here rest

pub all_filter : {A : Type 0} (test keeps : A → Bool) (xs : List A) → list_all test xs ≡ true → list_all test (filter keeps xs) ≡ true
all_filter test keeps [] all = refl
all_filter test keeps (x ∷ xs) all = let parts = and_parts (test x) (list_all test xs) all in by (keeps x) parts.0 (all_filter test keeps xs parts.1)
  where
    by : (b : Bool) → test x ≡ true → list_all test (filter keeps xs) ≡ true → list_all test (cond b (x ∷ filter keeps xs) (filter keeps xs)) ≡ true
    by true here rest = and_from (test x) _ here rest
    by false here rest = rest

-- where all rows passed a test and the new row does, all do
pub all_changed : (test : Row → Bool) (rows : Rows) (c : Change) → list_all (λ e. test e.1) rows ≡ true → ((new : Row) → row_after c ≡ Some new → test new ≡ true)
    → list_all (λ e. test e.1) (changed_rows rows c) ≡ true
all_changed test rows (change.Insert key new) all comes = all_put test key new rows all (comes new refl)
all_changed test rows (change.Delete key old) all comes = all_filter (λ e. test e.1) (λ e. not (bytes_eq e.0 key)) rows all
all_changed test rows (change.Update from old to new) all comes =
    all_put test to new (without_row rows from) (all_filter (λ e. test e.1) (λ e. not (bytes_eq e.0 from)) rows all) (comes new refl)
