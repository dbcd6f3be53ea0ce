-- Rows that agree in no columns, when one comes or some go.
use Rattle.std.proofs.Common.{◌≡◌, Bool, true, false, not, ◌&&◌, ◌||◌, T, List, [], ◌∷◌, refl, sym, ap, subst, ◌∙◌, true≢false}
use Rattle.std.specs.Prelude.{cond, filter}
use Rattle.std.specs.List.{list_any, list_all}
use Rattle.std.specs.Str.{bytes_eq}
use Rattle.std.specs.declared.cmp.Ordering.{Ordering}
use Rattle.std.specs.declared.cmp.Ordering.TheVariants.{Less, Equal, Greater}
use Rattle.std.specs.Ordering.{is_eq, is_lt, is_gt}
use Rattle.std.specs.FinMap.Entries.{by_order, put, is_sorted, below_all, is_sorted-put}
use Rattle.std.proofs.lemmas.Bool.{and_parts, and_from, not-true, or_parts}
use Rattle.std.proofs.lemmas.Cmp.{tied_itself, nat_list_cmp_total}
use Rattle.std.proofs.lemmas.Map.Text.{is_eq-slice_cmp}
use Rattle.sb_value.specs.declared.schema.Column.{Column}
use Rattle.sb_value.specs.Equal.{bytes_same, tuple_eq_equiv}
use Rattle.sb_value.specs.Order.{bytes_cmp}
use Rattle.sb_relation.specs.Db.{Name, Key, Row, Rows, values_in}
use Rattle.sb_relation.specs.Rules.{has_values, is_unique}

-- ---- truth values
neither : (a b : Bool) → a ≡ false → b ≡ false → (a || b) ≡ false
neither true b e f = e
neither false b e f = f

unless : (a b : Bool) → a ≡ false → (not a && b) ≡ false → b ≡ false
unless true b e f = absurd (cc)
unless false b e f = f

none_and_all : (a b : Bool) → a ≡ false → b ≡ true → (not a && b) ≡ true
none_and_all true b e f = absurd (cc)
none_and_all false b e f = f

pub head_of : (a b : Bool) → T (a && b) → T a
head_of true b p = tt
head_of false b p = p

pub rest_of : (a b : Bool) → T (a && b) → T b
rest_of true b p = p
rest_of false b p = absurd p

-- ---- keys
pub differs_less : (k x : Key) → T (is_lt (bytes_cmp k x)) → bytes_eq x k ≡ false
differs_less k x below = of_test (bytes_eq x k) refl
  where
    of_test : (b : Bool) → bytes_eq x k ≡ b → b ≡ false
    of_test true is = absurd (subst (λ o. T (is_lt o)) (tied_itself nat_list_cmp_total k) (subst (λ (y : Key). T (is_lt (bytes_cmp k y))) ((bytes_same x k).0 is) below))
    of_test false is = refl

pub tied : (a b : Key) → bytes_cmp a b ≡ Equal → a ≡ b
tied a b tie = (bytes_same a b).0 (sym (is_eq-slice_cmp a b) ∙ ap is_eq tie)

pub differs_greater : (k x : Key) → bytes_cmp k x ≡ Greater → bytes_eq x k ≡ false
differs_greater k x greater = of_test (bytes_eq x k) refl
  where
    of_test : (b : Bool) → bytes_eq x k ≡ b → b ≡ false
    of_test true is = absurd (true≢false (sym (ap is_gt (sym (tied_itself nat_list_cmp_total k) ∙ ap (bytes_cmp k) (sym ((bytes_same x k).0 is)) ∙ greater))))
    of_test false is = refl

-- ---- tests on rows
-- a row comes that fails the test, too
any_put : (test : Row → Bool) (k : Key) (v : Row) (es : Rows) → list_any (λ e. test e.1) es ≡ false → test v ≡ false → list_any (λ e. test e.1) (put bytes_cmp k v es) ≡ false
any_put test k v [] none new = neither (test v) false new refl
any_put test k v (e ∷ es) none new = of_order (bytes_cmp k e.0) (any_put test k v es (or_parts (test e.1) (list_any (λ x. test x.1) es) none).1 new)
  where
    parts : (test e.1 ≡ false) × (list_any (λ x. test x.1) es ≡ false)
    parts = or_parts (test e.1) (list_any (λ x. test x.1) es) none

    of_order : (o : Ordering) → list_any (λ x. test x.1) (put bytes_cmp k v es) ≡ false → list_any (λ x. test x.1) (by_order o ((k, v) ∷ e ∷ es) ((e.0, v) ∷ es) (e ∷ put bytes_cmp k v es)) ≡ false
    of_order Less rest = neither (test v) _ new none
    of_order Equal rest = neither (test v) _ new parts.1
    of_order Greater rest = neither (test e.1) _ parts.0 rest

any_filter : (test : Key × Row → Bool) (p : Key × Row → Bool) (es : Rows) → list_any test es ≡ false → list_any test (filter p es) ≡ false
any_filter test p [] none = refl
any_filter test p (e ∷ es) none = of_test (p e) (any_filter test p es (or_parts (test e) (list_any test es) none).1)
  where
    of_test : (b : Bool) → list_any test (filter p es) ≡ false → list_any test (cond b (e ∷ filter p es) (filter p es)) ≡ false
    of_test true rest = neither (test e) _ (or_parts (test e) (list_any test es) none).0 rest
    of_test false rest = rest

pub all_put : (test : Row → Bool) (k : Key) (v : Row) (es : Rows) → list_all (λ e. test e.1) es ≡ true → test v ≡ true → list_all (λ e. test e.1) (put bytes_cmp k v es) ≡ true
all_put test k v [] all new = and_from (test v) true new refl
all_put test k v (e ∷ es) all new = of_order (bytes_cmp k e.0) (all_put test k v es (and_parts (test e.1) (list_all (λ x. test x.1) es) all).1 new)
  where
    parts : (test e.1 ≡ true) × (list_all (λ x. test x.1) es ≡ true)
    parts = and_parts (test e.1) (list_all (λ x. test x.1) es) all

    of_order : (o : Ordering) → list_all (λ x. test x.1) (put bytes_cmp k v es) ≡ true → list_all (λ x. test x.1) (by_order o ((k, v) ∷ e ∷ es) ((e.0, v) ∷ es) (e ∷ put bytes_cmp k v es)) ≡ true
    of_order Less rest = and_from (test v) _ new all
    of_order Equal rest = and_from (test v) _ new parts.1
    of_order Greater rest = and_from (test e.1) _ parts.0 rest

pub all_filter : (test : Key × Row → Bool) (p : Key × Row → Bool) (es : Rows) → list_all test es ≡ true → list_all test (filter p es) ≡ true
all_filter test p [] all = refl
all_filter test p (e ∷ es) all = of_test (p e) (all_filter test p es (and_parts (test e) (list_all test es) all).1)
  where
    of_test : (b : Bool) → list_all test (filter p es) ≡ true → list_all test (cond b (e ∷ filter p es) (filter p es)) ≡ true
    of_test true rest = ap (λ (t : Bool). t && list_all test (filter p es)) (and_parts (test e) (list_all test es) all).0 ∙ rest
    of_test false rest = rest

-- ---- unique rows
module _ (schema : List Column) (columns : List Name) where
  -- the other row has this one's values in the columns
  abbrev like : Row → Row → Bool
  like row other = has_values schema columns (values_in schema row columns) other

  like_back : (a b : Row) → like a b ≡ like b a
  like_back a b = tuple_eq_equiv.symm (values_in schema b columns) (values_in schema a columns)

  -- under another key
  abbrev pub is_other : Key → Row → Key × Row → Bool
  is_other k v e = not (bytes_eq e.0 k) && like v e.1

  -- where all keys are greater, any row with the values is another one
  none_like : (k : Key) (v : Row) (es : Rows) → T (below_all bytes_cmp k es) → list_any (is_other k v) es ≡ false → list_any (λ e. like v e.1) es ≡ false
  none_like k v [] below none = refl
  none_like k v (e ∷ es) below none =
      let first : T (is_lt (bytes_cmp k e.0)) = head_of (is_lt (bytes_cmp k e.0)) (below_all bytes_cmp k es) below in
      let parts = or_parts (is_other k v e) (list_any (is_other k v) es) none in
      neither (like v e.1) _ (unless (bytes_eq e.0 k) (like v e.1) (differs_less k e.0 first) parts.0) (none_like k v es (rest_of (is_lt (bytes_cmp k e.0)) (below_all bytes_cmp k es) below) parts.1)

  pub unique_put : (k : Key) (v : Row) (es : Rows) → T (is_sorted bytes_cmp es) → is_unique schema columns es ≡ true → list_any (is_other k v) (put bytes_cmp k v es) ≡ false
      → is_unique schema columns (put bytes_cmp k v es) ≡ true
  unique_put k v [] rises unique none = refl
  unique_put k v (e ∷ es) rises unique none =
      of_order (bytes_cmp k e.0) refl (is_sorted-put bytes_cmp nat_list_cmp_total k v (e ∷ es) rises) none
      (unique_put k v es (rest_of (below_all bytes_cmp e.0 es) (is_sorted bytes_cmp es) rises) (and_parts (not (list_any (λ other. like e.1 other.1) es)) (is_unique schema columns es) unique).1)
    where
      parts : (not (list_any (λ other. like e.1 other.1) es) ≡ true) × (is_unique schema columns es ≡ true)
      parts = and_parts (not (list_any (λ other. like e.1 other.1) es)) (is_unique schema columns es) unique

      of_order : (o : Ordering) → bytes_cmp k e.0 ≡ o → T (is_sorted bytes_cmp (by_order o ((k, v) ∷ e ∷ es) ((e.0, v) ∷ es) (e ∷ put bytes_cmp k v es)))
          → list_any (is_other k v) (by_order o ((k, v) ∷ e ∷ es) ((e.0, v) ∷ es) (e ∷ put bytes_cmp k v es)) ≡ false
          → (list_any (is_other k v) (put bytes_cmp k v es) ≡ false → is_unique schema columns (put bytes_cmp k v es) ≡ true)
          → is_unique schema columns (by_order o ((k, v) ∷ e ∷ es) ((e.0, v) ∷ es) (e ∷ put bytes_cmp k v es)) ≡ true
      of_order Less is sorted alone rest =
          none_and_all (list_any (λ x. like v x.1) (e ∷ es)) (is_unique schema columns (e ∷ es))
          (none_like k v (e ∷ es) (head_of (below_all bytes_cmp k (e ∷ es)) (is_sorted bytes_cmp (e ∷ es)) sorted) (or_parts (is_other k v (k, v)) (list_any (is_other k v) (e ∷ es)) alone).1) unique
      of_order Equal is sorted alone rest =
          none_and_all (list_any (λ x. like v x.1) es) (is_unique schema columns es)
          (none_like k v es (subst (λ (x : Key). T (below_all bytes_cmp x es)) (sym (tied k e.0 is)) (head_of (below_all bytes_cmp e.0 es) (is_sorted bytes_cmp es) sorted))
          (or_parts (is_other k v (e.0, v)) (list_any (is_other k v) es) alone).1) parts.1
      of_order Greater is sorted alone rest =
          let others = or_parts (is_other k v e) (list_any (is_other k v) (put bytes_cmp k v es)) alone in
          none_and_all (list_any (λ x. like e.1 x.1) (put bytes_cmp k v es)) (is_unique schema columns (put bytes_cmp k v es))
          (any_put (like e.1) k v es (not-true _ parts.0) (like_back e.1 v ∙ unless (bytes_eq e.0 k) (like v e.1) (differs_greater k e.0 is) others.0)) (rest others.1)

  pub unique_filter : (p : Key × Row → Bool) (es : Rows) → is_unique schema columns es ≡ true → is_unique schema columns (filter p es) ≡ true
  unique_filter p [] unique = refl
  unique_filter p (e ∷ es) unique = of_test (p e) (unique_filter p es (and_parts (not (list_any (λ other. like e.1 other.1) es)) (is_unique schema columns es) unique).1)
    where
      of_test : (b : Bool) → is_unique schema columns (filter p es) ≡ true → is_unique schema columns (cond b (e ∷ filter p es) (filter p es)) ≡ true
      of_test true rest =
          none_and_all (list_any (λ x. like e.1 x.1) (filter p es)) (is_unique schema columns (filter p es))
          (any_filter (λ x. like e.1 x.1) p es (not-true _ (and_parts (not (list_any (λ other. like e.1 other.1) es)) (is_unique schema columns es) unique).0)) rest
      of_test false rest = rest
