-- Rows that are found under their keys, before a change and after it.
use Rattle.std.proofs.Common.{◌≡◌, Bool, true, false, not, cond, T, List, [], ◌∷◌, ◌⊎◌, inl, inr, map, Some, None, refl, sym, ap, ◌∙◌, get_or}
use Rattle.std.specs.Prelude.{All, filter}
use Rattle.std.specs.List.{list_any, list_all}
use Rattle.std.specs.Str.{bytes_eq}
use Rattle.std.specs.Ordering.{eq_by_cmp}
use Rattle.std.specs.FinMap.Entries.{is_sorted, find-put, find-where_key}
use Rattle.std.proofs.lemmas.Bool.{and_parts, and_from, or_left, or_right}
use Rattle.std.proofs.lemmas.Cmp.{nat_list_cmp_total}
use Rattle.std.proofs.lemmas.List.Elements.{All-head, All-tail}
use Rattle.std.proofs.lemmas.Map.Text.{is_eq-slice_cmp}
use Rattle.std.proofs.lemmas.Option.{same_Some}
use Rattle.sb_value.specs.Order.{bytes_cmp}
use Rattle.sb_rule.specs.Bound.{row_before, row_after}
use Rattle.sb_rule.specs.declared.change.Change.{Change}
use Rattle.sb_rule.specs.declared.change.Change.TheVariants as change
use Rattle.sb_relation.specs.Changes.{changed_rows, of_new, of_old}
use Rattle.sb_relation.specs.Db.{Key, Row, Rows, row_at, with_row, without_row}
use Rattle.sb_deferred.proofs.RowLemmas.{tied, each_found}

-- ---- tests on rows
-- a row that is found and passes is one that does
pub any_at : (test : Row → Bool) (rows : Rows) (key : Key) (row : Row) → row_at rows key ≡ Some row → test row ≡ true → list_any (λ e. test e.1) rows ≡ true
any_at test [] key row there passes = absurd (cc)
any_at test (e ∷ rows) key row there passes = by (eq_by_cmp bytes_cmp key e.0) there (λ later. any_at test rows key row later passes)
  where
    by : (b : Bool) → cond b (Some e.1) (row_at rows key) ≡ Some row → (row_at rows key ≡ Some row → list_any (λ x. test x.1) rows ≡ true) → list_any (λ x. test x.1) (e ∷ rows) ≡ true
    by true is rest = or_left (test e.1) (list_any (λ x. test x.1) rows) (ap test (same_Some e.1 row is) ∙ passes)
    by false is rest = or_right (test e.1) (list_any (λ x. test x.1) rows) (rest is)

-- where all rows pass, one that is found does
pub each_at : (test : Row → Bool) (rows : Rows) (key : Key) (row : Row) → list_all (λ e. test e.1) rows ≡ true → row_at rows key ≡ Some row → test row ≡ true
each_at test [] key row all there = absurd (cc)
each_at test (e ∷ rows) key row all there =
    let parts = and_parts (test e.1) (list_all (λ x. test x.1) rows) all in by (eq_by_cmp bytes_cmp key e.0) there parts.0 (λ later. each_at test rows key row parts.1 later)
  where
    by : (b : Bool) → cond b (Some e.1) (row_at rows key) ≡ Some row → test e.1 ≡ true → (row_at rows key ≡ Some row → test row ≡ true) → test row ≡ true
    by true is here rest = ap test (sym (same_Some e.1 row is)) ∙ here
    by false is here rest = rest is

all_tests : {A : Type 0} (test : A → Bool) (xs : List A) → All (λ x. test x ≡ true) xs → list_all test xs ≡ true
all_tests test [] all = refl
all_tests test (x ∷ xs) all = and_from (test x) (list_all test xs) (All-head (λ y. test y ≡ true) x xs all) (all_tests test xs (All-tail (λ y. test y ≡ true) x xs all))

-- in order, each row is found under its key
pub all_at_keys : (test : Row → Bool) (rows : Rows) → T (is_sorted bytes_cmp rows) → ((key : Key) (row : Row) → row_at rows key ≡ Some row → test row ≡ true) → list_all (λ e. test e.1) rows ≡ true
all_at_keys test rows rises each = all_tests (λ (e : Key × Row). test e.1) rows (λ k d below. each (get_or rows k d).0 (get_or rows k d).1 (each_found rows rises k d below))

-- the key of a row that is found and passes is among the keys of those that do
pub listed : (test : Row → Bool) (rows : Rows) (key : Key) (row : Row) → row_at rows key ≡ Some row → test row ≡ true
    → list_any (bytes_eq key) (map (λ e. e.0) (filter (λ e. test e.1) rows)) ≡ true
listed test [] key row there passes = absurd (cc)
listed test (e ∷ rows) key row there passes = by (eq_by_cmp bytes_cmp key e.0) refl there (λ later. listed test rows key row later passes)
  where
    keys : List (Key × Row) → List Key
    keys = map (λ (x : Key × Row). x.0)

    those : Rows
    those = filter (λ (x : Key × Row). test x.1) rows

    later_too : (b : Bool) → list_any (bytes_eq key) (keys those) ≡ true → list_any (bytes_eq key) (keys (cond b (e ∷ those) those)) ≡ true
    later_too true rest = or_right (bytes_eq key e.0) (list_any (bytes_eq key) (keys those)) rest
    later_too false rest = rest

    by : (b : Bool) → eq_by_cmp bytes_cmp key e.0 ≡ b → cond b (Some e.1) (row_at rows key) ≡ Some row → (row_at rows key ≡ Some row → list_any (bytes_eq key) (keys those) ≡ true)
        → list_any (bytes_eq key) (keys (cond (test e.1) (e ∷ those) those)) ≡ true
    by true same is rest =
        ap (λ (b : Bool). list_any (bytes_eq key) (keys (cond b (e ∷ those) those))) (ap test (same_Some e.1 row is) ∙ passes)
        ∙ or_left (bytes_eq key e.0) (list_any (bytes_eq key) (keys those)) (sym (is_eq-slice_cmp key e.0) ∙ same)
    by false same is rest = later_too (test e.1) (rest is)

-- ---- the rows of a change
pub of_new_row : (test : Row → Bool) (c : Change) (row : Row) → of_new c (λ key new. test new) ≡ true → row_after c ≡ Some row → test row ≡ true
of_new_row test (change.Insert key new) row admitted is = ap test (sym (same_Some new row is)) ∙ admitted
of_new_row test (change.Delete key old) row admitted is = absurd (cc)
of_new_row test (change.Update from old to new) row admitted is = ap test (sym (same_Some new row is)) ∙ admitted

pub of_old_row : (test : Row → Bool) (c : Change) (row : Row) → of_old c test ≡ true → row_before c ≡ Some row → test row ≡ true
of_old_row test (change.Insert key new) row admitted is = absurd (cc)
of_old_row test (change.Delete key old) row admitted is = ap test (sym (same_Some old row is)) ∙ admitted
of_old_row test (change.Update from old to new) row admitted is = ap test (sym (same_Some old row is)) ∙ admitted

-- the row of this key goes, or another comes in its place
abbrev pub goes : Change → Key → Bool
goes (change.Insert key new) k = false
goes (change.Delete key old) k = bytes_eq k key
goes (change.Update from old to new) k = bytes_eq k from

put_before : (rows : Rows) (to key : Key) (new row : Row) → row_at (with_row rows to new) key ≡ Some row → (new ≡ row) ⊎ (row_at rows key ≡ Some row)
put_before rows to key new row is = by (eq_by_cmp bytes_cmp key to) (sym (find-put bytes_cmp nat_list_cmp_total key to new rows) ∙ is)
  where
    by : (b : Bool) → cond b (Some new) (row_at rows key) ≡ Some row → (new ≡ row) ⊎ (row_at rows key ≡ Some row)
    by true e = inl (same_Some new row e)
    by false e = inr e

without_before : (rows : Rows) (from key : Key) (row : Row) → row_at (without_row rows from) key ≡ Some row → (bytes_eq key from ≡ false) × (row_at rows key ≡ Some row)
without_before rows from key row is =
    by (bytes_eq key from) refl (sym (find-where_key bytes_cmp (λ k. not (bytes_eq k from)) key (λ k tie. ap (λ (x : Key). not (bytes_eq x from)) (sym (tied key k tie))) rows) ∙ is)
  where
    by : (b : Bool) → bytes_eq key from ≡ b → cond (not b) (row_at rows key) None ≡ Some row → (bytes_eq key from ≡ false) × (row_at rows key ≡ Some row)
    by true same e = absurd (cc)
    by false differs e = (differs, e)

-- a row that is found after a change is the new one, or was there and doesn't go
pub was : (rows : Rows) (c : Change) (key : Key) (row : Row) → row_at (changed_rows rows c) key ≡ Some row → (row_after c ≡ Some row) ⊎ ((goes c key ≡ false) × (row_at rows key ≡ Some row))
was rows (change.Insert to new) key row is = elim (put_before rows to key new row is) [ inl e ↦ inl (ap (λ (x : Row). Some x) e) | inr e ↦ inr (refl, e) ]
was rows (change.Delete from old) key row is = inr (without_before rows from key row is)
was rows (change.Update from old to new) key row is =
    elim (put_before (without_row rows from) to key new row is) [ inl e ↦ inl (ap (λ (x : Row). Some x) e) | inr e ↦ inr (without_before rows from key row e) ]
