-- The place of a key among the entries of a page.
use Rattle.std.proofs.Common.{◌≡◌, ℕ, zero, suc, ◌+◌, ◌<◌, ◌≤◌, Bool, true, false, cond, ◌&&◌, List, [], ◌∷◌, length, Some, refl, ap, sym, ◌∙◌, subst, arith, T}
use Rattle.std.specs.Prelude.{Ok, Err, slice_get}
use Rattle.std.specs.FinMap.Entries.{find, is_sorted, below_all}
use Rattle.std.specs.Ordering.{is_eq, is_lt}
use Rattle.std.specs.declared.cmp.Ordering.TheVariants.{Less, Equal, Greater}
use Rattle.std.proofs.lemmas.Bool.{and_parts, and_right, false_from_ne_true, ne_eqb}
use Rattle.sb_bytes.specs.Field.{number_at}
use Rattle.sb_node.specs.Entries.{Entry, key_cmp, is_below, place_of}
use Rattle.sb_node.specs.Page.{has_form, node_in}
use Rattle.sb_node.proofs.Placed.{by_order, place_from, scanned, err_within}
use Rattle.sb_node.proofs.Runs.{head_count}
use Rattle.sb_node.proofs.Sizes.{count_is, head_counts, T_from, first, second, T_to, is_less}
use Rattle.sb_btree.specs.Held.{passed, nth_child}
use Rattle.sb_forms.specs.Read.{all_by, is_bound, is_upto}
use Rattle.sb_btree.proofs.Order.{same_key, less-below}

not_below_greater : (key x : List ℕ) → key_cmp key x ≡ Greater → is_below key x ≡ false
unfolding is_below
not_below_greater key x e = ap is_lt e

not_below_equal : (key x : List ℕ) → key_cmp key x ≡ Equal → is_below key x ≡ false
unfolding is_below
not_below_equal key x e = ap is_lt e

-- entries above a key are behind it
passed_above : (key : List ℕ) (es : List Entry) → T (below_all key_cmp key es) → passed (Some key) es ≡ 0
passed_above key [] all = refl
passed_above key (e ∷ es) all =
    ap (λ b. cond b 0 (suc (passed (Some key) es))) (less-below key e.0 (is_less (key_cmp key e.0) (T_to _ (first _ _ all))))

passed_err : (key : List ℕ) (i : ℕ) (es : List Entry) (j : ℕ) → place_from key i es ≡ Err j → i + passed (Some key) es ≡ j
passed_err key i [] j e = let s : i ≡ j = cc in omega arith
passed_err key i (x ∷ es) j e =
    elim (key_cmp key x.0) as (λ o. key_cmp key x.0 ≡ o → by_order o (Err i) (Ok i) (place_from key (i + 1) es) ≡ Err j → i + passed (Some key) (x ∷ es) ≡ j) [
      | Less ↦ λ is q.
          let s : i ≡ j = cc in
          let p : passed (Some key) (x ∷ es) ≡ 0 = ap (λ b. cond b 0 (suc (passed (Some key) es))) (less-below key x.0 is) in
          omega (arith, p, s)
      | Equal ↦ λ is q. absurd (cc)
      | Greater ↦ λ is q.
          let p : passed (Some key) (x ∷ es) ≡ suc (passed (Some key) es) = ap (λ b. cond b 0 (suc (passed (Some key) es))) (not_below_greater key x.0 is) in
          let rest = passed_err key (i + 1) es j q in
          omega (arith, p, rest)
    ] refl e

passed_ok : (key : List ℕ) (i : ℕ) (es : List Entry) (j : ℕ) → T (is_sorted key_cmp es) → place_from key i es ≡ Ok j → i + passed (Some key) es ≡ j + 1
passed_ok key i [] j sorted e = absurd (cc)
passed_ok key i (x ∷ es) j sorted e =
    elim (key_cmp key x.0) as (λ o. key_cmp key x.0 ≡ o → by_order o (Err i) (Ok i) (place_from key (i + 1) es) ≡ Ok j → i + passed (Some key) (x ∷ es) ≡ j + 1) [
      | Less ↦ λ is q. absurd (cc)
      | Equal ↦ λ is q.
          let s : i ≡ j = cc in
          let p : passed (Some key) (x ∷ es) ≡ suc (passed (Some key) es) = ap (λ b. cond b 0 (suc (passed (Some key) es))) (not_below_equal key x.0 is) in
          let none : passed (Some key) es ≡ 0 = passed_above key es (subst (λ k. T (below_all key_cmp k es)) (sym (same_key key x.0 is)) (first _ _ sorted)) in
          omega (arith, p, none, s)
      | Greater ↦ λ is q.
          let p : passed (Some key) (x ∷ es) ≡ suc (passed (Some key) es) = ap (λ b. cond b 0 (suc (passed (Some key) es))) (not_below_greater key x.0 is) in
          let rest = passed_ok key (i + 1) es j (second _ _ sorted) q in
          omega (arith, p, rest)
    ] refl e

ok_within : (key : List ℕ) (i : ℕ) (es : List Entry) (j : ℕ) → place_from key i es ≡ Ok j → (i ≤ j) × (j < i + length es)
ok_within key i [] j e = absurd (cc)
ok_within key i (x ∷ es) j e =
    elim (key_cmp key x.0) as (λ o. by_order o (Err i) (Ok i) (place_from key (i + 1) es) ≡ Ok j → (i ≤ j) × (j < i + length (x ∷ es))) [
      | Less ↦ λ q. absurd (cc)
      | Equal ↦ λ q. let s : i ≡ j = cc in (omega arith, omega arith)
      | Greater ↦ λ q. let r = ok_within key (i + 1) es j q in (omega (arith, r.0), omega (arith, r.1))
    ] e

-- the entry at the place has the key's value
found_at : (key : List ℕ) (i : ℕ) (es : List Entry) (j : ℕ) (e : Entry) → place_from key i es ≡ Ok (i + j) → slice_get es j ≡ Some e → find key_cmp key es ≡ Some e.1
found_at key i [] j e place at = absurd (cc)
found_at key i (x ∷ es) zero e place at =
    elim (key_cmp key x.0) as (λ o. by_order o (Err i) (Ok i) (place_from key (i + 1) es) ≡ Ok (i + 0) → cond (is_eq o) (Some x.1) (find key_cmp key es) ≡ Some e.1) [
      | Less ↦ λ q. absurd (cc)
      | Equal ↦ λ q. let s : x ≡ e = cc in ap (λ (y : Entry). Some y.1) s
      | Greater ↦ λ q. let r = (ok_within key (i + 1) es (i + 0) q).0 in absurd (omega (arith, r))
    ] place
found_at key i (x ∷ es) (suc j) e place at =
    elim (key_cmp key x.0) as (λ o. by_order o (Err i) (Ok i) (place_from key (i + 1) es) ≡ Ok (i + suc j) → cond (is_eq o) (Some x.1) (find key_cmp key es) ≡ Some e.1) [
      | Less ↦ λ q. absurd (cc)
      | Equal ↦ λ q. let s : i ≡ i + suc j = cc in absurd (omega (arith, s))
      | Greater ↦ λ q. let s : i + suc j ≡ i + 1 + j = omega arith in found_at key (i + 1) es j e (q ∙ ap Ok s) at
    ] place

-- ---- in a page
pub page_count : (b : List ℕ) → (node_in b).head.count ≡ length (node_in b).entries
page_count b = head_count b ∙ sym (count_is b)

pub passed-err : (b key : List ℕ) (i : ℕ) → has_form b ≡ true → place_of key (node_in b).entries ≡ Err i → (i ≡ passed (Some key) (node_in b).entries) × (i ≤ (node_in b).head.count)
passed-err b key i form is =
    let place = scanned b key form ∙ is in
    let p = passed_err key 0 (node_in b).entries i place in
    let w = (err_within key 0 (node_in b).entries i place).1 in
    let c = page_count b in
    (omega (arith, p), omega (arith, w, c))

pub passed-ok : (b key : List ℕ) (i : ℕ) → has_form b ≡ true → place_of key (node_in b).entries ≡ Ok i → (i + 1 ≡ passed (Some key) (node_in b).entries) × (i + 1 ≤ (node_in b).head.count)
passed-ok b key i form is =
    let place = scanned b key form ∙ is in
    let p = passed_ok key 0 (node_in b).entries i (T_from _ (head_counts b form).rising) place in
    let w = (ok_within key 0 (node_in b).entries i place).1 in
    let c = page_count b in
    (omega (arith, p), omega (arith, w, c))

pub find-ok : (b key : List ℕ) (i : ℕ) (e : Entry) → has_form b ≡ true → place_of key (node_in b).entries ≡ Ok i → slice_get (node_in b).entries i ≡ Some e → find key_cmp key (node_in b).entries ≡ Some e.1
find-ok b key i e form is at = let s : i ≡ 0 + i = omega arith in found_at key 0 (node_in b).entries i e (scanned b key form ∙ is ∙ ap Ok s) at

-- ---- the child of an entry
pub nth_first : (a : ℕ) (es : List Entry) → nth_child a es 0 ≡ a
nth_first a [] = refl
nth_first a (e ∷ es) = refl

nth_suc : (a : ℕ) (es : List Entry) (j : ℕ) (e : Entry) → slice_get es j ≡ Some e → nth_child a es (suc j) ≡ number_at 4 e.1 0
nth_suc a [] j e at = absurd (cc)
nth_suc a (x ∷ es) zero e at = let s : x ≡ e = cc in nth_first (number_at 4 x.1 0) es ∙ ap (λ (y : Entry). number_at 4 y.1 0) s
nth_suc a (x ∷ es) (suc j) e at = nth_suc (number_at 4 x.1 0) es j e at

pub nth_child-entry : (a : ℕ) (es : List Entry) (i j : ℕ) (e : Entry) → i ≡ suc j → slice_get es j ≡ Some e → number_at 4 e.1 0 ≡ nth_child a es i
nth_child-entry a es i j e is at = sym (ap (nth_child a es) is ∙ nth_suc a es j e at)

pub all_by_fails : (t : Entry → Bool) (es : List Entry) (j : ℕ) (e : Entry) → slice_get es j ≡ Some e → t e ≡ false → all_by t es ≡ false
all_by_fails t [] j e at fails = absurd (cc)
all_by_fails t (x ∷ es) zero e at fails =
    let s : x ≡ e = cc in
    false_from_ne_true (all_by t (x ∷ es)) (λ all. let here = (and_parts (t x) (all_by t es) all).0 in let same = ap t s in cc)
all_by_fails t (x ∷ es) (suc j) e at fails = and_right (t x) (all_by t es) (all_by_fails t es j e at fails)

pub no_child : (es : List Entry) (j : ℕ) (e : Entry) → slice_get es j ≡ Some e → (length e.1 ≡ 4 → ⊥) → all_by is_bound es ≡ false
no_child es j e at long = all_by_fails is_bound es j e at (ap (λ b. b && is_upto (length e.0) 602) (ne_eqb (length e.1) 4 long))
