-- Entries without that of a key.
use Rattle.std.proofs.Common.{◌≡◌, ℕ, zero, suc, ◌+◌, ◌<◌, ◌≤◌, Bool, true, false, true≢false, cond, not, List, [], ◌∷◌, ◌++◌, length, take, drop, Option, Some, None, is_some, ◌&&◌, refl, ap, sym, ◌∙◌, subst, arith, T, length-append, length-take, length-drop}
use Rattle.std.specs.Prelude.{Result, Ok, Err}
use Rattle.std.specs.Str.{bytes_eq}
use Rattle.std.specs.List.{list_all}
use Rattle.std.specs.Cmp.{tied_itself}
use Rattle.std.specs.FinMap.Entries.{is_sorted, below_all, find, put, where_key}
use Rattle.std.specs.FinMap.{slice_cmp-IsAntisymmetric, nat_cmp-IsAntisymmetric}
use Rattle.std.specs.declared.cmp.Ordering.{Ordering}
use Rattle.std.specs.declared.cmp.Ordering.TheVariants.{Less, Equal, Greater}
use Rattle.std.specs.Ordering.{is_eq, ordering_reverse}
use Rattle.std.proofs.lemmas.Bool.{and_parts, and_from}
use Rattle.std.proofs.lemmas.Cmp.{nat_list_cmp_total}
use Rattle.std.proofs.lemmas.Map.Text.{is_eq-slice_cmp}
use Rattle.std.specs.FinMap.Entries.{by_order as order_of}
use Rattle.sb_value.proofs.Truths.{is_some-none}
use Rattle.sb_node.specs.Entries.{Entry, key_cmp, without, place_of, lesser}
use Rattle.sb_node.specs.Page.{has_form, node_in}
use Rattle.sb_node.proofs.Placed.{by_order, place_from, scanned}
use Rattle.sb_node.proofs.Sizes.{first, second, T_to, is_less, head_counts}

pub same_key : (x y : List ℕ) → key_cmp x y ≡ Equal → x ≡ y
same_key x y e = slice_cmp-IsAntisymmetric nat_cmp-IsAntisymmetric x y e

pub same_bytes : (x : List ℕ) → bytes_eq x x ≡ true
same_bytes x = sym (is_eq-slice_cmp x x) ∙ ap is_eq (tied_itself nat_list_cmp_total x)

-- all entries but that of a key
abbrev pub entries_without : List ℕ → List Entry → List Entry
entries_without key es = where_key key_cmp (λ k. not (bytes_eq k key)) es

apart : (key x : List ℕ) (o : Ordering) → key_cmp key x ≡ o → is_eq (ordering_reverse o) ≡ false → not (bytes_eq x key) ≡ true
apart key x o e differs = ap not (sym (is_eq-slice_cmp x key) ∙ ap is_eq (nat_list_cmp_total.antisymm x key ∙ ap ordering_reverse e) ∙ differs)

without_more : (key : List ℕ) (es : List Entry) → T (below_all key_cmp key es) → entries_without key es ≡ es
without_more key [] h = refl
without_more key (e ∷ es) h =
    ap (λ b. cond b (e ∷ entries_without key es) (entries_without key es)) (apart key e.0 Less (is_less (key_cmp key e.0) (T_to _ (first _ _ h))) refl)
    ∙ ap (λ r. e ∷ r) (without_more key es (second _ _ h))

pub place_after : (key : List ℕ) (i : ℕ) (es : List Entry) (j : ℕ) → place_from key i es ≡ Ok j → i ≤ j
place_after key i [] j e = absurd (cc)
place_after key i (x ∷ es) j e =
    elim (key_cmp key x.0) as (λ o. by_order o (Err i) (Ok i) (place_from key (i + 1) es) ≡ Ok j → i ≤ j) [
      | Less ↦ λ q. absurd (cc)
      | Equal ↦ λ q. let s : i ≡ j = cc in omega arith
      | Greater ↦ λ q. let r = place_after key (i + 1) es j q in omega (arith, r)
    ] e

without_later : (j : ℕ) (e : Entry) (es : List Entry) → without (suc j) (e ∷ es) ≡ e ∷ without j es
without_later j e es = let s : suc j + 1 ≡ suc (j + 1) = omega arith in ap (λ k. (e ∷ take j es) ++ drop k (e ∷ es)) s

pub length-without : (j : ℕ) (es : List Entry) → j < length es → length (without j es) + 1 ≡ length es
length-without j es h = omega (arith, length-append (take j es) (drop (j + 1) es), length-take j es, length-drop (j + 1) es)

cut_is : (key : List ℕ) (i : ℕ) (es : List Entry) (j : ℕ) → T (is_sorted key_cmp es) → place_from key i es ≡ Ok (i + j) → without j es ≡ entries_without key es
cut_is key i [] j sorted e = absurd (cc)
cut_is key i (x ∷ es) zero sorted e =
    elim (key_cmp key x.0) as (λ o. key_cmp key x.0 ≡ o → by_order o (Err i) (Ok i) (place_from key (i + 1) es) ≡ Ok (i + 0) → without 0 (x ∷ es) ≡ entries_without key (x ∷ es)) [
      | Less ↦ λ is q. absurd (cc)
      | Equal ↦ λ is q.
          let same : x.0 ≡ key = sym (same_key key x.0 is) in
          let rest : entries_without key es ≡ es = without_more key es (subst (λ k. T (below_all key_cmp k es)) same (first _ _ sorted)) in
          sym (ap (λ k. cond (not (bytes_eq k key)) (x ∷ entries_without key es) (entries_without key es)) same ∙ ap (λ b. cond (not b) (x ∷ entries_without key es) (entries_without key es)) (same_bytes key) ∙ rest)
      | Greater ↦ λ is q. let r = place_after key (i + 1) es (i + 0) q in absurd (omega (arith, r))
    ] refl e
cut_is key i (x ∷ es) (suc j) sorted e =
    elim (key_cmp key x.0) as (λ o. key_cmp key x.0 ≡ o → by_order o (Err i) (Ok i) (place_from key (i + 1) es) ≡ Ok (i + suc j) → without (suc j) (x ∷ es) ≡ entries_without key (x ∷ es)) [
      | Less ↦ λ is q. absurd (cc)
      | Equal ↦ λ is q. let s : i ≡ i + suc j = cc in absurd (omega (arith, s))
      | Greater ↦ λ is q.
          let s : i + suc j ≡ i + 1 + j = omega arith in
          let rest = cut_is key (i + 1) es j (second _ _ sorted) (q ∙ ap Ok s) in
          without_later j x es ∙ ap (λ r. x ∷ r) rest ∙ sym (ap (λ b. cond b (x ∷ entries_without key es) (entries_without key es)) (apart key x.0 Greater is refl))
    ] refl e

-- the entry at a key's place is cut out
pub cut_entries : (bytes key : List ℕ) (i : ℕ) → has_form bytes ≡ true → place_of key (node_in bytes).entries ≡ Ok i → without i (node_in bytes).entries ≡ entries_without key (node_in bytes).entries
cut_entries bytes key i form place =
    cut_is key 0 (node_in bytes).entries i (subst T (sym (head_counts bytes form).rising) tt) (let s : i ≡ 0 + i = omega arith in scanned bytes key form ∙ place ∙ ap Ok s)

place_below : (key : List ℕ) (i : ℕ) (es : List Entry) (j : ℕ) → place_from key i es ≡ Ok j → j < i + length es
place_below key i [] j e = absurd (cc)
place_below key i (x ∷ es) j e =
    elim (key_cmp key x.0) as (λ o. by_order o (Err i) (Ok i) (place_from key (i + 1) es) ≡ Ok j → j < i + length (x ∷ es)) [
      | Less ↦ λ q. absurd (cc)
      | Equal ↦ λ q. let s : i ≡ j = cc in omega (arith, s)
      | Greater ↦ λ q. let r = place_below key (i + 1) es j q in omega (arith, r)
    ] e

pub entry_within : (bytes key : List ℕ) (i : ℕ) → has_form bytes ≡ true → place_of key (node_in bytes).entries ≡ Ok i → i < (node_in bytes).head.count
entry_within bytes key i form place = omega (arith, place_below key 0 (node_in bytes).entries i (scanned bytes key form ∙ place), (head_counts bytes form).count)

-- ---- whether a key is there
abbrev place_by : Bool → ℕ → Result ℕ ℕ
place_by b n = cond b (Ok n) (Err n)

tested : (b : Bool) (n i : ℕ) → place_by b n ≡ Ok i → b ≡ true
tested true n i e = refl
tested false n i e = absurd (cc)

untested : (b : Bool) (n i : ℕ) → place_by b n ≡ Err i → b ≡ false
untested true n i e = absurd (cc)
untested false n i e = refl

some_from : {X : Type 0} (o : Option X) → is_some o ≡ true → (x : X) × (o ≡ Some x)
some_from None e = absurd (true≢false (sym e))
some_from (Some x) e = (x, refl)

pub found_at : (key : List ℕ) (es : List Entry) (i : ℕ) → place_of key es ≡ Ok i → (value : List ℕ) × (find key_cmp key es ≡ Some value)
found_at key es i place = some_from (find key_cmp key es) (tested (is_some (find key_cmp key es)) (lesser key es) i place)

pub none_at : (key : List ℕ) (es : List Entry) (i : ℕ) → place_of key es ≡ Err i → find key_cmp key es ≡ None
none_at key es i place = is_some-none (find key_cmp key es) (untested (is_some (find key_cmp key es)) (lesser key es) i place)

pub not_there : (key : List ℕ) (es : List Entry) (i : ℕ) → find key_cmp key es ≡ None → place_of key es ≡ Ok i → ⊥
not_there key es i none place = true≢false (sym (tested (is_some (find key_cmp key es)) (lesser key es) i place) ∙ ap is_some none)

-- ---- what isn't there after
turned : (o p : Ordering) → o ≡ ordering_reverse p → is_eq o ≡ is_eq p
turned o Less e = ap is_eq e
turned o Equal e = ap is_eq e
turned o Greater e = ap is_eq e

pub tie : (key x : List ℕ) → is_eq (key_cmp key x) ≡ bytes_eq x key
tie key x = turned (key_cmp key x) (key_cmp x key) (nat_list_cmp_total.antisymm key x) ∙ is_eq-slice_cmp x key

pub find-without : (key : List ℕ) (es : List Entry) → find key_cmp key (entries_without key es) ≡ None
find-without key [] = refl
find-without key (e ∷ es) = elim (bytes_eq e.0 key) as (λ b. bytes_eq e.0 key ≡ b → find key_cmp key (cond (not b) (e ∷ entries_without key es) (entries_without key es)) ≡ None) [
  | true ↦ λ same. find-without key es
  | false ↦ λ other. ap (λ b. cond b (Some e.1) (find key_cmp key (entries_without key es))) (tie key e.0 ∙ other) ∙ find-without key es
] refl

-- ---- entries that pass a test
pub all_put : (p : Entry → Bool) (key value : List ℕ) (es : List Entry) → ((k : List ℕ) → key_cmp key k ≡ Equal → p (k, value) ≡ true) → p (key, value) ≡ true → list_all p es ≡ true → list_all p (put key_cmp key value es) ≡ true
all_put p key value [] tied here all = and_from (p (key, value)) true here refl
all_put p key value (e ∷ es) tied here all =
    let parts = and_parts (p e) (list_all p es) all in
    elim (key_cmp key e.0) as (λ o. key_cmp key e.0 ≡ o → list_all p (order_of o ((key, value) ∷ e ∷ es) ((e.0, value) ∷ es) (e ∷ put key_cmp key value es)) ≡ true) [
      | Less ↦ λ is. and_from (p (key, value)) (p e && list_all p es) here all
      | Equal ↦ λ is. and_from (p (e.0, value)) (list_all p es) (tied e.0 is) parts.1
      | Greater ↦ λ is. and_from (p e) (list_all p (put key_cmp key value es)) parts.0 (all_put p key value es tied here parts.1)
    ] refl

pub all_without : (p : Entry → Bool) (key : List ℕ) (es : List Entry) → list_all p es ≡ true → list_all p (entries_without key es) ≡ true
all_without p key [] all = refl
all_without p key (e ∷ es) all =
    let parts = and_parts (p e) (list_all p es) all in
    elim (not (bytes_eq e.0 key)) as (λ t. list_all p (cond t (e ∷ entries_without key es) (entries_without key es)) ≡ true) [
      | true ↦ and_from (p e) (list_all p (entries_without key es)) parts.0 (all_without p key es parts.1)
      | false ↦ all_without p key es parts.1
    ]

-- a row more leaves no page empty
pub put_some : (key value : List ℕ) (es : List Entry) → put key_cmp key value es ≡ [] → ⊥
put_some key value [] e = cc
put_some key value (x ∷ es) e = elim (key_cmp key x.0) as (λ o. order_of o ((key, value) ∷ x ∷ es) ((x.0, value) ∷ es) (x ∷ put key_cmp key value es) ≡ [] → ⊥) [
  | Less ↦ λ e. cc
  | Equal ↦ λ e. cc
  | Greater ↦ λ e. cc
] e
