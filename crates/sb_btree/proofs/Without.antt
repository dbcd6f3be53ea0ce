-- Entries without that of a key.
use Rattle.std.proofs.Common.{◌≡◌, ℕ, zero, suc, ◌+◌, ◌<◌, ◌≤◌, Bool, true, false, cond, not, List, [], ◌∷◌, ◌++◌, length, take, drop, map, refl, ap, sym, ◌∙◌, subst, arith, T, length-append, length-take, length-drop}
use Rattle.std.specs.Prelude.{Ok, Err}
use Rattle.std.specs.Str.{bytes_eq}
use Rattle.std.specs.List.{AllByRecursion}
use Rattle.std.specs.Cmp.{tied_itself}
use Rattle.std.specs.FinMap.Entries.{is_sorted, below_all}
use Rattle.std.specs.declared.cmp.Ordering.TheVariants.{Less, Equal, Greater}
use Rattle.std.specs.Ordering.{is_eq, ordering_reverse}
use Rattle.std.proofs.lemmas.Cmp.{nat_list_cmp_total}
use Rattle.std.proofs.lemmas.List.Elements.{filter-append}
use Rattle.std.proofs.lemmas.Map.Text.{is_eq-slice_cmp}
use Rattle.sb_node.specs.Entries.{Entry, key_cmp, without}
use Rattle.sb_node.proofs.Placed.{by_order, place_from}
use Rattle.sb_node.proofs.Sizes.{first, second, T_to, is_less}
use Rattle.sb_btree.specs.Removes.{entries_without}
use Rattle.sb_forms.specs.Tree.{Child, child_of}
use Rattle.sb_btree.proofs.Order.{AllLess, AllMore, same_key}
use Rattle.sb_btree.proofs.Splitting.{tail_of, head_of}
use Rattle.sb_btree.proofs.Inserting.{IsAt}

-- which keys stay
abbrev stays : List ℕ → Entry → Bool
stays key e = not (bytes_eq e.0 key)

pub same_bytes : (x : List ℕ) → bytes_eq x x ≡ true
same_bytes x = sym (is_eq-slice_cmp x x) ∙ ap is_eq (tied_itself nat_list_cmp_total x)

pub apart_less : (key x : List ℕ) → key_cmp key x ≡ Greater → not (bytes_eq x key) ≡ true
apart_less key x e = ap not (sym (is_eq-slice_cmp x key) ∙ ap is_eq (nat_list_cmp_total.antisymm x key ∙ ap ordering_reverse e))

pub apart_more : (key x : List ℕ) → key_cmp key x ≡ Less → not (bytes_eq x key) ≡ true
apart_more key x e = ap not (sym (is_eq-slice_cmp x key) ∙ ap is_eq (nat_list_cmp_total.antisymm x key ∙ ap ordering_reverse e))

-- ---- entries with other keys stay
without_kept : (key : List ℕ) (es : List Entry) → AllByRecursion (λ e. not (bytes_eq e.0 key) ≡ true) es → entries_without key es ≡ es
without_kept key [] h = refl
without_kept key (e ∷ es) h = ap (λ b. cond b (e ∷ entries_without key es) (entries_without key es)) h.0 ∙ ap (λ r. e ∷ r) (without_kept key es h.1)

all_less : (key : List ℕ) (es : List Entry) → AllLess key es → AllByRecursion (λ e. not (bytes_eq e.0 key) ≡ true) es
all_less key [] h = tt
all_less key (e ∷ es) h = (apart_less key e.0 h.0, all_less key es h.1)

all_more : (key : List ℕ) (es : List Entry) → AllMore key es → AllByRecursion (λ e. not (bytes_eq e.0 key) ≡ true) es
all_more key [] h = tt
all_more key (e ∷ es) h = (apart_more key e.0 h.0, all_more key es h.1)

pub without_more : (key : List ℕ) (es : List Entry) → AllMore key es → entries_without key es ≡ es
without_more key es h = without_kept key es (all_more key es h)

-- an entry of the part in the middle
pub without_at : (key : List ℕ) → IsAt key (entries_without key)
without_at key xs ms ys less more =
    filter-append (stays key) xs (ms ++ ys)
    ∙ (λ i. without_kept key xs (all_less key xs less) i ++ filter-append (stays key) ms ys i)
    ∙ ap (λ r. xs ++ (entries_without key ms ++ r)) (without_more key ys more)

-- what is so of all entries is so of those that stay
pub without_all : (P : Entry → Type 0) (key : List ℕ) (es : List Entry) → AllByRecursion P es → AllByRecursion P (entries_without key es)
without_all P key [] h = tt
without_all P key (e ∷ es) h = elim (stays key e) as (λ b. AllByRecursion P (cond b (e ∷ entries_without key es) (entries_without key es))) [ true ↦ (h.0, without_all P key es h.1) | false ↦ without_all P key es h.1 ]

-- ---- entries but the one at a place
pub without_later : (j : ℕ) (e : Entry) (es : List Entry) → without (suc j) (e ∷ es) ≡ e ∷ without j es
without_later j e es = let s : suc j + 1 ≡ suc (j + 1) = omega arith in ap (λ k. (e ∷ take j es) ++ drop k (e ∷ es)) s

pub length-without : (j : ℕ) (es : List Entry) → j < length es → length (without j es) + 1 ≡ length es
length-without j es h = omega (arith, length-append (take j es) (drop (j + 1) es), length-take j es, length-drop (j + 1) es)

pub without_every : (P : Entry → Type 0) (j : ℕ) (es : List Entry) → AllByRecursion P es → AllByRecursion P (without j es)
without_every P j [] h = none j
  where
    none : (j : ℕ) → AllByRecursion P (without j [])
    none zero = tt
    none (suc j) = let s : suc j + 1 ≡ suc (j + 1) = omega arith in subst (AllByRecursion P) (sym (ap (λ k. drop {A = Entry} k []) s)) tt
without_every P zero (e ∷ es) h = h.1
without_every P (suc j) (e ∷ es) h = subst (AllByRecursion P) (sym (without_later j e es)) (h.0, without_every P j es h.1)

-- ---- the entry at the key's place is cut out
pub above_all : (key : List ℕ) (es : List Entry) → T (below_all key_cmp key es) → AllMore key es
above_all key [] h = tt
above_all key (e ∷ es) h = (is_less (key_cmp key e.0) (T_to _ (first _ _ h)), above_all key es (second _ _ h))

pub place_after : (key : List ℕ) (i : ℕ) (es : List Entry) (j : ℕ) → place_from key i es ≡ Ok j → i ≤ j
place_after key i [] j e = absurd (cc)
place_after key i (x ∷ es) j e =
    elim (key_cmp key x.0) as (λ o. by_order o (Err i) (Ok i) (place_from key (i + 1) es) ≡ Ok j → i ≤ j) [
      | Less ↦ λ q. absurd (cc)
      | Equal ↦ λ q. let s : i ≡ j = cc in omega arith
      | Greater ↦ λ q. let r = place_after key (i + 1) es j q in omega (arith, r)
    ] e

pub cut_is : (key : List ℕ) (i : ℕ) (es : List Entry) (j : ℕ) → T (is_sorted key_cmp es) → place_from key i es ≡ Ok (i + j) → without j es ≡ entries_without key es
cut_is key i [] j sorted e = absurd (cc)
cut_is key i (x ∷ es) zero sorted e =
    elim (key_cmp key x.0) as (λ o. key_cmp key x.0 ≡ o → by_order o (Err i) (Ok i) (place_from key (i + 1) es) ≡ Ok (i + 0) → without 0 (x ∷ es) ≡ entries_without key (x ∷ es)) [
      | Less ↦ λ is q. absurd (cc)
      | Equal ↦ λ is q.
          let same : x.0 ≡ key = sym (same_key key x.0 is) in
          let rest : entries_without key es ≡ es = without_more key es (above_all key es (subst (λ k. T (below_all key_cmp k es)) same (first _ _ sorted))) in
          sym (ap (λ k. cond (not (bytes_eq k key)) (x ∷ entries_without key es) (entries_without key es)) same ∙ ap (λ b. cond (not b) (x ∷ entries_without key es) (entries_without key es)) (same_bytes key) ∙ rest)
      | Greater ↦ λ is q. let r = place_after key (i + 1) es (i + 0) q in absurd (omega (arith, r))
    ] refl e
cut_is key i (x ∷ es) (suc j) sorted e =
    elim (key_cmp key x.0) as (λ o. key_cmp key x.0 ≡ o → by_order o (Err i) (Ok i) (place_from key (i + 1) es) ≡ Ok (i + suc j) → without (suc j) (x ∷ es) ≡ entries_without key (x ∷ es)) [
      | Less ↦ λ is q. absurd (cc)
      | Equal ↦ λ is q. let s : i ≡ i + suc j = cc in absurd (omega (arith, s))
      | Greater ↦ λ is q.
          let s : i + suc j ≡ i + 1 + j = omega arith in
          let rest = cut_is key (i + 1) es j (second _ _ sorted) (q ∙ ap Ok s) in
          without_later j x es ∙ ap (λ r. x ∷ r) rest ∙ sym (ap (λ b. cond b (x ∷ entries_without key es) (entries_without key es)) (apart_less key x.0 is))
    ] refl e

-- the children without that of an entry
pub children_without : (es : List Entry) (before : List Child) (kid : Child) (after : List Child) (j : ℕ) → map child_of es ≡ before ++ kid ∷ after → length before ≡ j → map child_of (without j es) ≡ before ++ after
children_without [] [] kid after j parts count = absurd (cc)
children_without [] (b ∷ before) kid after j parts count = absurd (cc)
children_without (e ∷ es) [] kid after zero parts count = tail_of (child_of e) kid (map child_of es) after parts
children_without (e ∷ es) [] kid after (suc j) parts count = absurd (omega arith)
children_without (e ∷ es) (b ∷ before) kid after zero parts count = absurd (omega arith)
children_without (e ∷ es) (b ∷ before) kid after (suc j) parts count =
    ap (map child_of) (without_later j e es)
    ∙ (λ i. head_of (child_of e) b (map child_of es) (before ++ kid ∷ after) parts i ∷ children_without es before kid after j (tail_of (child_of e) b (map child_of es) (before ++ kid ∷ after) parts) (omega (arith, count)) i)
