-- A slot that the entries of a page haven't.
use Rattle.std.proofs.Common.{◌≡◌, ℕ, ◌+◌, ◌<◌, ◌≤◌, Bool, true, false, cond, List, [], ◌∷◌, length, Some, None, refl, ap, sym, ◌∙◌, arith, inl, inr, ◌⊎◌, ◌==◌, eqb-true}
use Rattle.std.specs.Int.{bytes_high_first}
use Rattle.std.specs.Str.{bytes_eq}
use Rattle.std.specs.Cmp.{nat_cmp_is}
use Rattle.std.specs.Ordering.{is_eq, is_lt, ordering_then, ordering_reverse}
use Rattle.std.specs.declared.cmp.Ordering.TheVariants.{Less, Equal}
use Rattle.std.specs.FinMap.Entries.{is_sorted, below_all, find}
use Rattle.std.proofs.lemmas.Bool.{and_parts, eqb-false}
use Rattle.std.proofs.lemmas.Cmp.{nat_list_cmp_total}
use Rattle.sb_bytes.proofs.Fronts.{slice_cmp-fronts}
use Rattle.sb_value.specs.Equal.{bytes_same}
use Rattle.sb_node.specs.Entries.{Entry, key_cmp}
use Rattle.sb_node.proofs.Sizes.{is_less}
use Rattle.sb_heap.specs.Slots.{free_from}
use Rattle.sb_heap.proofs.Slots.{tie}

abbrev slot_of : ℕ → List ℕ
slot_of s = bytes_high_first 2 s

slots_rise : (m n : ℕ) → m < n → n < 65536 → key_cmp (slot_of m) (slot_of n) ≡ Less
slots_rise m n less low = slice_cmp-fronts 2 m n [] [] (omega (arith, less, low)) (omega (arith, low)) ∙ ap (λ o. ordering_then o Equal) (sym (nat_cmp_is m n Less less))

free_grows : (s : ℕ) (es : List Entry) → s ≤ free_from s es
free_grows s [] = omega arith
free_grows s (e ∷ es) = by (bytes_eq e.0 (slot_of s)) (free_grows (s + 1) es) (free_grows s es)
  where
    by : (b : Bool) → s + 1 ≤ free_from (s + 1) es → s ≤ free_from s es → s ≤ free_from (cond b (s + 1) s) es
    by true more same = omega (arith, more)
    by false more same = same

free_few : (s : ℕ) (es : List Entry) → free_from s es ≤ s + length es
free_few s [] = omega arith
free_few s (e ∷ es) = by (bytes_eq e.0 (slot_of s)) (free_few (s + 1) es) (free_few s es)
  where
    by : (b : Bool) → free_from (s + 1) es ≤ s + 1 + length es → free_from s es ≤ s + length es → free_from (cond b (s + 1) s) es ≤ s + length (e ∷ es)
    by true more same = omega (arith, more)
    by false more same = omega (arith, same)

-- where it isn't this slot, this one is among the entries, and above those before them
stays_or_above : (k : List ℕ) (s : ℕ) (es : List Entry) → below_all key_cmp k es ≡ true → (free_from s es ≡ s) ⊎ (key_cmp k (slot_of s) ≡ Less)
stays_or_above k s [] below = inl refl
stays_or_above k s (e ∷ es) below =
    let parts = and_parts (is_lt (key_cmp k e.0)) (below_all key_cmp k es) below in
    by (bytes_eq e.0 (slot_of s)) refl (is_less (key_cmp k e.0) parts.0) (stays_or_above k s es parts.1)
  where
    by : (b : Bool) → bytes_eq e.0 (slot_of s) ≡ b → key_cmp k e.0 ≡ Less → (free_from s es ≡ s) ⊎ (key_cmp k (slot_of s) ≡ Less) → (free_from (cond b (s + 1) s) es ≡ s) ⊎ (key_cmp k (slot_of s) ≡ Less)
    by true same less rest = inr (ap (key_cmp k) (sym ((bytes_same e.0 (slot_of s)).0 same)) ∙ less)
    by false other less rest = rest

apart : (t k : List ℕ) → key_cmp k t ≡ Less → is_eq (key_cmp t k) ≡ false
apart t k less = ap is_eq (nat_list_cmp_total.antisymm t k ∙ ap ordering_reverse less)

pub free_none : (s : ℕ) (es : List Entry) → is_sorted key_cmp es ≡ true → s + length es < 65536 → find key_cmp (slot_of (free_from s es)) es ≡ None
free_none s [] sorted few = refl
free_none s (e ∷ es) sorted few =
    let parts = and_parts (below_all key_cmp e.0 es) (is_sorted key_cmp es) sorted in
    by (bytes_eq e.0 (slot_of s)) refl (free_none (s + 1) es parts.1 (omega (arith, few))) (free_none s es parts.1 (omega (arith, few))) (stays_or_above e.0 s es parts.0)
  where
    step : (t : ℕ) → is_eq (key_cmp (slot_of t) e.0) ≡ false → find key_cmp (slot_of t) es ≡ None → find key_cmp (slot_of t) (e ∷ es) ≡ None
    step t other rest = ap (λ b. cond b (Some e.1) (find key_cmp (slot_of t) es)) other ∙ rest

    by : (b : Bool) → bytes_eq e.0 (slot_of s) ≡ b → find key_cmp (slot_of (free_from (s + 1) es)) es ≡ None → find key_cmp (slot_of (free_from s es)) es ≡ None → (free_from s es ≡ s) ⊎ (key_cmp e.0 (slot_of s) ≡ Less)
        → find key_cmp (slot_of (free_from (cond b (s + 1) s) es)) (e ∷ es) ≡ None
    by true same more rest either =
        step (free_from (s + 1) es) (apart (slot_of (free_from (s + 1) es)) e.0 (ap (λ k. key_cmp k (slot_of (free_from (s + 1) es))) ((bytes_same e.0 (slot_of s)).0 same)
        ∙ slots_rise s (free_from (s + 1) es) (omega (arith, free_grows (s + 1) es)) (omega (arith, free_few (s + 1) es, few)))) more
    by false other more rest either = step (free_from s es) (differs (free_from s es) either (free_grows s es) (omega (arith, free_few s es, few))) rest
      where
        differs : (t : ℕ) → (t ≡ s) ⊎ (key_cmp e.0 (slot_of s) ≡ Less) → s ≤ t → t < 65536 → is_eq (key_cmp (slot_of t) e.0) ≡ false
        differs t (inl is) from low = ap (λ m. is_eq (key_cmp (slot_of m) e.0)) is ∙ tie (slot_of s) e.0 ∙ other
        differs t (inr less) from low = above (s == t) refl
          where
            above : (b : Bool) → (s == t) ≡ b → is_eq (key_cmp (slot_of t) e.0) ≡ false
            above true same = ap (λ m. is_eq (key_cmp (slot_of m) e.0)) (sym (eqb-true s t same)) ∙ tie (slot_of s) e.0 ∙ other
            above false apart_is = apart (slot_of t) e.0 (nat_list_cmp_total.trans e.0 (slot_of s) (slot_of t) less (slots_rise s t (omega (arith, from, eqb-false s t apart_is)) low))
