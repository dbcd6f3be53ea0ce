-- What the head of a page counts, and the order of its keys.
use Rattle.std.proofs.Common.{suc, zero, ◌≡◌, ℕ, ◌+◌, ◌≤◌, Bool, true, false, List, [], ◌∷◌, length, Option, Some, None, refl, ap, sym, subst, arith, length-take, length-drop, T, ◌&&◌}
use Rattle.std.specs.FinMap.Entries.{is_sorted, below_all}
use Rattle.std.proofs.lemmas.Bool.{eqb-true}
use Rattle.std.proofs.lemmas.Cmp.{nat_list_cmp_total}
use Rattle.std.proofs.lemmas.List.Sums.{sum_by-cons}
use Rattle.std.specs.Ordering.{is_lt}
use Rattle.std.specs.declared.cmp.Ordering.{Ordering}
use Rattle.std.specs.declared.cmp.Ordering.TheVariants.{Less, Equal, Greater}
use Rattle.sb_bytes.specs.Field.{number_at}
use Rattle.sb_node.specs.Entries.{Entry, key_cmp, is_below, sizes, size_of}
use Rattle.sb_node.specs.Page.{key_at, value_at, after_at, entries_at, is_filled, has_form, head_in, node_in, AreCounted}
use Rattle.sb_node.proofs.Runs.{after_is, steps, is_formed, Runs, Runs-on, Runs-within}

length-key_at : (b : List ℕ) (at : ℕ) → after_at b at ≤ length b → length (key_at b at) ≡ number_at 2 b at
unfolding key_at
length-key_at b at within =
    let is = after_is b at in
    simp (length-take, length-drop) (omega arith)

length-value_at : (b : List ℕ) (at : ℕ) → after_at b at ≤ length b → length (value_at b at) ≡ number_at 2 b (at + 2)
unfolding value_at
length-value_at b at within =
    let is = after_is b at in
    simp (length-take, length-drop) (omega arith)

-- an entry ends as many bytes behind its begin as it takes
pub after_size : (b : List ℕ) (at : ℕ) → after_at b at ≤ length b → after_at b at ≡ at + size_of (key_at b at, value_at b at)
after_size b at within = omega (arith, after_is b at, length-key_at b at within, length-value_at b at within)

pub sizes_are : (b : List ℕ) (end n at : ℕ) → end ≤ length b → Runs b end n at → end ≡ at + sizes (entries_at b n at)
sizes_are b end zero at inside r = omega (arith, eqb-true at end r.run)
sizes_are b end (suc n) at inside r =
    let within = Runs-within b end (suc n) n at refl r in
    let more : sizes (entries_at b (suc n) at) ≡ size_of (key_at b at, value_at b at) + sizes (entries_at b n (after_at b at)) = sum_by-cons size_of (key_at b at, value_at b at) (entries_at b n (after_at b at)) in
    omega (arith, more, after_size b at (omega arith), sizes_are b end n (after_at b at) inside (Runs-on b end (suc n) n at refl r))

pub length-entries_at : (b : List ℕ) (n at : ℕ) → length (entries_at b n at) ≡ n
length-entries_at b zero at = refl
length-entries_at b (suc n) at = ap suc (length-entries_at b n (after_at b at))

-- ---- the keys rise
pub is_less : (o : Ordering) → is_lt o ≡ true → o ≡ Less
is_less Less e = refl
is_less Equal e = absurd (cc)
is_less Greater e = absurd (cc)

pub below_less : (x y : List ℕ) → is_below x y ≡ true → key_cmp x y ≡ Less
unfolding is_below
below_less x y e = is_less (key_cmp x y) e

pub less_below : (x y : List ℕ) → key_cmp x y ≡ Less → is_below x y ≡ true
unfolding is_below
less_below x y e = ap is_lt e

pub T_from : (b : Bool) → b ≡ true → T b
T_from b e = subst T (sym e) tt

pub both : (a b : Bool) → T a → T b → T (a && b)
both true b p q = q
both false b p q = p

pub first : (a b : Bool) → T (a && b) → T a
first true b p = tt
first false b p = p

pub second : (a b : Bool) → T (a && b) → T b
second true b p = p
second false b p = absurd p

pub T_to : (b : Bool) → T b → b ≡ true
T_to true p = refl
T_to false p = absurd p

pub below_more : (x y : List ℕ) (es : List Entry) → key_cmp x y ≡ Less → T (below_all key_cmp y es) → T (below_all key_cmp x es)
below_more x y [] less all = tt
below_more x y (e ∷ es) less all =
    both _ _ (T_from _ (ap is_lt (nat_list_cmp_total.trans x y e.0 less (is_less (key_cmp y e.0) (T_to _ (first _ _ all)))))) (below_more x y es less (second _ _ all))

above_all : (b : List ℕ) (end : ℕ) (x : List ℕ) (n at : ℕ) → is_filled b end (Some x) n at ≡ true → T (below_all key_cmp x (entries_at b n at))
above_all b end x zero at h = tt
above_all b end x (suc n) at h =
    let s = steps b end (Some x) n at h in
    let less = below_less x (key_at b at) s.up in
    both _ _ (T_from _ (ap is_lt less)) (below_more x (key_at b at) (entries_at b n (after_at b at)) less (above_all b end (key_at b at) n (after_at b at) s.rest))

pub keys_rise : (b : List ℕ) (end : ℕ) (last : Option (List ℕ)) (n at : ℕ) → is_filled b end last n at ≡ true → T (is_sorted key_cmp (entries_at b n at))
keys_rise b end last zero at h = tt
keys_rise b end last (suc n) at h =
    let s = steps b end last n at h in
    both _ _ (above_all b end (key_at b at) n (after_at b at) s.rest) (keys_rise b end (Some (key_at b at)) n (after_at b at) s.rest)

-- ---- so the head counts
pub count_is : (b : List ℕ) → length (node_in b).entries ≡ number_at 2 b 2
count_is b = length-entries_at b (number_at 2 b 2) 24

pub used_is : (b : List ℕ) → has_form b ≡ true → number_at 2 b 4 ≡ sizes (node_in b).entries
used_is b form =
    let f = is_formed b form in
    let size : length b ≡ 4096 = f.size in
    let room : number_at 2 b 4 ≤ 4072 = f.room in
    omega (arith, sizes_are b (24 + number_at 2 b 4) (number_at 2 b 2) 24 (omega arith) f.runs)

pub head_counts : AreCounted
unfolding head_in
head_counts b form = record {
  count = sym (count_is b);
  used = used_is b form;
  rising = T_to _ (keys_rise b (24 + number_at 2 b 4) None (number_at 2 b 2) 24 (is_formed b form).run);
}
