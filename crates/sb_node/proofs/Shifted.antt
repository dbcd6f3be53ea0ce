-- Entries whose bytes stand at another place.
use Rattle.std.proofs.Common.{suc, zero, ◌≡◌, ℕ, ◌+◌, ◌-◌, ◌<◌, ◌≤◌, not, ◌&&◌, List, ◌∷◌, length, take, drop, get_or, Option, Some, refl, ap, sym, ◌∙◌, subst, arith, length-take, length-drop}
use Rattle.std.specs.Prelude.{nat_eq, nat_lt}
use Rattle.std.proofs.lemmas.List.{ext_get_or, get_or-take, get_or-drop}
use Rattle.std.proofs.lemmas.Bool.Decides.{nat_tests}
use Rattle.sb_bytes.specs.Field.{number_at}
use Rattle.sb_node.specs.Page.{key_at, value_at, after_at, entries_at, is_filled, is_above}
use Rattle.sb_node.proofs.Numbers.{number_at-same}
use Rattle.sb_node.proofs.Runs.{after_above, after_is, Runs, Runs-within, Runs-on}

-- the byte of b at j stands in c at i, where i + e ≡ j + d, for j from lo up to hi
pub record Shifted (b c : List ℕ) (d e lo hi : ℕ) : Type 0 where
  pub agree : (j i : ℕ) → lo ≤ j → j < hi → i + e ≡ j + d → get_or c i 0 ≡ get_or b j 0
  pub inb : hi ≤ length b
  pub inc : (i : ℕ) → i + e ≡ hi + d → i ≤ length c

module _ (b c : List ℕ) (d e lo hi : ℕ) (m : Shifted b c d e lo hi) where
  shifted_number : (at to : ℕ) → to + e ≡ at + d → lo ≤ at → at + 1 < hi → number_at 2 c to ≡ number_at 2 b at
  shifted_number at to q l h = number_at-same 2 at to b c (λ k lt. m.agree (at + k) (to + k) (omega arith) (omega arith) (omega arith))

  pub shifted_after : (at to : ℕ) → to + e ≡ at + d → lo ≤ at → at + 3 < hi → after_at c to + e ≡ after_at b at + d
  shifted_after at to q l h =
      let one = shifted_number at to q l (omega arith) in
      let two = shifted_number (at + 2) (to + 2) (omega arith) (omega arith) (omega arith) in
      omega (arith, one, two, q, after_is b at, after_is c to)

  shifted_slice : (at to n : ℕ) → to + e ≡ at + d → lo ≤ at → at + n ≤ hi → take n (drop to c) ≡ take n (drop at b)
  shifted_slice at to n q l h =
      let inb : hi ≤ length b = m.inb in
      let inc : to + n ≤ length c = in_c in
      let lc : length (take n (drop to c)) ≡ n = simp (length-take, length-drop) (omega arith) in
      let lb : length (take n (drop at b)) ≡ n = simp (length-take, length-drop) (omega arith) in
      ext_get_or 0 (take n (drop to c)) (take n (drop at b)) (lc ∙ sym lb) (λ i lt. same i (subst (λ k. i < k) lc lt))
    where
      in_c : to + n ≤ length c
      in_c = let r = m.inc (to + n + (hi - (at + n))) (omega arith) in omega (arith, r)

      same : (i : ℕ) → i < n → get_or (take n (drop to c)) i 0 ≡ get_or (take n (drop at b)) i 0
      same i lt =
          get_or-take n (drop to c) i 0 lt ∙ get_or-drop to c i 0 ∙ m.agree (at + i) (to + i) (omega arith) (omega arith) (omega arith)
          ∙ sym (get_or-take n (drop at b) i 0 lt ∙ get_or-drop at b i 0)

  pub shifted_key : (at to : ℕ) → to + e ≡ at + d → lo ≤ at → after_at b at ≤ hi → key_at c to ≡ key_at b at
  unfolding key_at
  shifted_key at to q l h =
      let is = after_is b at in
      let n = shifted_number at to q l (omega (arith, is)) in
      ap (λ k. take k (drop (to + 4) c)) n ∙ shifted_slice (at + 4) (to + 4) (number_at 2 b at) (omega arith) (omega arith) (omega (arith, is))

  pub shifted_value : (at to : ℕ) → to + e ≡ at + d → lo ≤ at → after_at b at ≤ hi → value_at c to ≡ value_at b at
  unfolding value_at
  shifted_value at to q l h =
      let is = after_is b at in
      let n = shifted_number at to q l (omega (arith, is)) in
      let v = shifted_number (at + 2) (to + 2) (omega arith) (omega arith) (omega (arith, is)) in
      (λ i. take (v i) (drop (to + 4 + n i) c))
      ∙ shifted_slice (at + 4 + number_at 2 b at) (to + 4 + number_at 2 b at) (number_at 2 b (at + 2)) (omega arith) (omega arith) (omega (arith, is))

  pub shifted_entries : (end n at to : ℕ) → to + e ≡ at + d → lo ≤ at → end ≤ hi → Runs b end n at → entries_at c n to ≡ entries_at b n at
  shifted_entries end zero at to q l h r = refl
  shifted_entries end (suc n) at to q l h r =
      let w = Runs-within b end (suc n) n at refl r in
      let up = after_above b at in
      let k = shifted_key at to q l (omega (arith, w)) in
      let v = shifted_value at to q l (omega (arith, w)) in
      let a = shifted_after at to q l (omega (arith, w, up)) in
      (λ i. (k i, v i) ∷ shifted_entries end n (after_at b at) (after_at c to) a (omega (arith, up)) h (Runs-on b end (suc n) n at refl r) i)

  pub shifted_filled : (end end' n at to : ℕ) (last : Option (List ℕ)) → to + e ≡ at + d → end' + e ≡ end + d → lo ≤ at → end ≤ hi → Runs b end n at
      → is_filled c end' last n to ≡ is_filled b end last n at
  shifted_filled end end' zero at to last q f l h r = ended
    where
      ended : nat_eq to end' ≡ nat_eq at end
      ended = grind (arith, nat_tests)
  shifted_filled end end' (suc n) at to last q f l h r =
      let w = Runs-within b end (suc n) n at refl r in
      let up = after_above b at in
      let k = shifted_key at to q l (omega (arith, w)) in
      let a = shifted_after at to q l (omega (arith, w, up)) in
      (λ i. not (past (after_at c to) (after_at b at) a i) && (is_above last (k i) && is_filled c end' (Some (k i)) n (after_at c to)))
      ∙ ap (λ t. not (nat_lt end (after_at b at)) && (is_above last (key_at b at) && t))
      (shifted_filled end end' n (after_at b at) (after_at c to) (Some (key_at b at)) a f (omega (arith, up)) h (Runs-on b end (suc n) n at refl r))
    where
      past : (x y : ℕ) → x + e ≡ y + d → nat_lt end' x ≡ nat_lt end y
      past x y g = grind (arith, nat_tests)
