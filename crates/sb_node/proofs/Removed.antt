-- A page without one of its entries.
use Rattle.std.proofs.Common.{suc, zero, ◌≡◌, ℕ, ◌+◌, ◌-◌, ◌<◌, ◌≤◌, true, List, ◌∷◌, ◌++◌, length, take, drop, get_or, Option, Some, None, refl, ap, sym, ◌∙◌, subst, arith}
use Rattle.std.specs.Int.{bytes_high_first}
use Rattle.std.specs.List.{CopiedTo, SameBelow}
use Rattle.std.proofs.lemmas.Cmp.{nat_list_cmp_total}
use Rattle.sb_bytes.specs.Field.{number_at}
use Rattle.sb_node.specs.Entries.{is_below, without}
use Rattle.sb_node.specs.Page.{key_at, value_at, after_at, entries_at, is_filled, is_above, has_form, node_in, with_entries, Becomes}
use Rattle.sb_node.specs.Writes.{Wrote, start_at}
use Rattle.sb_node.proofs.Numbers.{number_at-same, number_written}
use Rattle.sb_node.proofs.Runs.{after_above, steps, step_back, Runs, start_above, is_formed, count_short, entry_stands}
use Rattle.sb_node.proofs.Shifted.{Shifted, shifted_key, shifted_value, shifted_after, shifted_entries, shifted_filled}
use Rattle.sb_node.proofs.Sizes.{below_less, less_below}
use Rattle.sb_node.proofs.Edited.{becomes}

above_trans : (last : Option (List ℕ)) (x y : List ℕ) → is_above last x ≡ true → is_below x y ≡ true → is_above last y ≡ true
above_trans None x y p q = refl
above_trans (Some l) x y p q = less_below l y (nat_list_cmp_total.trans l x y (below_less l x p) (below_less x y q))

-- the keys rise from a lesser one on, too
pub from_lesser : (b : List ℕ) (end : ℕ) (last : Option (List ℕ)) (x : List ℕ) (n at : ℕ) → is_above last x ≡ true → is_filled b end (Some x) n at ≡ true → is_filled b end last n at ≡ true
from_lesser b end last x zero at p r = r
from_lesser b end last x (suc n) at p r =
    let s = steps b end (Some x) n at r in
    step_back b end last n at s.within (above_trans last x (key_at b at) p s.up) s.rest

record Removed (b c : List ℕ) (end' i : ℕ) (last : Option (List ℕ)) (m at : ℕ) : Type 0 where
  pub entries : entries_at c m at ≡ take i (entries_at b (suc m) at) ++ drop (suc i) (entries_at b (suc m) at)
  pub run : is_filled c end' last m at ≡ true

module _ (b c : List ℕ) (size end end' x : ℕ) (ends : end' + size ≡ end) (sized : after_at b x ≡ x + size) (front : Shifted b c 0 0 24 x) (behind : Shifted b c 0 size (x + size) end) (inside : x + size ≤ end) where
  removed : (i m at : ℕ) (last : Option (List ℕ)) → i ≤ m → x ≡ start_at b i at → 24 ≤ at → is_filled b end last (suc m) at ≡ true → Removed b c end' i last m at
  removed zero m at last le e l r =
      let here : after_at b at ≡ at + size = ap (after_at b) (sym e) ∙ sized ∙ ap (λ k. k + size) e in
      let s = steps b end last m at r in
      let runs : Runs b end m (after_at b at) = record { last = Some (key_at b at); run = s.rest } in
      record {
        entries = shifted_entries b c 0 size (x + size) end behind end m (after_at b at) at (omega (arith, here)) (omega (arith, here, e)) (omega arith) runs;
        run = shifted_filled b c 0 size (x + size) end behind end end' m (after_at b at) at last (omega (arith, here)) (omega (arith, ends)) (omega (arith, here, e)) (omega arith) runs
            ∙ from_lesser b end last (key_at b at) m (after_at b at) s.up s.rest;
      }
  removed (suc i) zero at last le e l r = absurd (omega arith)
  removed (suc i) (suc m) at last le e l r =
      let abv = after_above b at in
      let on = start_above b i (after_at b at) in
      let in_front : after_at b at ≤ x = omega (arith, e, on) in
      let k = shifted_key b c 0 0 24 x front at at (omega arith) l in_front in
      let v = shifted_value b c 0 0 24 x front at at (omega arith) l in_front in
      let a : after_at c at ≡ after_at b at = omega (arith, shifted_after b c 0 0 24 x front at at (omega arith) l (omega (arith, abv, in_front))) in
      let s = steps b end last (suc m) at r in
      let deep = removed i m (after_at b at) (Some (key_at b at)) (omega arith) e (omega (arith, abv)) s.rest in
      record {
        entries = (λ t. (k t, v t) ∷ entries_at c m (a t)) ∙ ap (λ es. (key_at b at, value_at b at) ∷ es) deep.entries;
        run =
            step_back c end' last m at (omega (arith, a, in_front, inside, ends)) (ap (is_above last) k ∙ s.up)
            ((λ t. is_filled c end' (Some (k t)) m (a t)) ∙ deep.run);
      }

-- the bytes behind the entry go back to its begin, and count and bytes in use are lowered
pub cut_out : (b b₁ b₂ b₃ : List ℕ) (i x y count used : ℕ) → has_form b ≡ true → i < number_at 2 b 2 → x ≡ start_at b i 24 → y ≡ after_at b x
    → count ≡ number_at 2 b 2 → used ≡ number_at 2 b 4
    → length b₁ ≡ length b → CopiedTo b b₁ y x (24 + used - y) → SameBelow b b₁ x
    → Wrote b₁ b₂ 2 (bytes_high_first 2 (count - 1)) → Wrote b₂ b₃ 4 (bytes_high_first 2 (used - (y - x)))
    → Becomes b b₃ (with_entries (without i (node_in b).entries) (node_in b))
cut_out b b₁ b₂ b₃ i x y count used form lt start end is_count is_used len copied below w₂ w₃ =
    let size_b : length b ≡ 4096 = (is_formed b form).size in
    let room : number_at 2 b 4 ≤ 4072 = (is_formed b form).room in
    let low = start_above b i 24 in
    let up : x + 4 ≤ y = omega (arith, end, after_above b x) in
    let e : y ≡ x + (y - x) = omega arith in
    let inside : y ≤ 24 + number_at 2 b 4 = omega (arith, end, ap (after_at b) start, (entry_stands b i form lt).end) in
    let long : length b₃ ≡ length b = w₃.len ∙ w₂.len ∙ len in
    let front : Shifted b b₃ 0 0 24 x = record {
      agree = λ j k l h e. let s : k ≡ j = omega arith in ap (λ n. get_or b₃ n 0) s ∙ w₃.above j (omega (arith, l)) ∙ w₂.above j (omega (arith, l)) ∙ below j 0 h;
      inb = omega (arith, inside);
      inc = λ k e. omega (arith, inside, long);
    } in
    let behind : Shifted b b₃ 0 (y - x) (x + (y - x)) (24 + number_at 2 b 4) = record {
      agree = λ j k l h e. let s : y + (k - x) ≡ j = omega arith in w₃.above k (omega (arith, low, start)) ∙ w₂.above k (omega (arith, low, start)) ∙ copied k 0 (omega arith) (omega arith) ∙ ap (λ n. get_or b n 0) s;
      inb = omega arith;
      inc = λ k e. omega (arith, long);
    } in
    let more : number_at 2 b 2 ≡ suc (count - 1) = omega arith in
    let done =
    removed b b₃ (y - x) (24 + number_at 2 b 4) (24 + (used - (y - x))) x (omega (arith, low, start)) (sym end ∙ e) front behind (omega arith) i (count - 1) 24 None (omega arith) start (omega arith)
    (subst (λ k. is_filled b (24 + number_at 2 b 4) None k 24 ≡ true) more (is_formed b form).run) in
    let c2 : number_at 2 b₃ 2 ≡ count - 1 = number_at-same 2 2 2 b₂ b₃ (λ k lt. w₃.below (2 + k) (omega arith)) ∙ number_written 2 2 (count - 1) b₁ b₂ (omega (arith, count_short b form)) w₂ in
    let c4 : number_at 2 b₃ 4 ≡ used - (y - x) = number_written 2 4 (used - (y - x)) b₂ b₃ (omega arith) w₃ in
    let next : suc i ≡ i + 1 = omega arith in
    becomes b b₃ (without i (node_in b).entries) long (long ∙ size_b) (omega (arith, c4))
    ((λ t. is_filled b₃ (24 + c4 t) None (c2 t) 24) ∙ done.run)
    (ap (λ n. entries_at b₃ n 24) c2 ∙ done.entries ∙ ap (λ k. take i (entries_at b k 24) ++ drop (suc i) (entries_at b k 24)) (sym more) ∙ ap (λ k. take i (node_in b).entries ++ drop k (node_in b).entries) next)
    (record {
      kind = w₃.below 0 (omega arith) ∙ w₂.below 0 (omega arith) ∙ below 0 0 (omega (arith, low, start));
      level = w₃.below 1 (omega arith) ∙ w₂.below 1 (omega arith) ∙ below 1 0 (omega (arith, low, start));
      rest = λ j l h. w₃.above j (omega (arith, l)) ∙ w₂.above j (omega (arith, l)) ∙ below j 0 (omega (arith, low, start, h));
    })
