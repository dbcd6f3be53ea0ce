-- The entries of a page in two parts.
use Rattle.std.proofs.Common.{suc, zero, ◌≡◌, ℕ, ◌+◌, ◌-◌, ◌≤◌, true, List, ◌∷◌, length, take, drop, get_or, Option, Some, None, refl, ap, sym, ◌∙◌, subst, arith, length-take, length-drop}
use Rattle.std.proofs.lemmas.List.{get_or-take, get_or-drop}
use Rattle.std.specs.Int.{bytes_high_first}
use Rattle.std.proofs.lemmas.Bool.{eq-eqb}
use Rattle.sb_bytes.specs.Field.{number_at}
use Rattle.sb_node.specs.Page.{key_at, value_at, after_at, entries_at, is_filled, has_form, node_in, with_entries, Becomes}
use Rattle.sb_node.specs.Writes.{Wrote, start_at}
use Rattle.sb_node.proofs.Numbers.{number_at-same, number_written}
use Rattle.sb_node.proofs.Runs.{steps, step_back, from_none, Runs, Runs-from, start_above, is_formed, count_short}
use Rattle.sb_node.proofs.Shifted.{Shifted, shifted_entries, shifted_filled}
use Rattle.sb_node.proofs.Edited.{becomes}

-- ---- the walk in two parts
front_filled : (b : List ℕ) (end : ℕ) (last : Option (List ℕ)) (i m at : ℕ) → is_filled b end last (i + m) at ≡ true → is_filled b (start_at b i at) last i at ≡ true
front_filled b end last zero m at h = eq-eqb at at refl
front_filled b end last (suc i) m at h =
    let more : suc i + m ≡ suc (i + m) = omega arith in
    let s = steps b end last (i + m) at (subst (λ k. is_filled b end last k at ≡ true) more h) in
    step_back b (start_at b i (after_at b at)) last i at (start_above b i (after_at b at)) s.up (front_filled b end (Some (key_at b at)) i m (after_at b at) s.rest)

take-entries : (b : List ℕ) (i m at : ℕ) → entries_at b i at ≡ take i (entries_at b (i + m) at)
take-entries b zero m at = refl
take-entries b (suc i) m at =
    let more : suc i + m ≡ suc (i + m) = omega arith in
    ap (λ es. (key_at b at, value_at b at) ∷ es) (take-entries b i m (after_at b at)) ∙ ap (λ k. take (suc i) (entries_at b k at)) (sym more)

drop-entries : (b : List ℕ) (i m at : ℕ) → entries_at b m (start_at b i at) ≡ drop i (entries_at b (i + m) at)
drop-entries b zero m at = let none : 0 + m ≡ m = omega arith in ap (λ k. entries_at b k at) (sym none)
drop-entries b (suc i) m at =
    let more : suc i + m ≡ suc (i + m) = omega arith in
    drop-entries b i m (after_at b at) ∙ ap (λ k. drop (suc i) (entries_at b k at)) (sym more)

-- ---- count and bytes in use are those of the first entries
pub front_kept : (b b₁ b₂ : List ℕ) (i at : ℕ) → has_form b ≡ true → i ≤ number_at 2 b 2 → at ≡ start_at b i 24 → at ≤ 24 + number_at 2 b 4
    → Wrote b b₁ 2 (bytes_high_first 2 i) → Wrote b₁ b₂ 4 (bytes_high_first 2 (at - 24))
    → Becomes b b₂ (with_entries (take i (node_in b).entries) (node_in b))
front_kept b b₁ b₂ i at form le start inside w₁ w₂ =
    let size_b : length b ≡ 4096 = (is_formed b form).size in
    let room : number_at 2 b 4 ≤ 4072 = (is_formed b form).room in
    let low = start_above b i 24 in
    let long : length b₂ ≡ length b = w₂.len ∙ w₁.len in
    let count : number_at 2 b 2 ≡ i + (number_at 2 b 2 - i) = omega arith in
    let filled = front_filled b (24 + number_at 2 b 4) None i (number_at 2 b 2 - i) 24 (subst (λ k. is_filled b (24 + number_at 2 b 4) None k 24 ≡ true) count (is_formed b form).run) in
    let runs : Runs b (start_at b i 24) i 24 = record { last = None; run = filled } in
    let same : Shifted b b₂ 0 0 24 at = record {
      agree = λ j k l h e. let s : k ≡ j = omega arith in ap (λ n. get_or b₂ n 0) s ∙ w₂.above j (omega (arith, l)) ∙ w₁.above j (omega (arith, l));
      inb = omega arith;
      inc = λ k e. omega (arith, long);
    } in
    let c2 : number_at 2 b₂ 2 ≡ i = number_at-same 2 2 2 b₁ b₂ (λ k lt. w₂.below (2 + k) (omega arith)) ∙ number_written 2 2 i b b₁ (omega (arith, count_short b form)) w₁ in
    let c4 : number_at 2 b₂ 4 ≡ at - 24 = number_written 2 4 (at - 24) b₁ b₂ (omega arith) w₂ in
    let end : 24 + number_at 2 b₂ 4 ≡ start_at b i 24 = omega (arith, c4, low, start) in
    becomes b b₂ (take i (node_in b).entries) long (long ∙ size_b) (omega (arith, c4))
    ((λ t. is_filled b₂ (end t) None (c2 t) 24) ∙ shifted_filled b b₂ 0 0 24 at same (start_at b i 24) (start_at b i 24) i 24 24 None (omega arith) (omega arith) (omega arith) (omega (arith, start)) runs ∙ filled)
    (ap (λ n. entries_at b₂ n 24) c2 ∙ shifted_entries b b₂ 0 0 24 at same (start_at b i 24) i 24 24 (omega arith) (omega arith) (omega (arith, start)) runs
    ∙ take-entries b i (number_at 2 b 2 - i) 24 ∙ ap (λ k. take i (entries_at b k 24)) (sym count))
    (record {
      kind = w₂.below 0 (omega arith) ∙ w₁.below 0 (omega arith);
      level = w₂.below 1 (omega arith) ∙ w₁.below 1 (omega arith);
      rest = λ j l h. w₂.above j (omega (arith, l)) ∙ w₁.above j (omega (arith, l));
    })

-- ---- the bytes of the other entries stand on another page, which counts them
pub tail_moved : (b o o₁ o₂ o₃ : List ℕ) (i at count used : ℕ) → has_form b ≡ true → i ≤ number_at 2 b 2 → at ≡ start_at b i 24 → at ≤ 24 + number_at 2 b 4
    → length o ≡ 4096 → count ≡ number_at 2 b 2 - i → used ≡ 24 + number_at 2 b 4 - at
    → Wrote o o₁ 24 (take used (drop at b)) → Wrote o₁ o₂ 2 (bytes_high_first 2 count) → Wrote o₂ o₃ 4 (bytes_high_first 2 used)
    → Becomes o o₃ (with_entries (drop i (node_in b).entries) (node_in o))
tail_moved b o o₁ o₂ o₃ i at count used form le start inside size_o is_count is_used w₁ w₂ w₃ =
    let size_b : length b ≡ 4096 = (is_formed b form).size in
    let room : number_at 2 b 4 ≤ 4072 = (is_formed b form).room in
    let low = start_above b i 24 in
    let tail_long : length (take used (drop at b)) ≡ used = simp (length-take, length-drop) (omega arith) in
    let long : length o₃ ≡ length o = w₃.len ∙ w₂.len ∙ w₁.len in
    let all : number_at 2 b 2 ≡ i + count = omega arith in
    let runs : Runs b (24 + number_at 2 b 4) count at =
    subst (λ k. Runs b (24 + number_at 2 b 4) count k) (sym start) (Runs-from b (24 + number_at 2 b 4) i count 24 (subst (λ k. Runs b (24 + number_at 2 b 4) k 24) all (is_formed b form).runs)) in
    let moved : Shifted b o₃ 24 at at (24 + number_at 2 b 4) = record {
      agree = λ j k l h e.
          let s : k ≡ 24 + (j - at) = omega arith in
          let t : at + (j - at) ≡ j = omega arith in
          w₃.above k (omega (arith, s)) ∙ w₂.above k (omega (arith, s)) ∙ ap (λ n. get_or o₁ n 0) s ∙ w₁.here (j - at) (omega (arith, tail_long)) ∙ get_or-take used (drop at b) (j - at) 0 (omega arith) ∙ get_or-drop at b (j - at) 0 ∙ ap (λ n. get_or b n 0) t;
      inb = omega arith;
      inc = λ k e. omega (arith, long);
    } in
    let c2 : number_at 2 o₃ 2 ≡ count = number_at-same 2 2 2 o₂ o₃ (λ k lt. w₃.below (2 + k) (omega arith)) ∙ number_written 2 2 count o₁ o₂ (omega (arith, count_short b form)) w₂ in
    let c4 : number_at 2 o₃ 4 ≡ used = number_written 2 4 used o₂ o₃ (omega arith) w₃ in
    becomes o o₃ (drop i (node_in b).entries) long (long ∙ size_o) (omega (arith, c4, low, start))
    ((λ t. is_filled o₃ (24 + c4 t) None (c2 t) 24)
    ∙ shifted_filled b o₃ 24 at at (24 + number_at 2 b 4) moved (24 + number_at 2 b 4) (24 + used) count at 24 None (omega arith) (omega arith) (omega arith) (omega arith) runs
    ∙ from_none b (24 + number_at 2 b 4) runs.last count at runs.run)
    (ap (λ n. entries_at o₃ n 24) c2 ∙ shifted_entries b o₃ 24 at at (24 + number_at 2 b 4) moved (24 + number_at 2 b 4) count at 24 (omega arith) (omega arith) (omega arith) runs
    ∙ ap (entries_at b count) start ∙ drop-entries b i count 24 ∙ ap (λ k. drop i (entries_at b k 24)) (sym all))
    (record {
      kind = w₃.below 0 (omega arith) ∙ w₂.below 0 (omega arith) ∙ w₁.below 0 (omega arith);
      level = w₃.below 1 (omega arith) ∙ w₂.below 1 (omega arith) ∙ w₁.below 1 (omega arith);
      rest = λ j l h. w₃.above j (omega (arith, l)) ∙ w₂.above j (omega (arith, l)) ∙ w₁.below j h;
    })
