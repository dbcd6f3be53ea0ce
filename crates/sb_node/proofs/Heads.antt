-- The head of a page is written, or that of a new one.
use Rattle.std.proofs.Common.{◌≡◌, ℕ, ◌+◌, ◌^◌, ◌<◌, ◌≤◌, true, List, [], ◌∷◌, length, get_or, None, ap, sym, ◌∙◌, arith}
use Rattle.std.specs.Prelude.{slice_set}
use Rattle.std.proofs.lemmas.List.{length-set, get_or-set_same, get_or-set_other}
use Rattle.std.specs.Int.{bytes_high_first}
use Rattle.sb_bytes.specs.Field.{number_at, with_number}
use Rattle.sb_node.specs.Page.{entries_at, is_filled, has_form, head_in, node_in, with_head, empty_node, Becomes}
use Rattle.sb_node.specs.declared.head.Head.{Head}
use Rattle.sb_node.specs.Writes.{Wrote, HasFields}
use Rattle.sb_node.proofs.Numbers.{number_at-same, number_written, wrote_number}
use Rattle.sb_node.proofs.Runs.{is_formed, formed}
use Rattle.sb_node.proofs.Shifted.{Shifted, shifted_entries, shifted_filled}
use Rattle.sb_node.proofs.Edited.{same_spare}

-- the head of a page is written, but for count and bytes in use
pub headed : (b c : List ℕ) (head : Head) → has_form b ≡ true → HasFields b c head → Becomes b c (with_head head (node_in b))
unfolding head_in
headed b c head form h =
    let size_b : length b ≡ 4096 = (is_formed b form).size in
    let room : number_at 2 b 4 ≤ 4072 = (is_formed b form).room in
    let long : length c ≡ length b = h.len in
    let same : Shifted b c 0 0 24 (24 + number_at 2 b 4) = record {
      agree = λ j k l lt e. let s : k ≡ j = omega arith in ap (λ n. get_or c n 0) s ∙ h.behind j (omega arith);
      inb = omega arith;
      inc = λ k e. omega (arith, long);
    } in
    let c2 : number_at 2 c 2 ≡ number_at 2 b 2 = number_at-same 2 2 2 b c (λ k lt. h.between (2 + k) (omega arith) (omega arith)) in
    let c4 : number_at 2 c 4 ≡ number_at 2 b 4 = number_at-same 2 4 4 b c (λ k lt. h.between (4 + k) (omega arith) (omega arith)) in
    let runs = (is_formed b form).runs in
    let filled : is_filled c (24 + number_at 2 c 4) None (number_at 2 c 2) 24 ≡ true =
    (λ t. is_filled c (24 + c4 t) None (c2 t) 24)
    ∙ shifted_filled b c 0 0 24 (24 + number_at 2 b 4) same (24 + number_at 2 b 4) (24 + number_at 2 b 4) (number_at 2 b 2) 24 24 None (omega arith) (omega arith) (omega arith) (omega arith) runs
    ∙ (is_formed b form).run in
    let entries : entries_at c (number_at 2 c 2) 24 ≡ entries_at b (number_at 2 b 2) 24 =
    ap (λ n. entries_at c n 24) c2 ∙ shifted_entries b c 0 0 24 (24 + number_at 2 b 4) same (24 + number_at 2 b 4) (number_at 2 b 2) 24 24 (omega arith) (omega arith) (omega arith) runs in
    record {
      form = sym (formed c (long ∙ size_b) (omega (arith, c4))) ∙ filled;
      node_is = (λ t. record { head = record { kind = h.kind_is t; level = h.level_is t; count = c2 t; used = c4 t; a = h.a_is t; b = h.b_is t; c = h.c_is t }; entries = entries t });
      spare_kept = same_spare b c long (λ j l lt. h.behind j l);
    }

-- any bytes of this length become a page without entries
pub emptied : (b b₁ b₂ b₃ : List ℕ) (kind level : ℕ) → length b ≡ 4096 → HasFields b b₁ (empty_node kind level).head
    → Wrote b₁ b₂ 2 (bytes_high_first 2 0) → Wrote b₂ b₃ 4 (bytes_high_first 2 0) → Becomes b b₃ (empty_node kind level)
unfolding head_in
emptied b b₁ b₂ b₃ kind level size h w₂ w₃ =
    let long : length b₃ ≡ length b = w₃.len ∙ w₂.len ∙ h.len in
    let c2 : number_at 2 b₃ 2 ≡ 0 = number_at-same 2 2 2 b₂ b₃ (λ k lt. w₃.below (2 + k) (omega arith)) ∙ number_written 2 2 0 b₁ b₂ (omega arith) w₂ in
    let c4 : number_at 2 b₃ 4 ≡ 0 = number_written 2 4 0 b₂ b₃ (omega arith) w₃ in
    let filled : is_filled b₃ (24 + number_at 2 b₃ 4) None (number_at 2 b₃ 2) 24 ≡ true = (λ t. is_filled b₃ (24 + c4 t) None (c2 t) 24) in
    let kind_is = w₃.below 0 (omega arith) ∙ w₂.below 0 (omega arith) ∙ h.kind_is in
    let level_is = w₃.below 1 (omega arith) ∙ w₂.below 1 (omega arith) ∙ h.level_is in
    let a_is = later 6 (omega arith) ∙ h.a_is in
    let b_is = later 10 (omega arith) ∙ h.b_is in
    let c_is = later 14 (omega arith) ∙ h.c_is in
    record {
      form = sym (formed b₃ (long ∙ size) (omega (arith, c4))) ∙ filled;
      node_is = (λ t. record { head = record { kind = kind_is t; level = level_is t; count = c2 t; used = c4 t; a = a_is t; b = b_is t; c = c_is t }; entries = entries_at b₃ (c2 t) 24 });
      spare_kept = same_spare b b₃ long (λ j l lt. w₃.above j (omega (arith, l)) ∙ w₂.above j (omega (arith, l)) ∙ h.behind j l);
    }
  where
    later : (at : ℕ) → 6 ≤ at → number_at 4 b₃ at ≡ number_at 4 b₁ at
    later at le = number_at-same 4 at at b₁ b₃ (λ k lt. w₃.above (at + k) (omega (arith, le)) ∙ w₂.above (at + k) (omega (arith, le)))

-- a byte is written
wrote_byte : (b : List ℕ) (i v : ℕ) → i < length b → Wrote b (slice_set b i v) i (v ∷ [])
wrote_byte b i v inside = record {
  len = length-set b i v;
  here = λ j lt. let none : j ≡ 0 = omega arith in let same : i + j ≡ i = omega arith in ap (λ k. get_or (slice_set b i v) k 0) same ∙ get_or-set_same b i v 0 inside ∙ ap (λ k. get_or (v ∷ []) k 0) (sym none);
  below = λ j lt. get_or-set_other b i j v 0 (λ same. absurd (omega arith));
  above = λ j le. get_or-set_other b i j v 0 (λ same. absurd (omega arith));
}

-- five writes write the fields
pub fields_written : (b b₁ b₂ b₃ : List ℕ) (head : Head) → 18 ≤ length b → head.a < 2 ^ 32 → head.b < 2 ^ 32 → head.c < 2 ^ 32
    → b₁ ≡ with_number 4 (slice_set (slice_set b 0 head.kind) 1 head.level) 6 head.a → b₂ ≡ with_number 4 b₁ 10 head.b → b₃ ≡ with_number 4 b₂ 14 head.c
    → HasFields b b₃ head
fields_written b b₁ b₂ b₃ head room a_fits b_fits c_fits a_put b_put c_put =
    let w₀ = wrote_byte b 0 head.kind (omega arith) in
    let w₁ = wrote_byte (slice_set b 0 head.kind) 1 head.level (omega (arith, w₀.len)) in
    let wa = wrote_number 4 6 head.a (slice_set (slice_set b 0 head.kind) 1 head.level) b₁ (omega (arith, w₀.len, w₁.len)) a_put in
    let wb = wrote_number 4 10 head.b b₁ b₂ (omega (arith, w₀.len, w₁.len, wa.len)) b_put in
    let wc = wrote_number 4 14 head.c b₂ b₃ (omega (arith, w₀.len, w₁.len, wa.len, wb.len)) c_put in
    record {
      len = wc.len ∙ wb.len ∙ wa.len ∙ w₁.len ∙ w₀.len;
      kind_is = wc.below 0 (omega arith) ∙ wb.below 0 (omega arith) ∙ wa.below 0 (omega arith) ∙ w₁.below 0 (omega arith) ∙ w₀.here 0 (omega arith);
      level_is = wc.below 1 (omega arith) ∙ wb.below 1 (omega arith) ∙ wa.below 1 (omega arith) ∙ w₁.here 0 (omega arith);
      a_is = number_at-same 4 6 6 b₁ b₃ (λ k lt. wc.below (6 + k) (omega arith) ∙ wb.below (6 + k) (omega arith)) ∙ number_written 4 6 head.a _ b₁ a_fits wa;
      b_is = number_at-same 4 10 10 b₂ b₃ (λ k lt. wc.below (10 + k) (omega arith)) ∙ number_written 4 10 head.b b₁ b₂ b_fits wb;
      c_is = number_written 4 14 head.c b₂ b₃ c_fits wc;
      between = λ j l h. wc.below j (omega arith) ∙ wb.below j (omega arith) ∙ wa.below j h ∙ w₁.above j (omega arith) ∙ w₀.above j (omega arith);
      behind = λ j l. wc.above j (omega arith) ∙ wb.above j (omega arith) ∙ wa.above j (omega arith) ∙ w₁.above j (omega arith) ∙ w₀.above j (omega arith);
    }
