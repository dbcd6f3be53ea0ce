use Rattle.std.proofs.Common.{◌≡◌, ◌++◌, ℕ, List, [], ◌∷◌, take, drop, rules, ap, ◌∙◌, arith}
use Rattle.sb_heap.proofs.KeyBytes.{front_padded, low_page_is}
use Rattle.sb_heap.proofs.keys.front_of.Goals as goal

pub returns : goal.returns
returns c =
    let bytes = c.args.bytes.now in
    let copied : c.copy_from_slice.new.self ≡ take c.min-len.result bytes = search rules in
    low_page_is bytes (c.copy_from_slice.new.self ++ drop c.min-len.result (0 ∷ 0 ∷ 0 ∷ 0 ∷ [])) c.get_u32.result (λ i. omega (arith, c.type_inv.bytes i))
    (ap (λ (l : List ℕ). l ++ drop c.min-len.result (0 ∷ 0 ∷ 0 ∷ 0 ∷ [])) copied ∙ ap (λ m. take m bytes ++ drop m (0 ∷ 0 ∷ 0 ∷ 0 ∷ [])) c.min-len.ensures ∙ front_padded bytes)
    c.get_u32.ensures (omega (arith, c.get_u32.type_inv))
