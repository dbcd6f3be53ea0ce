use Rattle.std.proofs.Common.{◌≡◌, get_or, sym, ◌∙◌, inl, inr, arith}
use Rattle.std.proofs.lemmas.List.{get_or_past}
use Rattle.sb_codec.proofs.Texts.{second_byte}
use Rattle.sb_codec.proofs.code.take_text.Goals as goal

pub returns-in-empty-clause-none : goal.returns-in-empty-clause-none
returns-in-empty-clause-none c = λ s x same.
    let rest = c.loop-rest.rest.now in
    let second = second_byte c.loop-rest.text.items rest s x (get_or_past rest 0 0 (omega arith)) (sym c.loop-rest.invariant ∙ same) in
    omega arith

pub returns-in-0-3-clause-none : goal.returns-in-0-3-clause-none
returns-in-0-3-clause-none c = λ s x same.
    let rest = c.loop-rest.rest.now in
    let zero-first : get_or rest 0 0 ≡ 0 = grind arith in
    let second = second_byte c.loop-rest.text.items rest s x zero-first (sym c.loop-rest.invariant ∙ same) in
    elim second.1 [ inl end ↦ grind arith | inr escape ↦ grind arith ]
