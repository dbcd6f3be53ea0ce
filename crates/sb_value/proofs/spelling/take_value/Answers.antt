use Rattle.std.proofs.Common.{◌≡◌, ◌∙◌, ◌+◌, ◌++◌, ℤ, drop, sym, subst, FitsSigned, arith}
use Rattle.std.specs.Int.{w64}
use Rattle.std.proofs.lemmas.Int.{to_z-of_z}
use Rattle.sb_value.specs.Spelling.{value_spelling}
use Rattle.sb_value.specs.declared.value.Value.TheVariants.{Int}
use Rattle.sb_value.proofs.SpellingLemmas.{tagged_at, int_stands, text_stands, text_alone}
use Rattle.sb_value.proofs.spelling.take_value.Goals as goal

pub returns-in-Some-int_of-clause-found : goal.returns-in-Some-int_of-clause-found
returns-in-Some-int_of-clause-found c =
    let tagged = tagged_at c.args.bytes.now c.args.at 1 c.in-Some.tag.now c.in-Some.body.now c.in-Some.ensures.cases.0 c.in-1.is in
    let read = c.in-Some-int_of.ensures in
    let stands = int_stands c.args.bytes.now c.args.at c.in-Some.body.now c.in-Some-int_of.number tagged read.1 in
    let Found : ℤ → Type 0 = λ n. FitsSigned w64 n × (drop c.args.at c.args.bytes.now ≡ value_spelling (Int n) ++ drop (c.args.at + 9) c.args.bytes.now) in
    subst Found (sym (to_z-of_z w64 c.in-Some-int_of.number read.0)) (read.0, stands)

pub returns-in-Some-2-clause-found : goal.returns-in-Some-2-clause-found
returns-in-Some-2-clause-found c =
    let tagged = tagged_at c.args.bytes.now c.args.at 2 c.in-Some.tag.now c.in-Some.body.now c.in-Some.ensures.cases.0 c.in-2.is in
    let found = rw c.in-Some-2.is at c.in_ok-text-in-2.ensures.found in
    (found.0, text_stands c.args.bytes.now c.args.at (c.args.at + 2 + c.len.result) c.in-Some.body.now c.in-Some-2.text tagged found.1 (omega arith))

pub returns-in-Some-2-clause-only : goal.returns-in-Some-2-clause-only
returns-in-Some-2-clause-only c v rest h e =
    let tagged = tagged_at c.args.bytes.now c.args.at 2 c.in-Some.tag.now c.in-Some.body.now c.in-Some.ensures.cases.0 c.in-2.is in
    text_alone c.in-Some.body.now c.in-Some-2.text c.args.at (c.args.at + 2 + c.len.result) v rest
    (λ s rest utf8 stands. sym c.in-Some-2.is ∙ c.in_ok-text-in-2.ensures.only s rest utf8 stands)
    (omega arith) h (sym tagged ∙ e)
