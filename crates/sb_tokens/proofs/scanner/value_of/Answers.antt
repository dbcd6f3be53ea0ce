use Rattle.std.proofs.Common.{◌≡◌, ◌<◌, ◌^◌, ◌+◌, ◌*◌, ◌-◌, sym, ◌∙◌, ap, arith, get_or}
use Rattle.std.proofs.lemmas.List.{drop_all}
use Rattle.sb_tokens.specs.Tokens.{value_behind}
use Rattle.sb_tokens.proofs.TokensLemmas.{value_beyond}
use Rattle.sb_tokens.proofs.scanner.value_of.Goals as goal

pub returns-in_err-checked_mul : goal.returns-in_err-checked_mul
returns-in_err-checked_mul c =
    let beyond : 10 * c.loop-digit.value + (get_or c.args.digits.now c.loop-digit.digit-index 0 - 48) < 2 ^ 64 → ⊥ = λ h. c.in_err-checked_mul.ensures (omega arith) in
    rw c.from_residual.ensures (value_beyond c.loop-digit.value c.loop-digit.digit-index c.args.digits.now c.loop-digit-test.true c.loop-digit.invariant.so_far beyond)

pub returns-in_err-value : goal.returns-in_err-value
returns-in_err-value c =
    let beyond : 10 * c.loop-digit.value + (get_or c.args.digits.now c.loop-digit.digit-index 0 - 48) < 2 ^ 64 → ⊥ = λ h. c.in_err-value.ensures (omega (arith, c.in_ok-checked_mul.ensures)) in
    rw c.from_residual-in_err-value.ensures (value_beyond c.loop-digit.value c.loop-digit.digit-index c.args.digits.now c.loop-digit-test.true c.loop-digit.invariant.so_far beyond)

pub returns : goal.returns
returns c =
    let e : c.loop-digit.value ≡ value_behind 0 c.args.digits.now = sym (ap (value_behind c.loop-digit.value) (drop_all c.loop-digit.digit-index c.args.digits.now c.loop-digit-test.false)) ∙ c.loop-digit.invariant.so_far in
    (omega arith, e)
