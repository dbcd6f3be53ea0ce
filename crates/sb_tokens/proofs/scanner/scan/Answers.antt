use Rattle.std.proofs.Common.{◌≡◌, ◌≢◌, ◌<◌, ◌≤◌, ◌+◌, ◌-◌, [], List, ℕ, length, sym, ◌∙◌, ap, arith, rules, Some, None}
use Rattle.std.proofs.lemmas.List.{nil_from_length, take_rest}
use Rattle.sb_tokens.specs.Tokens.{front_token}
use Rattle.sb_tokens.proofs.RowsLemmas.{none_so_far, one_more, whole_row, stuck_row}
use Rattle.sb_tokens.proofs.scanner.scan.Goals as goal

not_empty : (bytes : List ℕ) → 0 < length bytes → bytes ≢ []
not_empty bytes h e = absurd (omega (arith, ap length e))

pub loop-rest-init : goal.loop-rest-init
loop-rest-init c = rw (c.behind_blanks-rest.ensures, c.new-tokens.ensures.items) (none_so_far c.args.line.now)

pub returns-in_default : goal.returns-in_default
returns-in_default c =
    let h : 0 < length c.loop-rest.rest.now = search rules in
    let e : front_token c.loop-rest.rest.now ≡ None = sym c.in_ok-token.ensures.token ∙ c.in_default.is in
    let column : length c.args.line.now - length c.loop-rest.rest.now + 1 + length c.loop-rest.rest.now ≡ length c.args.line.now + 1 = omega (arith, c.loop-rest.invariant.placed) in
    stuck_row c.args.line.now c.loop-rest.rest.now c.loop-rest.tokens.items _ (not_empty c.loop-rest.rest.now h) e column c.loop-rest.invariant

pub loop-rest-preserved : goal.loop-rest-preserved
loop-rest-preserved c =
    let e : front_token c.loop-rest.rest.now ≡ Some (c.in-Some.token, c.in-Some.len) = sym c.in_ok-token.ensures.token ∙ c.in-Some.is in
    let within : (0 < c.in-Some.len) × (c.in-Some.len ≤ length c.loop-rest.rest.now) = rw c.in-Some.is at c.in_ok-token.ensures.within in
    let column : length c.args.line.now - length c.loop-rest.rest.now + 1 + length c.loop-rest.rest.now ≡ length c.args.line.now + 1 = omega (arith, c.loop-rest.invariant.placed) in
    rw (c.behind_blanks-rest-in-loop-rest.ensures, take_rest, c.in_ok-push.ensures.items)
    (one_more c.args.line.now c.loop-rest.rest.now c.loop-rest.tokens.items _ c.in-Some.len e within.1 column c.loop-rest.invariant)

pub returns : goal.returns
returns c =
    let z : length c.loop-rest.rest.now ≡ 0 = search rules in
    whole_row c.args.line.now c.loop-rest.rest.now c.loop-rest.tokens.items _ (nil_from_length c.loop-rest.rest.now z) (omega arith) c.loop-rest.invariant
