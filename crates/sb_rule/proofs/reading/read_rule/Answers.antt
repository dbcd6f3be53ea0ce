use Rattle.std.proofs.Common.{◌≡◌, Some, [], length, ap, arith}
use Rattle.std.proofs.lemmas.Bool.Decides.{nat_tests}
use Rattle.sb_rule.proofs.Laws.{alone, stands}
use Rattle.sb_rule.proofs.reading.read_rule.Goals as goal

pub returns-in_default-clause-only : goal.returns-in_default-clause-only
returns-in_default-clause-only c rule s =
    let none = rw c.in_default.is at c.in_ok-rule.ensures in
    absurd (none rule [] (s.coded, s.storable, s.limited) (stands c.args.code c.args.bytes.now rule s))

pub returns-then-is_empty-clause-only : goal.returns-then-is_empty-clause-only
returns-then-is_empty-clause-only c rule s =
    let found = rw c.in-Some.is at c.in_ok-rule.ensures in
    ap Some (alone c.args.code c.args.bytes.now c.in-Some.rest.now c.in-Some.rule rule (omega (arith, c.if-code-ge-FOREIGN.false)) found.0 found.1 s).0

pub returns-else-is_empty-clause-only : goal.returns-else-is_empty-clause-only
returns-else-is_empty-clause-only c rule s =
    let found = rw c.in-Some.is at c.in_ok-rule.ensures in
    let same = alone c.args.code c.args.bytes.now c.in-Some.rest.now c.in-Some.rule rule (omega (arith, c.if-code-ge-FOREIGN.false)) found.0 found.1 s in
    let empty : length c.in-Some.rest.now ≡ 0 = ap length same.1 in
    absurd (grind (arith, nat_tests))
