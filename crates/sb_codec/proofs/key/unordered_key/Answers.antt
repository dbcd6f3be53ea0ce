use Rattle.std.proofs.Common.{◌≡◌, Some, length, arith, sym, ◌∙◌, ap}
use Rattle.std.proofs.lemmas.Bool.Decides.{nat_tests}
use Rattle.std.proofs.lemmas.List.{map_push, take_all, take_more}
use Rattle.std.proofs.lemmas.List.Elements.{All-push}
use Rattle.sb_value.specs.Code.{value_code}
use Rattle.sb_value.specs.Fits.{kind_of}
use Rattle.sb_codec.specs.Kinds.{IsProper}
use Rattle.sb_codec.proofs.Rows.{row_more}
use Rattle.sb_codec.proofs.KeyLaws.{stuck, same_rows}
use Rattle.sb_codec.proofs.key.unordered_key.Goals as goal

pub returns-in_default-clause-only : goal.returns-in_default-clause-only
returns-in_default-clause-only c = λ values of-kinds proper same.
    absurd (stuck c.args.kinds.now _ c.loop-kind.values.items values c.args.b.now c.loop-kind.rest.now c.loop-kind.kind-index c.loop-kind-test.true c.loop-kind.invariant.of_kinds of-kinds
    c.loop-kind.invariant.proper proper c.loop-kind.invariant.coded (rw c.in_default.is at c.in_ok-value.ensures.none) same)

pub loop-kind-preserved : goal.loop-kind-preserved
loop-kind-preserved c =
    let values = c.loop-kind.values.items in
    let found = rw c.in-Some.is at c.in_ok-value.ensures.found in
    rw c.in_ok-push.ensures.items record {
      of_kinds = map_push kind_of values c.in-Some.value ∙ rw (c.loop-kind.invariant.of_kinds, found.0) (sym (take_more c.args.kinds.now c.loop-kind.kind-index _ c.loop-kind-test.true));
      proper = All-push IsProper values c.in-Some.value c.loop-kind.invariant.proper found.1;
      coded = row_more value_code values c.in-Some.value c.args.b.now c.loop-kind.rest.now c.in-Some.after.now c.loop-kind.invariant.coded found.2;
    }

pub returns-then-is_empty-clause-only : goal.returns-then-is_empty-clause-only
returns-then-is_empty-clause-only c = λ values of-kinds proper same.
    let kinds = c.args.kinds.now in
    let read = c.loop-kind.invariant.of_kinds ∙ take_all c.loop-kind.kind-index kinds c.loop-kind-test.false in
    let rows = same_rows kinds c.loop-kind.values.items values c.args.b.now c.loop-kind.rest.now read of-kinds c.loop-kind.invariant.proper proper c.loop-kind.invariant.coded same in
    ap Some (c.from_vec.ensures ∙ rows.0)

pub returns-else-is_empty-clause-only : goal.returns-else-is_empty-clause-only
returns-else-is_empty-clause-only c = λ values of-kinds proper same.
    let kinds = c.args.kinds.now in
    let read = c.loop-kind.invariant.of_kinds ∙ take_all c.loop-kind.kind-index kinds c.loop-kind-test.false in
    let rows = same_rows kinds c.loop-kind.values.items values c.args.b.now c.loop-kind.rest.now read of-kinds c.loop-kind.invariant.proper proper c.loop-kind.invariant.coded same in
    let empty : length c.loop-kind.rest.now ≡ 0 = ap length rows.1 in
    absurd (grind (arith, nat_tests))
