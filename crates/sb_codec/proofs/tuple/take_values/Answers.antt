use Rattle.std.proofs.Common.{◌≡◌, Some, ap, length, drop, sym, ◌∙◌, arith}
use Rattle.std.proofs.lemmas.Bool.Decides.{nat_tests}
use Rattle.std.proofs.lemmas.List.{length_push, length-drop}
use Rattle.std.proofs.lemmas.List.Elements.{All-push}
use Rattle.sb_value.specs.Spelling.{value_spelling, IsStorable}
use Rattle.sb_codec.proofs.Rows.{row_more}
use Rattle.sb_codec.proofs.TupleLaws.{stuck, same_rows}
use Rattle.sb_codec.proofs.tuple.take_values.Goals as goal

pub returns-in_default-clause-only : goal.returns-in_default-clause-only
returns-in_default-clause-only c =
    let only = rw c.in_default.is at c.in_ok-value.ensures.only in
    λ t counted good same.
    absurd (stuck c.loop.values.items t c.args.bytes.now (drop c.loop.at c.args.bytes.now) c.loop.invariant.storable good (omega arith) c.loop.invariant.spelled
    (λ v rest storable spelled. let found = only v rest storable spelled in absurd cc) same)

pub loop-preserved : goal.loop-preserved
loop-preserved c =
    let values = c.loop.values.items in
    let bytes = c.args.bytes.now in
    let found = rw c.in-Some.is at c.in_ok-value.ensures.found in
    let behind = rw c.in-Some.is at c.in_ok-value.ensures.behind in
    rw c.in_ok-push.ensures.items record {
      counted = omega (arith, length_push values c.in-Some.value);
      storable = All-push IsStorable values c.in-Some.value c.loop.invariant.storable found.0;
      within = behind.1;
      spelled = row_more value_spelling values c.in-Some.value bytes (drop c.loop.at bytes) (drop c.in-Some.next bytes) c.loop.invariant.spelled found.1;
    }

pub returns-then-at-bytes-clause-only : goal.returns-then-at-bytes-clause-only
returns-then-at-bytes-clause-only c = λ t counted good same.
    let rows = same_rows c.loop.values.items t (drop c.loop.at c.args.bytes.now) c.loop.invariant.storable good (omega arith) (sym c.loop.invariant.spelled ∙ same) in
    ap Some (c.from_vec.ensures ∙ rows.0)

pub returns-else-at-bytes-clause-only : goal.returns-else-at-bytes-clause-only
returns-else-at-bytes-clause-only c = λ t counted good same.
    let bytes = c.args.bytes.now in
    let rows = same_rows c.loop.values.items t (drop c.loop.at bytes) c.loop.invariant.storable good (omega arith) (sym c.loop.invariant.spelled ∙ same) in
    let none_left : length (drop c.loop.at bytes) ≡ 0 = ap length rows.1 in
    absurd (grind (arith, nat_tests, length-drop c.loop.at bytes))
