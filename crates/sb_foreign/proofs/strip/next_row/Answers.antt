use Rattle.std.proofs.Common.{option_map, refl, get_or, sym, ◌∙◌}
use Rattle.sb_foreign.proofs.StripLaws.{row_above-here, row_above-behind, row_above-none}
use Rattle.sb_foreign.proofs.strip.next_row.Goals as goal

pub loop-place-init : goal.loop-place-init
loop-place-init c = refl

pub returns-in-Some-clause-row : goal.returns-in-Some-clause-row
returns-in-Some-clause-row c =
    row_above-here (option_map (λ key. key.now) c.args.low) c.args.bytes.now c.loop-place.place (get_or c.args.bytes.now c.loop-place.place 0) c.in-Some.row c.loop-place-test.true refl
    (sym c.in-Some.is ∙ c.in_ok-row.ensures.row) c.loop-place.invariant

pub loop-place-preserved : goal.loop-place-preserved
loop-place-preserved c =
    row_above-behind (option_map (λ key. key.now) c.args.low) c.args.bytes.now c.loop-place.place (get_or c.args.bytes.now c.loop-place.place 0) c.loop-place-test.true refl
    (sym c.in_default.is ∙ c.in_ok-row.ensures.row) c.loop-place.invariant

pub returns-clause-row : goal.returns-clause-row
returns-clause-row c = row_above-none (option_map (λ key. key.now) c.args.low) c.args.bytes.now c.loop-place.place c.loop-place-test.false c.loop-place.invariant
