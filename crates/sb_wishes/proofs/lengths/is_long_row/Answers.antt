use Rattle.std.proofs.Common.{◌≡◌, ◌≤◌, ◌∙◌, length, true, not, nat_lt, ◌||◌, subst, sym, arith, List}
use Rattle.sb_value.specs.declared.value.Value.{Value}
use Rattle.sb_value.specs.Fits.{is_short_enough}
use Rattle.sb_value.specs.Spelling.{IsStorable}
use Rattle.std.specs.Prelude.{All}
use Rattle.sb_wishes.proofs.LengthsLemmas.{IsRow-short, length-fits, length-spelling}
use Rattle.sb_wishes.proofs.lengths.is_long_row.Goals as goal

pub tuple_len-requires-clause-fits : goal.tuple_len-requires-clause-fits
tuple_len-requires-clause-fits c =
    let row = c.args.row.now in
    let storable = subst (λ (l : List Value). All IsStorable l) c.as_slice-2.ensures c.learn_values.ensures in
    let few : length row ≤ 16 = omega (arith, length-fits c.args.schema.now row c.requires.fits, c.requires.wide.few) in
    length-spelling row storable few

pub returns-clause-row : goal.returns-clause-row
returns-clause-row c = λ short.
    let enough : is_short_enough c.args.schema.now c.args.row.now ≡ true = cc in
    let row = c.args.row.now in
    let storable = subst (λ (l : List Value). All IsStorable l) c.as_slice-2.ensures c.learn_values.ensures in
    IsRow-short c.args.schema.now row c.requires.wide c.requires.fits storable
    ((λ i. not (enough i) || nat_lt 1000 (sym c.tuple_len.ensures i)) ∙ short)
