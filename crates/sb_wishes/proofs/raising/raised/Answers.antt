use Rattle.std.proofs.Common.{◌≡◌, sym, ap, subst, ◌∙◌, arith, ℤ}
use Rattle.std.specs.Prelude.{FitsSigned}
use Rattle.std.specs.Int.{w64}
use Rattle.std.proofs.lemmas.Int.{to_z-of_z}
use Rattle.sb_value.specs.declared.value.Value.TheVariants.{Int}
use Rattle.sb_value.specs.Fits.{Fits}
use Rattle.sb_relation.specs.Db.{Row}
use Rattle.sb_fold.specs.Outcome.{made}
use Rattle.sb_fold.specs.Wishes.{with_value}
use Rattle.sb_wishes.proofs.RaisedLemmas.{fits_with, raised-range, raised-sum}
use Rattle.sb_wishes.proofs.raising.raised.Goals as goal

pub returns-in_ok-with_number-in-Some-clause-is : goal.returns-in_ok-with_number-in-Some-clause-is
returns-in_ok-with_number-in-Some-clause-is c = λ name.
    let n_fits : FitsSigned w64 c.number_in-number.result = record { sfits = c.number_in-number.type_inv } in
    let by_fits : FitsSigned w64 c.args.by = c.ranges.by in
    let sum = simp to_z-of_z at c.in-Some.ensures in
    let z_fits : FitsSigned w64 c.in-Some.sum = subst (λ (z : ℤ). FitsSigned w64 z) (sym sum.1) sum.0 in
    let new : c.in_ok-with_number-in-Some.field-0 ≡ with_value c.args.schema.now c.args.column.now (Int c.in-Some.sum) c.args.row.now = grind (arith, to_z-of_z, c.in_ok-with_number-in-Some.ensures) in
    raised-sum name c.args.schema.now c.args.column.now c.args.by c.args.row.now _ c.number_in-number.result c.number_in-number.ensures sum.0
    ∙ ap (λ (l : Row). made {A = Row} l) (sym (new ∙ ap (λ (z : ℤ). with_value c.args.schema.now c.args.column.now (Int z) c.args.row.now) sum.1))

pub returns-in_ok-with_number-in-Some-clause-fits : goal.returns-in_ok-with_number-in-Some-clause-fits
returns-in_ok-with_number-in-Some-clause-fits c =
    let n_fits : FitsSigned w64 c.number_in-number.result = record { sfits = c.number_in-number.type_inv } in
    let by_fits : FitsSigned w64 c.args.by = c.ranges.by in
    let sum = simp to_z-of_z at c.in-Some.ensures in
    let z_fits : FitsSigned w64 c.in-Some.sum = subst (λ (z : ℤ). FitsSigned w64 z) (sym sum.1) sum.0 in
    let new : c.in_ok-with_number-in-Some.field-0 ≡ with_value c.args.schema.now c.args.column.now (Int c.in-Some.sum) c.args.row.now = grind (arith, to_z-of_z, c.in_ok-with_number-in-Some.ensures) in
    subst (λ (l : Row). Fits c.args.schema.now l) (sym new) (fits_with c.args.schema.now c.args.column.now (Int c.in-Some.sum) c.args.row.now c.requires.number c.requires.fits)

pub returns-in-None-clause-is : goal.returns-in-None-clause-is
returns-in-None-clause-is c = λ name.
    let n_fits : FitsSigned w64 c.number_in-number.result = record { sfits = c.number_in-number.type_inv } in
    let by_fits : FitsSigned w64 c.args.by = c.ranges.by in
    let out = simp to_z-of_z at c.in-None.ensures in
    raised-range name c.args.schema.now c.args.column.now c.args.by c.args.row.now _ c.number_in-number.result c.number_in-number.ensures out
