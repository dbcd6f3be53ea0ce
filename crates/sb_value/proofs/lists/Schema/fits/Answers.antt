use Rattle.std.proofs.Common.{◌≡◌, length, arith, refl, Some}
use Rattle.sb_value.specs.Fits.{first_misfit}
use Rattle.sb_value.proofs.FitsLemmas.{misfit_of_extra_at}
use Rattle.sb_value.proofs.lists.Schema.fits.Goals as goal

pub returns-then-columns-values : goal.returns-then-columns-values
returns-then-columns-values c =
    let extra : first_misfit c.as_slice-columns.result.now c.as_slice-values.result.now ≡ Some (length c.as_slice-columns.result.now) =
    misfit_of_extra_at c.as_slice-columns.result.now c.as_slice-values.result.now c.loop-place.place c.loop-place.invariant (omega arith) c.if-columns-values.true in
    rw (← c.as_slice-columns.ensures, ← c.as_slice-values.ensures, extra) refl
