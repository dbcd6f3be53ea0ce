use Rattle.sb_value.proofs.FitsLemmas.{FitsFrom}
use Rattle.sb_value.proofs.lists.Schema.fits.Given as goal

abbrev pub invariant-loop-place : goal.invariant-loop-place
invariant-loop-place l = FitsFrom l.columns l.values l.place
