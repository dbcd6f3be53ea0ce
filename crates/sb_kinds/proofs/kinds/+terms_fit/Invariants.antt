use Rattle.std.proofs.Common.{length}
use Rattle.sb_kinds.proofs.kinds.+terms_fit.Given as goal

abbrev pub decreases-terms_fit : goal.decreases-terms_fit
decreases-terms_fit l = length l.own.now
