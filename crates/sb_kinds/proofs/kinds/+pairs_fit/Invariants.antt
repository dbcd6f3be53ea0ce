use Rattle.std.proofs.Common.{length}
use Rattle.sb_kinds.proofs.kinds.+pairs_fit.Given as goal

abbrev pub decreases-pairs_fit : goal.decreases-pairs_fit
decreases-pairs_fit l = length l.pairs.now
