use Rattle.std.proofs.Common.{length}
use Rattle.sb_kinds.proofs.kinds.+columns_fit.Given as goal

abbrev pub decreases-columns_fit : goal.decreases-columns_fit
decreases-columns_fit l = length l.columns.now
