use Rattle.std.proofs.Common.{length}
use Rattle.sb_refusals.proofs.limits.+has_long_pair.Given as goal

abbrev pub decreases-has_long_pair : goal.decreases-has_long_pair
decreases-has_long_pair l = length l.pairs.now
