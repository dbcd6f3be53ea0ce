use Rattle.std.proofs.Common.{length}
use Rattle.sb_wishes.proofs.lengths.+learn_values.Given as goal

abbrev pub decreases-learn_values : goal.decreases-learn_values
decreases-learn_values l = length l.values.now
