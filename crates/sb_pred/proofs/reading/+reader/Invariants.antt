use Rattle.std.proofs.Common.{◌+◌, ◌*◌}
use Rattle.sb_pred.proofs.reading.+reader.Given as goal

abbrev pub decreases-pair_of : goal.decreases-pair_of
decreases-pair_of l = 2 * l.limit + 1

abbrev pub decreases-pred_of : goal.decreases-pred_of
decreases-pred_of l = 2 * l.limit
