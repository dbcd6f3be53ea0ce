use Rattle.std.proofs.Common.{length}
use Rattle.sb_asking.proofs.columns.+has_values.Given as goal

abbrev pub decreases-has_values : goal.decreases-has_values
decreases-has_values l = length l.columns.now
