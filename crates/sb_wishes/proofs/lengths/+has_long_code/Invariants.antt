use Rattle.std.proofs.Common.{length}
use Rattle.sb_wishes.proofs.lengths.+has_long_code.Given as goal

abbrev pub decreases-has_long_code : goal.decreases-has_long_code
decreases-has_long_code l = length l.rules.now
