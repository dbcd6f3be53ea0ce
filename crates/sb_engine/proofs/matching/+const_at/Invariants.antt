use Rattle.std.proofs.Common.{length}
use Rattle.sb_engine.proofs.matching.+const_at.Given as goal

abbrev pub decreases-const_at : goal.decreases-const_at
decreases-const_at l = length l.pairs.now
