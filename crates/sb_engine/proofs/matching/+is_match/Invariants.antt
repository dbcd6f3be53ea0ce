use Rattle.std.proofs.Common.{length}
use Rattle.sb_engine.proofs.matching.+is_match.Given as goal

abbrev pub decreases-is_match : goal.decreases-is_match
decreases-is_match l = length l.pairs.now
