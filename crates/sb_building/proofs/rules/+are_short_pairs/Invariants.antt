use Rattle.std.proofs.Common.{length}
use Rattle.sb_building.proofs.rules.+are_short_pairs.Given as goal

abbrev pub decreases-are_short_pairs : goal.decreases-are_short_pairs
decreases-are_short_pairs l = length l.pairs.now
