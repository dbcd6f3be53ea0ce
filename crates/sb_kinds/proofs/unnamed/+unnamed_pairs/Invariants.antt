use Rattle.std.proofs.Common.{length}
use Rattle.sb_kinds.proofs.unnamed.+unnamed_pairs.Given as goal

abbrev pub decreases-unnamed_pairs : goal.decreases-unnamed_pairs
decreases-unnamed_pairs l = length l.pairs.now
