use Rattle.std.proofs.Common.{length}
use Rattle.sb_building.proofs.rules.+are_short_names.Given as goal

abbrev pub decreases-are_short_names : goal.decreases-are_short_names
decreases-are_short_names l = length l.names.now
