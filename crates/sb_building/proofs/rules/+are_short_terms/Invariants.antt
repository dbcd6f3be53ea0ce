use Rattle.std.proofs.Common.{length}
use Rattle.sb_building.proofs.rules.+are_short_terms.Given as goal

abbrev pub decreases-are_short_terms : goal.decreases-are_short_terms
decreases-are_short_terms l = length l.terms.now
