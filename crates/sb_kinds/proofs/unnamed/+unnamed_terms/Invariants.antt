use Rattle.std.proofs.Common.{length}
use Rattle.sb_kinds.proofs.unnamed.+unnamed_terms.Given as goal

abbrev pub decreases-unnamed_terms : goal.decreases-unnamed_terms
decreases-unnamed_terms l = length l.terms.now
