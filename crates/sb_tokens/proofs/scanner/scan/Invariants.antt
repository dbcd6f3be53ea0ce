use Rattle.std.proofs.Common.{length}
use Rattle.sb_tokens.proofs.RowsLemmas.{SoFar}
use Rattle.sb_tokens.proofs.scanner.scan.Given as goal

abbrev pub invariant-loop-rest : goal.invariant-loop-rest
invariant-loop-rest l = SoFar l.line l.rest l.tokens.items

abbrev pub decreases-loop-rest : goal.decreases-loop-rest
decreases-loop-rest l = length l.rest
