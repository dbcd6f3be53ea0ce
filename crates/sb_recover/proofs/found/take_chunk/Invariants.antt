use Rattle.std.proofs.Common.{length}
use Rattle.sb_recover.specs.Found.{TakesFront}
use Rattle.sb_recover.proofs.found.take_chunk.Given as goal

abbrev pub invariant-loop-r : goal.invariant-loop-r
invariant-loop-r l = TakesFront l.fn.found l.found l.chunk l.rest

abbrev pub decreases-loop-r : goal.decreases-loop-r
decreases-loop-r l = length l.rest
