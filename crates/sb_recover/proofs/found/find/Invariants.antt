use Rattle.std.proofs.Common.{take}
use Rattle.sb_recover.specs.Frames.{texts}
use Rattle.sb_recover.specs.Found.{FoundIn}
use Rattle.sb_recover.proofs.found.find.Given as goal

abbrev pub invariant-loop-chunk : goal.invariant-loop-chunk
invariant-loop-chunk l = FoundIn l.pages (texts (take l.chunk-index l.chunks)) l.found
