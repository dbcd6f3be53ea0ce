use Rattle.std.proofs.Common.{take}
use Rattle.sb_recover.specs.BadLog.{AreRows}
use Rattle.sb_recover.specs.Frames.{texts}
use Rattle.sb_recover.proofs.log.test_chunks.Given as goal

abbrev pub invariant-loop-i : goal.invariant-loop-i
invariant-loop-i l = AreRows (take l.i (texts l.chunks))
