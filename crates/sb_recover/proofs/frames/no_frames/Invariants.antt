use Rattle.sb_recover.specs.Frames.{texts, NoneHeld}
use Rattle.sb_recover.proofs.frames.no_frames.Given as goal

abbrev pub invariant-loop : goal.invariant-loop
invariant-loop l = NoneHeld l.counter (texts l.frames.items)
