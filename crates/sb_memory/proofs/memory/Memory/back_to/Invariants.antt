use Rattle.std.proofs.Common.{◌≤◌, length}
use Rattle.sb_memory.specs.Contents.{Grows}
use Rattle.sb_memory.proofs.memory.Memory.back_to.Given as goal

abbrev pub invariant-loop-mark : goal.invariant-loop-mark
invariant-loop-mark l = record {
  least : l.mark.writes ≤ length l.self.past;
  stood : Grows l.self l.fn.self;
}

abbrev pub decreases-loop-mark : goal.decreases-loop-mark
decreases-loop-mark l = length l.self.past
