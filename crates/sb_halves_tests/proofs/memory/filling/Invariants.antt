use Rattle.sb_memory.specs.Writes.{AreAmong, ArePagesTo}
use Rattle.sb_halves_tests.proofs.memory.filling.Given as goal

abbrev pub invariant-loop-number : goal.invariant-loop-number
invariant-loop-number g l = record {
  among : AreAmong 16384 l.writes.items;
  whole : ArePagesTo l.writes.items;
}
