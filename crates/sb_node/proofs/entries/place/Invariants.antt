use Rattle.sb_node.proofs.Placed.{Scans}
use Rattle.sb_node.proofs.entries.place.Given as goal

abbrev pub invariant-loop-i : goal.invariant-loop-i
invariant-loop-i l = Scans l.page l.key l.i l.at
