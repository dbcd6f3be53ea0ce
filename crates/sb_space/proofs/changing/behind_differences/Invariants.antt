use Rattle.std.proofs.Common.{◌≡◌, ◌≤◌, drop, length}
use Rattle.sb_space.proofs.changing.behind_differences.Given as goal

abbrev pub invariant-loop-end : goal.invariant-loop-end
invariant-loop-end l = record { within : l.end ≤ length l.a; same : drop l.end l.a ≡ drop l.end l.b }

abbrev pub decreases-loop-end : goal.decreases-loop-end
decreases-loop-end l = l.end
