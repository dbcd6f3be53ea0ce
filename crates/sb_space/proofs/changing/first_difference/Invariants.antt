use Rattle.std.proofs.Common.{◌≡◌, take}
use Rattle.sb_space.proofs.changing.first_difference.Given as goal

abbrev pub invariant-loop-i : goal.invariant-loop-i
invariant-loop-i l = record { same : take l.i l.a ≡ take l.i l.b }
