use Rattle.std.proofs.Common.{◌≡◌}
use Rattle.sb_plain.specs.Refusing.{first_twice}
use Rattle.sb_refusals.proofs.Repeats.{twice_from}
use Rattle.sb_refusals.proofs.twice.first_twice.Given as goal

abbrev pub invariant-loop-i : goal.invariant-loop-i
invariant-loop-i l = first_twice l.names ≡ twice_from (λ n. n) l.names l.i
