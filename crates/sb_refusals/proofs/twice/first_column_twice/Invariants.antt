use Rattle.std.proofs.Common.{◌≡◌, map}
use Rattle.sb_plain.specs.Refusing.{first_twice}
use Rattle.sb_refusals.proofs.Repeats.{twice_from}
use Rattle.sb_refusals.proofs.twice.first_column_twice.Given as goal

abbrev pub invariant-loop-i : goal.invariant-loop-i
invariant-loop-i l = first_twice (map (λ c. c.name) l.columns) ≡ twice_from (λ c. c.name) l.columns l.i
