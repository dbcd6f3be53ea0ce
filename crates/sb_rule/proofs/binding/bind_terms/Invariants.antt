use Rattle.std.proofs.Common.{◌≡◌, take, map}
use Rattle.sb_rule.specs.Bound.{bound_term}
use Rattle.sb_rule.proofs.binding.bind_terms.Given as goal

abbrev pub invariant-loop-term : goal.invariant-loop-term
invariant-loop-term l = l.bound.items ≡ map (bound_term l.schema l.change) (take l.term-index l.term-items)
