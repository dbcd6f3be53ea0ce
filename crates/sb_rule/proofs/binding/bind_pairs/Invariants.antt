use Rattle.std.proofs.Common.{◌≡◌, take, map}
use Rattle.sb_rule.specs.Bound.{bound_pair}
use Rattle.sb_rule.proofs.binding.bind_pairs.Given as goal

abbrev pub invariant-loop-pair : goal.invariant-loop-pair
invariant-loop-pair l = l.bound.items ≡ map (bound_pair l.schema l.change) (take l.pair-index l.pair-items)
