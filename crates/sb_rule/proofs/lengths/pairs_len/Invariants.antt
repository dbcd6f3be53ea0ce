use Rattle.std.proofs.Common.{◌≡◌, ◌+◌, ◌-◌, ◌^◌, min, take, length}
use Rattle.std.specs.List.{flat_map}
use Rattle.sb_rule.specs.Spelling.{pair_spelling}
use Rattle.sb_rule.proofs.lengths.pairs_len.Given as goal

abbrev pub invariant-loop-column : goal.invariant-loop-column
invariant-loop-column l = l.len ≡ min (1 + length (flat_map pair_spelling (take l.column-index l.pairs))) (2 ^ 64 - 1)
