use Rattle.std.proofs.Common.{◌≡◌, ◌+◌, ◌-◌, ◌^◌, min, take, length}
use Rattle.std.specs.List.{flat_map}
use Rattle.sb_pred.specs.Spelling.{term_spelling}
use Rattle.sb_rule.proofs.lengths.terms_len.Given as goal

abbrev pub invariant-loop-term : goal.invariant-loop-term
invariant-loop-term l = l.len ≡ min (1 + length (flat_map term_spelling (take l.term-index l.terms))) (2 ^ 64 - 1)
