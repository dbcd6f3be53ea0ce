use Rattle.std.proofs.Common.{◌≡◌, ◌+◌, ◌-◌, ◌^◌, min, take, length}
use Rattle.std.specs.List.{flat_map}
use Rattle.sb_pred.specs.Spelling.{name_spelling}
use Rattle.sb_rule.proofs.lengths.names_len.Given as goal

abbrev pub invariant-loop-name : goal.invariant-loop-name
invariant-loop-name l = l.len ≡ min (1 + length (flat_map name_spelling (take l.name-index l.names))) (2 ^ 64 - 1)
