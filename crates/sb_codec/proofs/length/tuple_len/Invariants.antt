use Rattle.std.proofs.Common.{◌≡◌, ◌+◌, length, take}
use Rattle.std.specs.List.{flat_map}
use Rattle.sb_value.specs.Spelling.{value_spelling}
use Rattle.sb_codec.proofs.length.tuple_len.Given as goal

abbrev pub invariant-loop-value : goal.invariant-loop-value
invariant-loop-value l = l.len ≡ 1 + length (flat_map value_spelling (take l.value-index l.value-items))
