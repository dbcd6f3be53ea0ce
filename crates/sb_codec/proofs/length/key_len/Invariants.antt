use Rattle.std.proofs.Common.{◌≡◌, length, take}
use Rattle.sb_value.specs.Code.{ordered_code}
use Rattle.sb_codec.proofs.length.key_len.Given as goal

abbrev pub invariant-loop-value : goal.invariant-loop-value
invariant-loop-value l = l.len ≡ length (ordered_code (take l.value-index l.value-items))
