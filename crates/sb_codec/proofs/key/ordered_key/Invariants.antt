use Rattle.std.proofs.Common.{◌≡◌, take}
use Rattle.std.specs.Prelude.{All}
use Rattle.sb_value.specs.Code.{ordered_code}
use Rattle.sb_codec.specs.Kinds.{IsProper}
use Rattle.sb_codec.proofs.key.ordered_key.Given as goal

abbrev pub invariant-loop-value : goal.invariant-loop-value
invariant-loop-value l = record {
  code : l.out.items ≡ ordered_code (take l.value-index l.value-items);
  proper : All IsProper (take l.value-index l.value-items);
}
