use Rattle.std.proofs.Common.{◌≡◌, ◌++◌, take, map, All}
use Rattle.sb_value.specs.Code.{ordered_code}
use Rattle.sb_value.specs.Fits.{kind_of}
use Rattle.sb_codec.specs.Kinds.{IsProper}
use Rattle.sb_codec.proofs.key.unordered_key.Given as goal

abbrev pub invariant-loop-kind : goal.invariant-loop-kind
invariant-loop-kind l = record {
  of_kinds : map kind_of l.values.items ≡ take l.kind-index l.kinds;
  proper : All IsProper l.values.items;
  coded : l.b ≡ ordered_code l.values.items ++ l.rest;
}
