use Rattle.std.proofs.Common.{◌≡◌, ◌++◌, length, All}
use Rattle.std.specs.List.{flat_map}
use Rattle.sb_rule.specs.Spelling.{pair_spelling, IsStorablePair}
use Rattle.sb_rule.proofs.parts.take_pairs.Given as goal

abbrev pub invariant-loop : goal.invariant-loop
invariant-loop l = record {
  counted : length l.pairs.items ≡ l.counter;
  storable : All IsStorablePair l.pairs.items;
  spelled : l.bytes ≡ flat_map pair_spelling l.pairs.items ++ l.rest;
}
