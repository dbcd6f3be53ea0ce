use Rattle.std.proofs.Common.{◌≡◌, ◌≤◌, ◌++◌, length, drop, All}
use Rattle.std.specs.List.{flat_map}
use Rattle.sb_value.specs.Spelling.{value_spelling, IsStorable}
use Rattle.sb_codec.proofs.tuple.take_values.Given as goal

abbrev pub invariant-loop : goal.invariant-loop
invariant-loop l = record {
  counted : length l.values.items ≡ l.counter;
  storable : All IsStorable l.values.items;
  within : l.at ≤ length l.bytes;
  spelled : l.bytes ≡ flat_map value_spelling l.values.items ++ drop l.at l.bytes;
}
