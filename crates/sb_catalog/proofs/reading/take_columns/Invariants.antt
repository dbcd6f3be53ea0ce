use Rattle.std.proofs.Common.{◌≡◌, ◌++◌, length, All}
use Rattle.std.specs.List.{flat_map}
use Rattle.sb_catalog.specs.Descriptors.{column_spelling, IsStorableColumn}
use Rattle.sb_catalog.proofs.reading.take_columns.Given as goal

abbrev pub invariant-loop : goal.invariant-loop
invariant-loop l = record {
  counted : length l.columns.items ≡ l.counter;
  storable : All IsStorableColumn l.columns.items;
  spelled : l.bytes ≡ flat_map column_spelling l.columns.items ++ l.rest;
}
