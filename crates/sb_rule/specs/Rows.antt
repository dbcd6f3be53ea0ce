-- The names of relations and columns, and rows.
use Rattle.std.specs.Prelude.{ℕ, List}
use Rattle.sb_value.specs.declared.value.Value.{Value}

abbrev pub Name : Type 0
Name = List ℕ

abbrev pub Row : Type 0
Row = List Value
