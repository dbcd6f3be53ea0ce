-- Columns by their names.
use Rattle.std.specs.Prelude.{ℕ, List, Option, option_map, option_and_then}
use Rattle.std.specs.List.{position, slice_get}
use Rattle.std.specs.Str.{bytes_eq}
use Rattle.sb_value.specs.declared.value.Value.{Value}
use Rattle.sb_value.specs.declared.schema.Kind.{Kind}
use Rattle.sb_value.specs.declared.schema.Column.{Column}

-- where the first column of a name stands
abbrev pub place_of : List Column → List ℕ → Option ℕ
place_of schema name = position (λ c. bytes_eq c.name name) schema

-- the kind of the column of a name
abbrev pub column_kind : List Column → List ℕ → Option Kind
column_kind schema name = option_map (λ c. c.kind) (option_and_then (λ i. slice_get schema i) (place_of schema name))

-- what a row has in the column of a name
abbrev pub column_value : List Column → Option (List Value) → List ℕ → Option Value
column_value schema row name = option_and_then (λ values. option_and_then (λ i. slice_get values i) (place_of schema name)) row
