-- Values of columns that a find names.
use Rattle.std.specs.Prelude.{cond, List, [], ◌∷◌, Option, Some, None}
use Rattle.std.specs.Str.{bytes_eq}
use Rattle.sb_value.specs.declared.value.Value.{Value}
use Rattle.sb_relation.specs.Db.{Name}

-- the value at the place of the first column of a name
abbrev pub value_at : List Name → List Value → Name → Option Value
value_at [] values name = None
value_at (column ∷ columns) [] name = None
value_at (column ∷ columns) (value ∷ values) name = cond (bytes_eq column name) (Some value) (value_at columns values name)
