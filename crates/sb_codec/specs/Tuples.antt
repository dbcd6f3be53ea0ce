-- The spelling of a tuple in stored bytes, and what a tuple is.
use Rattle.std.specs.Prelude.{ℕ, ◌≤◌, List, ◌∷◌, length, All}
use Rattle.std.specs.List.{flat_map}
use Rattle.sb_value.specs.declared.value.Value.{Value}
use Rattle.sb_value.specs.Spelling.{value_spelling, IsStorable}

-- the number of values in one byte, and the values
abbrev pub tuple_spelling : List Value → List ℕ
tuple_spelling values = length values ∷ flat_map value_spelling values

-- 1 to 16 values that can be stored
pub record IsTuple (values : List Value) : Type 0 where
  pub some : 1 ≤ length values
  pub few : length values ≤ 16
  pub storable : All IsStorable values
