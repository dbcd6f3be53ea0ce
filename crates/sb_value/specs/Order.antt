-- The order of values, tuples and record keys.
use Rattle.std.specs.Prelude.{ℕ, List}
use Rattle.std.specs.Ordering.{nat_cmp, int_cmp}
use Rattle.std.specs.declared.cmp.Ordering.{Ordering}
use Rattle.std.specs.declared.cmp.Ordering.TheVariants.{Less, Greater}
use Rattle.std.specs.Cmp.Lexicographic.{slice_cmp}
use Rattle.sb_value.specs.declared.value.Value.{Value}
use Rattle.sb_value.specs.declared.value.Value.TheVariants.{Int, Text}

-- by the first byte that differs; a front of the other comes before it
abbrev pub bytes_cmp : List ℕ → List ℕ → Ordering
bytes_cmp = slice_cmp nat_cmp

-- numbers by value, texts by bytes; a number before a text
abbrev pub value_cmp : Value → Value → Ordering
value_cmp (Int a) (Int b) = int_cmp a b
value_cmp (Int a) (Text b) = Less
value_cmp (Text a) (Int b) = Greater
value_cmp (Text a) (Text b) = bytes_cmp a b

-- by the first value that differs; a front of the other comes before it
abbrev pub tuple_cmp : List Value → List Value → Ordering
tuple_cmp = slice_cmp value_cmp
