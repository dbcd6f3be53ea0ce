-- A relation of a number and a text in a heap, and its rows.
use Rattle.std.specs.Prelude.{◌≡◌, ℕ, ◌≤◌, List, [], ◌∷◌, codes, length, ℤ, IsUtf8, FitsSigned}
use Rattle.std.specs.Int.{w64}
use Rattle.sb_value.specs.declared.schema.Column.{Column}
use Rattle.sb_value.specs.declared.value.Value.TheVariants.{Int, Text}
use Rattle.sb_relation.specs.Db.{Row, int_column}
use Rattle.sb_ctx.specs.declared.instance.Instance.{Instance}
use Rattle.sb_ctx.specs.Method.{IsInstance, MayHold}
use Rattle.sb_heap.specs.Examples.{text_column}
use Rattle.sb_heap.specs.Heap.{heap_method}

abbrev pub pair_columns : List Column
pair_columns = int_column (codes "a") ∷ text_column (codes "b") ∷ []

pub record ArePairs (inst : Instance) : Type 0 where
  pub is : IsInstance heap_method inst
  pub columns : inst.schema ≡ pair_columns

-- a row that the relation may hold
abbrev pub MayBePair : Row → Type 0
MayBePair row = (inst : Instance) → ArePairs inst → MayHold heap_method inst row

-- a number and a text
pub record IsPair (row : Row) : Type 0 where
  pub number : ℤ
  pub word : List ℕ
  pub is : row ≡ Int number ∷ Text word ∷ []
  pub fits : FitsSigned w64 number
  pub utf8 : IsUtf8 word
  pub short : length word ≤ 255
