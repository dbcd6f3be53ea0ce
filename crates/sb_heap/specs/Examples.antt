-- The relation of the tests, of a number and four texts, and its rows.
use Rattle.std.specs.Prelude.{◌≡◌, ℕ, ◌≤◌, List, [], ◌∷◌, codes, length, ℤ, IsUtf8, FitsSigned}
use Rattle.std.specs.Int.{w64}
use Rattle.sb_value.specs.declared.schema.Column.{Column}
use Rattle.sb_value.specs.declared.schema.Kind.TheVariants.{Text as text_kind}
use Rattle.sb_value.specs.declared.value.Value.TheVariants.{Int, Text}
use Rattle.sb_relation.specs.Db.{Name, Row, int_column}
use Rattle.sb_ctx.specs.declared.instance.Instance.{Instance}
use Rattle.sb_ctx.specs.Method.{IsInstance, MayHold}
use Rattle.sb_heap.specs.Heap.{heap_method}

-- a column of texts of any length
abbrev pub text_column : Name → Column
text_column name = record { name = name; kind = text_kind; limit = 255 }

abbrev pub example_columns : List Column
example_columns = int_column (codes "k") ∷ text_column (codes "a") ∷ text_column (codes "b") ∷ text_column (codes "c") ∷ text_column (codes "d") ∷ []

pub record IsExample (inst : Instance) : Type 0 where
  pub is : IsInstance heap_method inst
  pub columns : inst.schema ≡ example_columns

-- a number, one text three times and another, in 1,000 bytes at most
pub record IsFittingRow (row : Row) : Type 0 where
  pub number : ℤ
  pub first : List ℕ
  pub last : List ℕ
  pub is : row ≡ Int number ∷ Text first ∷ Text first ∷ Text first ∷ Text last ∷ []
  pub fits : FitsSigned w64 number
  pub utf8 : IsUtf8 first × IsUtf8 last
  pub short : (length first ≤ 255) × (length last ≤ 217)

-- a row that the relation may hold
abbrev pub MayBeHeld : Row → Type 0
MayBeHeld row = (inst : Instance) → IsExample inst → MayHold heap_method inst row
