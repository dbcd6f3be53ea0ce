-- The relation of the tests, of a number as the key and a text, and its rows.
use Rattle.std.specs.Prelude.{◌≡◌, ℕ, ◌≤◌, List, [], ◌∷◌, codes, length, ℤ, IsUtf8, FitsSigned}
use Rattle.std.specs.Int.{w64}
use Rattle.sb_value.specs.declared.schema.Column.{Column}
use Rattle.sb_value.specs.declared.schema.Kind.TheVariants.{Text as text_kind}
use Rattle.sb_value.specs.declared.value.Value.TheVariants.{Int, Text}
use Rattle.sb_relation.specs.Db.{Row, int_column}
use Rattle.sb_ctx.specs.declared.instance.Instance.{Instance}
use Rattle.sb_ctx.specs.Method.{IsInstance, MayHold}
use Rattle.sb_treemethod.specs.TreeMethod.{tree_method}

abbrev pub example_columns : List Column
example_columns = int_column (codes "k") ∷ record { name = codes "v"; kind = text_kind; limit = 20 } ∷ []

pub record IsExample (inst : Instance) : Type 0 where
  pub is : IsInstance tree_method inst
  pub columns : inst.schema ≡ example_columns
  pub key : inst.key ≡ codes "k" ∷ []

-- a number and a short text
pub record IsShortRow (row : Row) : Type 0 where
  pub number : ℤ
  pub text : List ℕ
  pub is : row ≡ Int number ∷ Text text ∷ []
  pub fits : FitsSigned w64 number
  pub utf8 : IsUtf8 text
  pub short : length text ≤ 20

-- a row that the relation may hold
abbrev pub MayBeHeld : Row → Type 0
MayBeHeld row = (inst : Instance) → IsExample inst → MayHold tree_method inst row
