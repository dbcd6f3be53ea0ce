-- Tests that fix what the rows that pass have in some columns, and the row of a record key that they fix.
use Rattle.std.specs.Prelude.{◌≡◌, ℕ, nat_lt, Bool, true, cond, ◌&&◌, List, [], ◌∷◌, Option, Some, None}
use Rattle.sb_value.specs.declared.value.Value.{Value}
use Rattle.sb_value.specs.declared.schema.Column.{Column}
use Rattle.sb_pred.specs.Columns.{column_value}
use Rattle.sb_relation.specs.Db.{Name, Key, Row, Rows}
use Rattle.sb_treemethod.specs.Instance.{Instance}
use Rattle.sb_treemethod.specs.Method.{code_of}
use Rattle.sb_treemethod.specs.MethodAnswers.{is_above}

-- each row that passes has this value in the column of the name
abbrev pub IsFixed : (Row → Bool) → List Column → Name → Value → Type 0
IsFixed passes schema name value = (row : Row) → passes row ≡ true → column_value schema (Some row) name ≡ Some value

-- the relation is a tree, and this is the ordered code of the key columns of each row that passes
pub record FixesKey (passes : Row → Bool) (inst : Instance) (key : Key) : Type 0 where
  pub tree : inst.code ≡ 2
  pub code : (row : Row) → passes row ≡ true → code_of inst row ≡ key

-- the row of a key, where there is one
abbrev pub rows_under : Key → Option Row → Rows
rows_under key None = []
rows_under key (Some row) = (key, row) ∷ []

-- the row, where it passes
abbrev pub kept : (Row → Bool) → Option Row → Option Row
kept passes None = None
kept passes (Some row) = cond (passes row) (Some row) None

-- the row of the key is among the first so many above the low key, if it is the only one
abbrev pub is_wanted : Key → Option Key → ℕ → Bool
is_wanted key low limit = nat_lt 0 limit && is_above low key
