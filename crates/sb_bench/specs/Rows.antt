-- The relation whose rows are put in, in a heap or in a tree.
use Rattle.std.specs.Prelude.{◌≡◌, ℕ, true, List, []}
use Rattle.sb_relation.specs.Db.{Name, Row}
use Rattle.sb_ctx.specs.declared.instance.Instance.{Instance}
use Rattle.sb_ctx.specs.Method.{Method, IsInstance, MayHold}
use Rattle.sb_treemethod.specs.Examples.{example_columns, IsShortRow}

-- an instance of owner 3 with the box of this code, of a number and a short text, with these key columns
pub record IsFirst (code : ℕ) (key : List Name) (inst : Instance) : Type 0 where
  pub code_is : inst.code ≡ code
  pub durable : inst.durable ≡ true
  pub desc : inst.desc ≡ []
  pub owner : inst.owner ≡ 3
  pub columns : inst.schema ≡ example_columns
  pub key_is : inst.key ≡ key

-- the box keeps the instance, which may hold each row of a number and a short text
pub record KeepsShortRows (m : Method) (inst : Instance) : Type 0 where
  pub is : IsInstance m inst
  pub rows : (row : Row) → IsShortRow row → MayHold m inst row
