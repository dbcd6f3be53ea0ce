-- The instances of the tests, on a relation of one number with pages of their own; and their rows and changes.
use Rattle.std.specs.Prelude.{◌≡◌, ◌≢◌, ℕ, ◌≤◌, true, List, []}
use Rattle.sb_ctx.specs.declared.instance.Instance.{Instance}
use Rattle.sb_rule.specs.declared.change.Change.{Change}
use Rattle.sb_relation.specs.Db.{Row}
use Rattle.sb_ctx.specs.Attachment.{Attachment, IsInstance, MayHold, MayMeet}
use Rattle.sb_ctx.specs.Method.{Method, IsInstance as IsInstanceOf, MayHold as MayHoldIn}
use Rattle.sb_foreign.specs.Strips.{is_numbers}

-- an instance of this code and with this desc
pub record IsExample (of_code : ℕ) (bytes : List ℕ) (inst : Instance) : Type 0 where
  pub code : inst.code ≡ of_code
  pub desc : inst.desc ≡ bytes
  pub durable : inst.durable ≡ true
  pub numbers : is_numbers inst.schema ≡ true
  pub key : inst.key ≡ []
  pub owned : inst.owner ≢ 0

-- an instance of a storage method of another author, of rows of one number
pub record Keeps (m : Method) (inst : Instance) : Type 0 where
  pub foreign : 1000 ≤ m.rules.code
  pub is : IsInstanceOf m inst
  pub numbers : is_numbers inst.schema ≡ true

-- the same of an attachment, over rows of one number
pub record Watches (a : Attachment) (inst : Instance) : Type 0 where
  pub foreign : 1000 ≤ a.rules.code
  pub is : IsInstance a inst
  pub numbers : is_numbers inst.schema ≡ true

-- a row that each of them may hold
pub record MayBeHeld (row : Row) : Type 0 where
  pub kept : (m : Method) (inst : Instance) → Keeps m inst → MayHoldIn m inst row
  pub watched : (a : Attachment) (inst : Instance) → Watches a inst → MayHold a inst row

-- a change that each of them may meet
pub record MayBeMet (change : Change) : Type 0 where
  pub watched : (a : Attachment) (inst : Instance) → Watches a inst → MayMeet a inst change
