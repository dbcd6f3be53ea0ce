-- What the boxes that take turns are asked for.
use Rattle.std.specs.Prelude.{◌≡◌, ◌≢◌, ℕ, ◌+◌, true, []}
use Rattle.sb_ctx.specs.declared.instance.Instance.{Instance}

-- an instance of the box of code 1000 and this number more, with pages of its own, on a relation without columns
pub record IsScribes (number : ℕ) (inst : Instance) : Type 0 where
  pub code : inst.code ≡ 1000 + number
  pub durable : inst.durable ≡ true
  pub desc : inst.desc ≡ []
  pub schema : inst.schema ≡ []
  pub key : inst.key ≡ []
  pub owned : inst.owner ≢ 0
