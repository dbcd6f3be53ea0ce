-- What the boxes of the tests are asked for, and what they do.
use Rattle.std.specs.Prelude.{◌≡◌, ◌≢◌, true, [], is_some}
use Rattle.sb_ctx.specs.declared.instance.Instance.{Instance}
use Rattle.sb_ctx.specs.declared.moves.Move.{Move}
use Rattle.sb_ctx.specs.declared.moves.Move.TheVariants.{Done, Need, Fresh, Find, Broken, NoMemory}
use Rattle.sb_ctx.specs.View.{View, given_at}

-- an instance of code 1000 with pages of its own, on a relation without columns
pub record IsPlain (inst : Instance) : Type 0 where
  pub code : inst.code ≡ 1000
  pub durable : inst.durable ≡ true
  pub desc : inst.desc ≡ []
  pub schema : inst.schema ≡ []
  pub key : inst.key ≡ []
  pub owned : inst.owner ≢ 0

-- it is done, wants memory or asks for a page, or calls a page broken that was given
abbrev pub IsMade : View → Move → Type 0
IsMade c Done = Unit {0}
IsMade c (Need n) = Unit {0}
IsMade c Fresh = Unit {0}
IsMade c (Broken n) = is_some (given_at c n) ≡ true
IsMade c NoMemory = Unit {0}
IsMade c move = ⊥

abbrev pub IsFindOrNoMemory : Move → Type 0
IsFindOrNoMemory (Find relation columns values) = Unit {0}
IsFindOrNoMemory NoMemory = Unit {0}
IsFindOrNoMemory move = ⊥
