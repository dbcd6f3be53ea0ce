-- What a call of an attachment says, once its finds are answered.
use Rattle.std.specs.Prelude.{◌≡◌, ℕ, ◌<◌, true, List, [], ◌∷◌}
use Rattle.sb_relation.specs.Db.{Db}
use Rattle.sb_ctx.specs.Pages.{Pages}
use Rattle.sb_ctx.specs.declared.held.Found.{Found}
use Rattle.sb_ctx.specs.declared.instance.Instance.{Instance}
use Rattle.sb_ctx.specs.declared.calls.AttachCall.{AttachCall}
use Rattle.sb_ctx.specs.declared.moves.Move.{Move}
use Rattle.sb_ctx.specs.declared.moves.Move.TheVariants.{Find, Fresh}
use Rattle.sb_ctx.specs.View.{View, FoundIn, edits_of, holds_fresh, nothing, with_found}
use Rattle.sb_ctx.specs.Attachment.{Attachment}
use Rattle.sb_ctx.specs.AttachAnswers.{Answers, MayEnd, Spends}
use Rattle.sb_drive.specs.Slots.{Slots, owned}
use Rattle.sb_drive.specs.Spaces.{LeadsWithin}
use Rattle.sb_drive.specs.Turns.{IsEnd}
use Rattle.sb_asking.specs.declared.calls.Answer.{Answer}

-- the call says this of these pages, with its finds answered over the database
pub record IsAsked (a : Attachment) (inst : Instance) (call : AttachCall) (db : Db) (before after : Pages) (move : Move) : Type 0 where
  pub view : View
  pub found : FoundIn view db
  pub answers : Answers a inst call view before after move

-- With its finds answered over the database no page was left for it: each of the first so many is somebody's, or a fresh one that it held within what it spends.
pub record LacksOver (a : Attachment) (inst : Instance) (call : AttachCall) (db : Db) (s : Slots) (total : ℕ) : Type 0 where
  pub view : View
  pub found : FoundIn view db
  pub ctx : View
  pub used : (m : ℕ) → m < total → (s m).0 ≡ 0 → holds_fresh ctx m ≡ true
  pub spends : Spends a inst call view (owned s inst.owner) ctx Fresh

-- With its finds answered over the database no more was changed than some Ctx has edits, with which the call spends what it may.
pub record CostsOver {S : Type 0} (Leads : ℕ → S → S → Type 0) (a : Attachment) (inst : Instance) (call : AttachCall) (db : Db) (s : Slots) (old new : S) : Type 0 where
  pub view : View
  pub found : FoundIn view db
  pub ctx : View
  pub move : Move
  pub leads : LeadsWithin Leads (edits_of ctx) old new
  pub spends : Spends a inst call view (owned s inst.owner) ctx move

-- it asks for nothing more
abbrev pub IsLast : Move → Type 0
IsLast (Find relation columns values) = ⊥
IsLast move = IsEnd move

-- an end of the call, at which it asks for nothing more
pub record IsFinal (call : AttachCall) (move : Move) : Type 0 where
  pub may : MayEnd call move
  pub last : IsLast move

-- ---- answers to finds
abbrev pub found_of : Answer → Found
found_of a = record { relation = a.relation; columns = a.columns; values = a.values; keys = a.keys }

-- these answers are known, and no pages
abbrev pub knowing : List Answer → View
knowing [] = nothing
knowing (a ∷ answers) = with_found (found_of a) (knowing answers)
