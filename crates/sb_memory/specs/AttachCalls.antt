-- Driven calls of an attachment over a memory.
use Rattle.std.specs.Prelude.{◌≡◌, ℕ}
use Rattle.sb_forms.specs.Pages.{Pages}
use Rattle.sb_ctx.specs.declared.instance.Instance.{Instance}
use Rattle.sb_ctx.specs.declared.calls.AttachCall.{AttachCall}
use Rattle.sb_ctx.specs.declared.moves.Move.{Move}
use Rattle.sb_ctx.specs.View.{View, IsClean}
use Rattle.sb_ctx.specs.Attachment.{Attachment}
use Rattle.sb_ctx.specs.AttachAnswers.{AsksFor}
use Rattle.sb_memory.specs.declared.faults.DriveFault.{DriveFault}
use Rattle.sb_memory.specs.declared.faults.DriveFault.TheVariants.{Damaged, NoMemory}
use Rattle.sb_memory.specs.Contents.{Contents, slots}
use Rattle.sb_drive.specs.Spaces.{HoldsOf}
use Rattle.sb_drive.specs.AttachCalls.{IsDamaged}

-- A find is handed up: nothing is stored, the Ctx may be given the answer and the call made again, and the answer isn't known.
pub record HandsUp (owner : ℕ) (before after : Contents) (c : View) (move : Move) : Type 0 where
  pub same : after ≡ before
  pub clean : IsClean c
  pub holds : HoldsOf (slots after.now) owner c
  pub asks : AsksFor c move

-- Damaged names a page that the box may call broken, of some pages that it was given
abbrev pub HasCause : Attachment → Instance → AttachCall → Pages → DriveFault → Type 0
HasCause a inst c P (Damaged n) = IsDamaged a inst c P n
HasCause a inst c P NoMemory = Unit {0}
