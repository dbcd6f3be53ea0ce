-- Damaged over a memory, of a call of an attachment, and a find that is handed up.
use Rattle.std.proofs.Common.{◌≡◌, ℕ, Some, true≢false, Result, Ok, Err, IfErr, sym, subst, ◌∙◌}
use Rattle.std.specs.Result.{IsErrAnd}
use Rattle.sb_relation.specs.Content.{Content}
use Rattle.sb_forms.specs.Pages.{Pages}
use Rattle.sb_ctx.specs.declared.instance.Instance.{Instance}
use Rattle.sb_ctx.specs.declared.calls.AttachCall.{AttachCall}
use Rattle.sb_ctx.specs.declared.calls.AttachCall.TheVariants as calls
use Rattle.sb_ctx.specs.declared.moves.Move.{Move}
use Rattle.sb_ctx.specs.declared.moves.Move.TheVariants.{Find}
use Rattle.sb_ctx.specs.Attachment.{Attachment}
use Rattle.sb_ctx.specs.AttachAnswers.{pages_of_new}
use Rattle.sb_ctx.specs.Laws.{IsAttachment}
use Rattle.sb_memory.specs.declared.faults.DriveFault.{DriveFault}
use Rattle.sb_memory.specs.declared.faults.DriveFault.TheVariants.{Damaged}
use Rattle.sb_drive.specs.declared.space.SpaceFault.{SpaceFault}
use Rattle.sb_drive.specs.declared.space.SpaceFault.TheVariants as fault
use Rattle.sb_drive.specs.AttachCalls.{HasSpaceCause}
use Rattle.sb_memory.specs.AttachCalls.{HasCause}
use Rattle.sb_drive.specs.Turns.{OnFind}
use Rattle.sb_memory.specs.Faults.{in_memory}

-- the same over a memory
pub HasCause-in_memory : {T : Type 0} (a : Attachment) (inst : Instance) (call : AttachCall) (P : Pages) (r : Result T DriveFault) (e : SpaceFault) → IsErrAnd r (λ f. f ≡ in_memory e) → HasSpaceCause a inst call P e → IfErr r (HasCause a inst call P)
HasCause-in_memory a inst call P (Err f) e is cause = subst (HasCause a inst call P) (sym is) (by e cause)
  where
    by : (e : SpaceFault) → HasSpaceCause a inst call P e → HasCause a inst call P (in_memory e)
    by (fault.Damaged n) cause = cause
    by e cause = tt
HasCause-in_memory a inst call P (Ok x) e is cause = tt

-- pages that are formed are never damaged
pub HasCause-formed : (a : Attachment) (inst : Instance) (call : AttachCall) (P : Pages) (content : Content) (n : ℕ) → IsAttachment a → a.content inst P ≡ Some content → HasCause a inst call P (Damaged n) → ⊥
HasCause-formed a inst call P content n law holds cause = true≢false (sym cause.may ∙ (law.formed inst P content holds).whole cause.held n cause.given)

-- nor are those of a new instance, when it is prepared
pub HasCause-new : (a : Attachment) (inst : Instance) (P : Pages) (n : ℕ) → ((k : ℕ) → P k ≡ pages_of_new a inst k) → HasCause a inst calls.Prepare P (Damaged n) → ⊥
HasCause-new a inst P n new cause = cause.not_new new

pub OnFind-so : (move : Move) (IsSo IsThen : Type 0) → (IsSo → IsThen) → OnFind move IsSo → OnFind move IsThen
OnFind-so (Find relation columns values) IsSo IsThen then so = then so
OnFind-so move IsSo IsThen then so = tt
