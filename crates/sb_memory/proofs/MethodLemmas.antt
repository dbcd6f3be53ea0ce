-- Damaged over a memory, of a call of a storage method.
use Rattle.std.proofs.Common.{◌≡◌, ℕ, Some, Result, Ok, Err, IfErr, sym, subst, ◌∙◌, true≢false}
use Rattle.std.specs.Result.{IsErrAnd}
use Rattle.sb_relation.specs.Db.{Rows}
use Rattle.sb_forms.specs.Pages.{Pages, new_pages}
use Rattle.sb_ctx.specs.declared.instance.Instance.{Instance}
use Rattle.sb_ctx.specs.declared.calls.MethodCall.{MethodCall}
use Rattle.sb_ctx.specs.declared.calls.MethodCall.TheVariants as calls
use Rattle.sb_ctx.specs.Method.{Method}
use Rattle.sb_ctx.specs.Laws.{IsMethod}
use Rattle.sb_memory.specs.declared.faults.DriveFault.{DriveFault}
use Rattle.sb_memory.specs.declared.faults.DriveFault.TheVariants.{Damaged}
use Rattle.sb_drive.specs.declared.space.SpaceFault.{SpaceFault}
use Rattle.sb_drive.specs.declared.space.SpaceFault.TheVariants as fault
use Rattle.sb_drive.specs.MethodCalls.{HasSpaceCause}
use Rattle.sb_memory.specs.MethodCalls.{HasCause}
use Rattle.sb_memory.specs.Faults.{in_memory}

-- the same over a memory
pub HasCause-in_memory : {T : Type 0} (m : Method) (inst : Instance) (call : MethodCall) (P : Pages) (r : Result T DriveFault) (e : SpaceFault) → IsErrAnd r (λ f. f ≡ in_memory e) → HasSpaceCause m inst call P e → IfErr r (HasCause m inst call P)
HasCause-in_memory m inst call P (Err f) e is cause = subst (HasCause m inst call P) (sym is) (by e cause)
  where
    by : (e : SpaceFault) → HasSpaceCause m inst call P e → HasCause m inst call P (in_memory e)
    by (fault.Damaged n) cause = cause
    by e cause = tt
HasCause-in_memory m inst call P (Ok x) e is cause = tt

-- pages that are formed are never damaged
pub HasCause-formed : (m : Method) (inst : Instance) (call : MethodCall) (P : Pages) (rows : Rows) (n : ℕ) → IsMethod m → m.read inst P ≡ Some rows → HasCause m inst call P (Damaged n) → ⊥
HasCause-formed m inst call P rows n law reads cause = true≢false (sym cause.may ∙ (law.formed inst P rows reads).whole cause.held n cause.given)

-- nor are those of a new instance, when it is prepared
pub HasCause-new : (m : Method) (inst : Instance) (P : Pages) (n : ℕ) → ((k : ℕ) → P k ≡ new_pages inst.root k) → HasCause m inst calls.Prepare P (Damaged n) → ⊥
HasCause-new m inst P n new cause = cause.not_new new
