-- Calls of live boxes over a space.
use Rattle.std.proofs.Common.{◌≡◌, ℕ, Bool, Result, Ok, Err, IfErr, Some, sym, subst, ◌∙◌, true≢false}
use Rattle.sb_drive.specs.Content.{Content}
use Rattle.sb_drive.specs.Db.{Rows}
use Rattle.sb_drive.specs.Pages.{Pages}
use Rattle.sb_drive.specs.Instance.{Instance}
use Rattle.sb_drive.specs.MethodCall.{MethodCall}
use Rattle.sb_drive.specs.MethodCall.TheVariants as calls
use Rattle.sb_drive.specs.AttachCall.{AttachCall}
use Rattle.sb_drive.specs.AttachCall.TheVariants as attach
use Rattle.sb_drive.specs.Move.{Move}
use Rattle.sb_drive.specs.View.{View}
use Rattle.sb_drive.specs.Method.{Method}
use Rattle.sb_drive.specs.MethodAnswers.{Before}
use Rattle.sb_drive.specs.Attachment.{Attachment}
use Rattle.sb_drive.specs.AttachAnswers.{Holds}
use Rattle.sb_drive.specs.Laws.{IsMethod, IsAttachment}
use Rattle.sb_drive.specs.declared.space.SpaceFault.{SpaceFault}
use Rattle.sb_drive.specs.declared.space.SpaceFault.TheVariants.{DataFull, TempFull, Damaged}
use Rattle.sb_drive.specs.AttachCalls.{Fits, HasSpaceCause as HasSpaceCauseFor}
use Rattle.sb_drive.specs.MethodCalls.{HasSpaceCause}
use Rattle.sb_drive.specs.Slots.{Slots, owned}
use Rattle.sb_drive.specs.Spaces.{IsFullFor, Wanted, WhereFull}
use Rattle.sb_registry.specs.Boxes.{Meanings, attachment_of}
use Rattle.sb_registry.specs.Live.{IsLiveRule}
use Rattle.sb_registry.specs.Runs.{IsNewFor, IsSound, WasFull}

-- ---- no page is called damaged
-- over pages with rows, or of a new instance that is prepared
IsSound-Before : (m : Method) (inst : Instance) (call : MethodCall) (P : Pages) (rows : Rows) (e : SpaceFault) → IsMethod m → Before m inst call P rows → HasSpaceCause m inst call P e → IsSound e
IsSound-Before m inst calls.Prepare P rows (Damaged n) law before cause = cause.not_new before.0
IsSound-Before m inst call P rows (Damaged n) law before cause = true≢false (sym cause.may ∙ (law.formed inst P rows before).whole cause.held n cause.given)
IsSound-Before m inst call P rows e law before cause = tt

pub sound-Before : {S : Type 0} (Has : Wanted → Slots → S → Type 0) (m : Method) (inst : Instance) (call : MethodCall) (old : S) (result : Result Move SpaceFault) → IsMethod m
    → IfErr result (λ e. (want : Wanted) (s : Slots) → Has want s old → HasSpaceCause m inst call (owned s inst.owner) e)
    → IfErr result (λ e. (want : Wanted) (s : Slots) (rows : Rows) → Has want s old → Before m inst call (owned s inst.owner) rows → IsSound e)
sound-Before Has m inst call old (Ok move) law cause = tt
sound-Before Has m inst call old (Err e) law cause = λ want s rows has before. IsSound-Before m inst call (owned s inst.owner) rows e law before (cause want s has)

-- the same of an attachment
IsSound-Holds : (a : Attachment) (inst : Instance) (call : AttachCall) (P : Pages) (content : Content) (e : SpaceFault) → IsAttachment a → Holds a inst P content → HasSpaceCauseFor a inst call P e → IsSound e
IsSound-Holds a inst call P content (Damaged n) law holds cause = true≢false (sym cause.may ∙ (law.formed inst P content holds).whole cause.held n cause.given)
IsSound-Holds a inst call P content e law holds cause = tt

pub sound-Holds : {S : Type 0} (Has : Wanted → Slots → S → Type 0) (a : Attachment) (inst : Instance) (call : AttachCall) (old : S) (result : Result Move SpaceFault) → IsAttachment a
    → IfErr result (λ e. (want : Wanted) (s : Slots) → Has want s old → HasSpaceCauseFor a inst call (owned s inst.owner) e)
    → IfErr result (λ e. (want : Wanted) (s : Slots) (content : Content) → Has want s old → Holds a inst (owned s inst.owner) content → IsSound e)
sound-Holds Has a inst call old (Ok move) law cause = tt
sound-Holds Has a inst call old (Err e) law cause = λ want s content has holds. IsSound-Holds a inst call (owned s inst.owner) content e law holds (cause want s has)

IsSound-new : (a : Attachment) (inst : Instance) (call : AttachCall) (P : Pages) (e : SpaceFault) → IsNewFor a inst call P → HasSpaceCauseFor a inst call P e → IsSound e
IsSound-new a inst attach.Prepare P (Damaged n) new cause = cause.not_new new
IsSound-new a inst call P (Damaged n) new cause = absurd new
IsSound-new a inst call P e new cause = tt

pub sound-new : {S : Type 0} (Has : Wanted → Slots → S → Type 0) (a : Attachment) (inst : Instance) (call : AttachCall) (old : S) (result : Result Move SpaceFault)
    → IfErr result (λ e. (want : Wanted) (s : Slots) → Has want s old → HasSpaceCauseFor a inst call (owned s inst.owner) e)
    → IfErr result (λ e. (want : Wanted) (s : Slots) → Has want s old → IsNewFor a inst call (owned s inst.owner) → IsSound e)
sound-new Has a inst call old (Ok move) cause = tt
sound-new Has a inst call old (Err e) cause = λ want s has new. IsSound-new a inst call (owned s inst.owner) e new (cause want s has)

-- ---- no page is left
WasFull-from : {S : Type 0} (Leads : ℕ → S → S → Type 0) (Durable : S → Bool) (Total : S → ℕ) (owner : ℕ) (Asks IsWithin : View → Type 0) (old : S) (s : Slots) (e : SpaceFault) → Leads 0 old old
    → WhereFull e (IsFullFor Leads Durable Total owner Asks IsWithin old s e) → WasFull Leads Durable Total old e
WasFull-from Leads Durable Total owner Asks IsWithin old s (DataFull used of) stays at = record { space = at.space; leads = at.leads; full = (at.full.0, at.full.1.total_is, at.full.1.all) }
WasFull-from Leads Durable Total owner Asks IsWithin old s (TempFull used of) stays at = record { space = at.space; leads = at.leads; full = (at.full.0, at.full.1.total_is, at.full.1.all) }
WasFull-from Leads Durable Total owner Asks IsWithin old s e stays at = record { space = old; leads = stays; full = tt }

pub WasFull-each : {S : Type 0} (Has : Wanted → Slots → S → Type 0) (Leads : ℕ → S → S → Type 0) (Durable : S → Bool) (Total : S → ℕ) (owner : ℕ) (Asks : View → Type 0) (IsWithin : Slots → View → Type 0) (old : S) (result : Result Move SpaceFault)
    → Leads 0 old old → IfErr result (λ e. (want : Wanted) (s : Slots) → Has want s old → WhereFull e (IsFullFor Leads Durable Total owner Asks (IsWithin s) old s e))
    → IfErr result (λ e. (want : Wanted) (s : Slots) → Has want s old → WasFull Leads Durable Total old e)
WasFull-each Has Leads Durable Total owner Asks IsWithin old (Ok move) stays full = tt
WasFull-each Has Leads Durable Total owner Asks IsWithin old (Err e) stays full = λ want s has. WasFull-from Leads Durable Total owner Asks (IsWithin s) old s e stays (full want s has)

-- ---- the live attachment of a code is the one that is found
pub Fits-live : (m : Meanings) (inst : Instance) (call : AttachCall) (a : Attachment) → Some a ≡ attachment_of inst.code m.attachments → IsLiveRule m inst
    → ((live : IsLiveRule m inst) → Fits live.box inst call) → Fits a inst call
Fits-live m inst call a is live fits =
    let both : Some live.box ≡ Some a = sym live.live ∙ sym is in
    let same : live.box ≡ a = cc in
    subst (λ (box : Attachment). Fits box inst call) same (fits live)
