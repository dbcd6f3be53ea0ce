-- What the call of a live box leaves of a space, whatever the space is.
use Rattle.std.specs.Prelude.{◌≡◌, ℕ, Bool, true, false, Result, IfOk, IfErr}
use Rattle.sb_drive.specs.Content.{Content}
use Rattle.sb_drive.specs.Db.{Rows}
use Rattle.sb_drive.specs.Pages.{Pages}
use Rattle.sb_drive.specs.Instance.{Instance}
use Rattle.sb_drive.specs.MethodCall.{MethodCall}
use Rattle.sb_drive.specs.AttachCall.{AttachCall}
use Rattle.sb_drive.specs.AttachCall.TheVariants.{Prepare}
use Rattle.sb_drive.specs.Move.{Move}
use Rattle.sb_drive.specs.Move.TheVariants.{Fresh}
use Rattle.sb_drive.specs.View.{View}
use Rattle.sb_drive.specs.Method.{Method}
use Rattle.sb_drive.specs.MethodAnswers.{Answers, Before}
use Rattle.sb_drive.specs.Attachment.{Attachment}
use Rattle.sb_drive.specs.AttachAnswers.{Answers as AnswersFor, Holds, Spends, pages_of_new}
use Rattle.sb_drive.specs.declared.space.SpaceFault.{SpaceFault}
use Rattle.sb_drive.specs.declared.space.SpaceFault.TheVariants.{DataFull, TempFull, Damaged}
use Rattle.sb_drive.specs.AttachCalls.{CostsIn, HandsUpIn, HasSpaceCause as HasCauseFor, IsAsking as IsAskingFor}
use Rattle.sb_drive.specs.MethodCalls.{CostsBy, HasRoomFor, HasSpaceCause, IsAsking}
use Rattle.sb_drive.specs.Slots.{Slots, owned}
use Rattle.sb_drive.specs.Spaces.{IsFullFor, IsReadFault, IsRefused, Leaves, LeadsOn, UnlessDown, Wanted, WhereFull}
use Rattle.sb_drive.specs.Turns.{OnFind}

-- no page is called damaged
abbrev pub IsSound : SpaceFault → Type 0
IsSound (Damaged page) = ⊥
IsSound e = Unit {0}

-- A reading call: the space keeps the pages that it has, no change is made, and neither a page nor room is wanting.
pub record Looks {S T : Type 0} (Has : Wanted → Slots → S → Type 0) (Leads : ℕ → S → S → Type 0)
    (Fails : SpaceFault → S → S → Type 0) (old new : S) (result : Result T SpaceFault) : Type 0 where
  pub same : UnlessDown result ((want : Wanted) (s : Slots) → Has want s old → Has want s new)
  pub leads : Leads 0 old new
  pub fault : IfErr result IsReadFault
  pub refused : IfErr result (λ e. IsRefused (Leads 0 old new) (Fails e old new) e)

-- that no page is left is answered by a durable space as DataFull and by another one as TempFull, with the number of its pages
abbrev pub IsFullOf : Bool → ℕ → SpaceFault → Type 0
IsFullOf durable total (DataFull used of) = (durable ≡ true) × (of ≡ total) × (used ≡ of)
IsFullOf durable total (TempFull used of) = (durable ≡ false) × (of ≡ total) × (used ≡ of)
IsFullOf durable total e = Unit {0}

-- by a space as it was before any change
pub record WasFull {S : Type 0} (Leads : ℕ → S → S → Type 0) (Durable : S → Bool) (Total : S → ℕ) (old : S) (e : SpaceFault) : Type 0 where
  pub space : S
  pub leads : Leads 0 old space
  pub full : IsFullOf (Durable space) (Total space) e

-- A changing call: the pages of all other owners stay, some number of changes is made, and that no page is left is answered with the space's numbers.
pub record Works {S T : Type 0} (Has : Wanted → Slots → S → Type 0) (Leads : ℕ → S → S → Type 0) (Fails : SpaceFault → S → S → Type 0)
    (Durable : S → Bool) (Total : S → ℕ) (owner : ℕ) (old new : S) (result : Result T SpaceFault) : Type 0 where
  pub others : UnlessDown result ((want : Wanted) (s : Slots) → Has want s old → Leaves Has owner want s new (λ after. Unit {0}))
  pub leads : LeadsOn Leads old new
  pub full : IfErr result (λ e. (want : Wanted) (s : Slots) → Has want s old → WasFull Leads Durable Total old e)
  pub refused : IfErr result (λ e. IsRefused (Leads 0 old new) (Fails e old new) e)

-- What a storage method's call comes to: it answers as the rows say; over pages with rows no page is called damaged, and else only one that the box calls broken; no page is left only
-- where the box asked for one, within its room; and it stays within its cost.
pub record Runs {S : Type 0} (Has : Wanted → Slots → S → Type 0) (Leads : ℕ → S → S → Type 0) (Durable : S → Bool) (Total : S → ℕ)
    (box : Method) (inst : Instance) (call : MethodCall) (old new : S) (result : Result Move SpaceFault) : Type 0 where
  pub answers : IfOk result (λ move. (want : Wanted) (s : Slots) → Has want s old
      → Leaves Has inst.owner want s new (λ after. Answers box inst call (owned s inst.owner) after move))
  pub sound : IfErr result (λ e. (want : Wanted) (s : Slots) (rows : Rows) → Has want s old
      → Before box inst call (owned s inst.owner) rows → IsSound e)
  pub damaged : IfErr result (λ e. (want : Wanted) (s : Slots) → Has want s old → HasSpaceCause box inst call (owned s inst.owner) e)
  pub full : IfErr result (λ e. (want : Wanted) (s : Slots) → Has want s old
      → WhereFull e (IsFullFor Leads Durable Total inst.owner (IsAsking box inst call) (HasRoomFor box inst call (owned s inst.owner)) old s e))
  pub costs : (want : Wanted) (s : Slots) (rows : Rows) → Has want s old
      → Before box inst call (owned s inst.owner) rows → CostsBy Leads box inst call rows old new result

-- an instance is prepared over the pages of a new one
abbrev pub IsNewFor : Attachment → Instance → AttachCall → Pages → Type 0
IsNewFor box inst Prepare P = (n : ℕ) → P n ≡ pages_of_new box inst n
IsNewFor box inst call P = ⊥

-- What an attachment's call comes to: it answers as the database says or hands a find up; over pages with content or of a new instance no page is called
-- damaged, and else only one that the box calls broken; no page is left only where the box asked for one, within its room; and it stays within its cost.
pub record RunsRule {S : Type 0} (Has : Wanted → Slots → S → Type 0) (Leads : ℕ → S → S → Type 0) (Durable : S → Bool) (Total : S → ℕ)
    (box : Attachment) (inst : Instance) (call : AttachCall) (ctx after_ctx : View) (old new : S) (result : Result Move SpaceFault) : Type 0 where
  pub answers : IfOk result (λ move. (want : Wanted) (s : Slots) → Has want s old
      → Leaves Has inst.owner want s new (λ after. AnswersFor box inst call ctx (owned s inst.owner) after move))
  pub find : IfOk result (λ move. OnFind move (HandsUpIn Has Leads inst.owner old new after_ctx move))
  pub sound : IfErr result (λ e. (want : Wanted) (s : Slots) (content : Content) → Has want s old
      → Holds box inst (owned s inst.owner) content → IsSound e)
  pub sound_new : IfErr result (λ e. (want : Wanted) (s : Slots) → Has want s old
      → IsNewFor box inst call (owned s inst.owner) → IsSound e)
  pub damaged : IfErr result (λ e. (want : Wanted) (s : Slots) → Has want s old → HasCauseFor box inst call (owned s inst.owner) e)
  pub full : IfErr result (λ e. (want : Wanted) (s : Slots) → Has want s old
      → WhereFull e (IsFullFor Leads Durable Total inst.owner (IsAskingFor box inst call ctx)
      (λ c. Spends box inst call ctx (owned s inst.owner) c Fresh) old s e))
  pub costs : CostsIn Has Leads box inst call old new ctx
