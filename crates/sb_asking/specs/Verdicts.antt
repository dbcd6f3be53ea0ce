-- What an attachment says of a change that was made, and what it leaves.
use Rattle.std.specs.Prelude.{◌≡◌, ℕ, ◌+◌, true, false, List, [], Option, Some}
use Rattle.std.specs.List.{slice_get}
use Rattle.sb_rule.specs.declared.action.Action.{Action}
use Rattle.sb_rule.specs.declared.change.Change.{Change}
use Rattle.sb_rule.specs.declared.rule.Rule.{Rule}
use Rattle.sb_relation.specs.Changes.{changed}
use Rattle.sb_relation.specs.Db
use Rattle.sb_relation.specs.Db.{Name}
use Rattle.sb_relation.specs.Foreign.{AttachRules}
use Rattle.sb_relation.specs.Rules.{admits, follows, late_actions, late_checks}
use Rattle.sb_ctx.specs.declared.calls.AttachCall.TheVariants.{Changed}
use Rattle.sb_ctx.specs.declared.instance.Instance.{Instance}
use Rattle.sb_ctx.specs.declared.moves.Move.{Move}
use Rattle.sb_ctx.specs.declared.moves.Move.TheVariants.{Done, Acts, Veto}
use Rattle.sb_ctx.specs.Attachment.{Attachment}
use Rattle.sb_ctx.specs.AttachAnswers.{content_after, content_over, most_pages}
use Rattle.sb_registry.specs.Boxes.{Meanings, attachment_of}
use Rattle.sb_drive.specs.Slots.{Slots}
use Rattle.sb_drive.specs.Spaces.{LeadsWithin, Wanted}
use Rattle.sb_catalog.specs.declared.descriptor.Attached.{Attached}
use Rattle.sb_opened.specs.Instances.{rule_instance}
use Rattle.sb_opened.specs.Tables.{Kept, KeepsOthers, db_of, kept_at}
use Rattle.sb_opened.specs.Asked.{Asks}
use Rattle.sb_opened.specs.AskedLaws.{rule_of}
use Rattle.sb_opened.specs.Lacking.{IsShort}
use Rattle.sb_opened.specs.Opened.{IsDurable}
use Rattle.sb_asking.specs.declared.verdicts.Verdict.{Verdict}
use Rattle.sb_asking.specs.declared.verdicts.Verdict.TheVariants.{Vetoed, Admitted}

-- ---- who is asked
-- a relation of those before a change of it, and one of its attachments by its place, as the descriptor and the database have it
pub record Situation : Type 0 where
  pub gone : List ℕ
  pub before : List Kept
  pub name : Name
  pub kept : Kept
  pub index : ℕ
  pub described : Attached
  pub attached : Db.Attached

-- the attachment of this place is the one of the instance
pub record IsNext (x : Situation) (inst : Instance) : Type 0 where
  pub there : kept_at x.before x.name ≡ Some x.kept
  pub described : slice_get x.kept.descriptor.attachments x.index ≡ Some x.described
  pub attached : slice_get x.kept.relation.attachments x.index ≡ Some x.attached
  pub is : inst ≡ rule_instance true x.kept.name x.kept.descriptor x.described

-- ---- what it says
-- the change is admitted, and these actions follow, at once and at the commit, with these entries tested then
pub record Admits (box : Option AttachRules) (after : Db.Db) (name : Name) (rule : Rule) (c : Change) (now late : List Action) (checks : List (List ℕ)) : Type 0 where
  pub admitted : admits box after name rule c ≡ true
  pub now_are : now ≡ follows after name rule c
  pub late_are : late ≡ late_actions after name rule c
  pub checks_are : checks ≡ late_checks after name rule c

-- the change is vetoed or admitted as the rule says over the changed database
abbrev pub Judges : Option AttachRules → Db.Db → Name → Rule → Change → Verdict → Type 0
Judges box after name rule c Vetoed = admits box after name rule c ≡ false
Judges box after name rule c (Admitted now late checks) = Admits box after name rule c now late checks

-- the space has pages of which one attachment more was asked, and those of all others stay
pub record LeavesAsked {S : Type 0} (Has : Wanted → Slots → S → Type 0) (m : Meanings) (root : ℕ) (want : Wanted) (s : Slots) (x : Situation) (c : Change) (new : S) : Type 0 where
  pub slots : Slots
  pub has : Has want slots new
  pub others : KeepsOthers x.described.owner s slots
  pub asks : Asks m IsDurable root slots x.gone x.before x.name c (x.index + 1)

-- what is so where the change is admitted
abbrev pub IfAdmitted : Verdict → Type 0 → Type 0
IfAdmitted Vetoed IsSo = Unit {0}
IfAdmitted (Admitted now late checks) IsSo = IsSo

-- the live box says what its rule says, and keeps its content where it admits
pub record Says {S : Type 0} (Has : Wanted → Slots → S → Type 0) (m : Meanings) (root : ℕ) (want : Wanted) (s : Slots) (x : Situation) (c : Change) (new : S) (verdict : Verdict) : Type 0 where
  pub box : Attachment
  pub live : attachment_of x.described.code m.attachments ≡ Some box
  pub judges : Judges (Some box.rules) (changed (db_of x.before) x.name c) x.name x.attached.rule c verdict
  pub leaves : IfAdmitted verdict (LeavesAsked Has m root want s x c new)

-- the most pages of the one that is asked, while it is
abbrev pub most_asked : Situation → Attachment → Change → ℕ
most_asked x box c =
    let own : Instance = rule_of IsDurable x.kept x.described in
    most_pages box (Changed c) (content_over box own x.attached.rule (db_of x.before) x.attached.buckets)
    (content_after box own x.attached.rule (db_of x.before) x.attached.buckets c)

-- no page was left for the live box
pub record LacksAsked (m : Meanings) (s : Slots) (x : Situation) (c : Change) (total : ℕ) : Type 0 where
  pub box : Attachment
  pub live : attachment_of x.described.code m.attachments ≡ Some box
  pub short : IsShort s x.described.owner (most_asked x box c) total

-- what its box may spend on it
abbrev pub asked_cost : Situation → Attachment → Change → ℕ
asked_cost x box c =
    let own : Instance = rule_of IsDurable x.kept x.described in
    box.cost (Changed c) (content_over box own x.attached.rule (db_of x.before) x.attached.buckets)
    (content_after box own x.attached.rule (db_of x.before) x.attached.buckets c)

-- the live box has changed no more
pub record CostsAsked {S : Type 0} (Leads : ℕ → S → S → Type 0) (m : Meanings) (x : Situation) (c : Change) (old new : S) : Type 0 where
  pub box : Attachment
  pub live : attachment_of x.described.code m.attachments ≡ Some box
  pub within : LeadsWithin Leads (asked_cost x box c) old new

-- ---- the ends of its call
abbrev pub IsVerdict : Move → Type 0
IsVerdict Done = Unit {0}
IsVerdict (Acts now late checks) = Unit {0}
IsVerdict Veto = Unit {0}
IsVerdict _ = ⊥

-- what such an end says; done is an admission without more
abbrev pub verdict_in : Move → Verdict
verdict_in Done = Admitted [] [] []
verdict_in (Acts now late checks) = Admitted now late checks
verdict_in _ = Vetoed
