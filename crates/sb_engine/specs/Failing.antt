-- How the entries that wait tell which deferred rules fail.
use Rattle.std.specs.Prelude.{◌≡◌, ℕ, Bool, true, false, ◌&&◌, ◌||◌, List, All, Option, Some, option_map, bytes_eq}
use Rattle.std.specs.List.{find, slice_get}
use Rattle.sb_rule.specs.declared.rule.Side.TheVariants.{Main}
use Rattle.sb_rule.specs.declared.rule.Rule.{Rule}
use Rattle.sb_rule.specs.declared.rule.Rule.TheVariants.{Refers}
use Rattle.sb_relation.specs.Build.{mirror_name}
use Rattle.sb_relation.specs.Db.{Name, Attached, Db}
use Rattle.sb_relation.specs.Foreign.{AttachRules}
use Rattle.sb_relation.specs.Rules.{entry_fails, holds}
use Rattle.sb_ctx.specs.declared.moves.Move.{Move}
use Rattle.sb_ctx.specs.declared.moves.Move.TheVariants.{Veto}
use Rattle.sb_fold.specs.Extensions.{Extensions}
use Rattle.sb_fold.specs.Finish.{fails_late, is_tested_late}
use Rattle.sb_fold.specs.Fold.{attachments_at}
use Rattle.sb_fold.specs.Outcome.{Entry}
use Rattle.sb_registry.specs.Boxes.{Meanings}
use Rattle.sb_drive.specs.Slots.{Slots}
use Rattle.sb_drive.specs.Spaces.{Wanted}
use Rattle.sb_standing.specs.Standing.{Keeps}
use Rattle.sb_standing.specs.Tables.{Kept}
use Rattle.sb_asking.specs.OpenRelation.{OpenRelation}
use Rattle.sb_asking.specs.Opened.{IsDurable}
use Rattle.sb_engine.specs.Working.{IsOpened}

-- ---- relations that are kept
-- what is so of the relations that the pages keep
abbrev pub OverKept : {S : Type 0} → (Wanted → Slots → S → Type 0) → Meanings → ℕ → S → (List Kept → Type 0) → Type 0
OverKept Has m root space IsSo =
    (want : Wanted) (s : Slots) (gone : List ℕ) (kept : List Kept) → Has want s space → Keeps m IsDurable root s gone kept → IsSo kept

-- what is so of the attachment in this place of an open relation
abbrev pub OfAttached : Meanings → List Kept → OpenRelation → ℕ → (Attached → Type 0) → Type 0
OfAttached m kept one i IsSo = (is : IsOpened m kept one) (a : Attached) → slice_get is.one.relation.attachments i ≡ Some a → IsSo a

-- ---- one entry
abbrev pub is_veto : Move → Bool
is_veto Veto = true
is_veto _ = false

-- what it tells of a rule: a rule that is tested at the commit doesn't hold, or the entry doesn't fail
abbrev pub Tells : Db → Name → Rule → List ℕ → Bool → Type 0
Tells db relation rule entry true = (box : Option AttachRules) → is_tested_late rule ≡ true → holds box db relation rule ≡ false
Tells db relation rule entry false = entry_fails db relation rule entry ≡ false

-- it fails of no attachment of its name
abbrev pub FailsNowhere : Db → Entry → Type 0
FailsNowhere db e = All (λ a. a.name ≡ e.name → entry_fails db e.relation a.rule e.entry ≡ false) (attachments_at db e.relation)

-- ---- the entries of an attachment
abbrev pub is_of : Name → Name → Entry → Bool
is_of relation name e = bytes_eq e.relation relation && bytes_eq e.name name

-- those of the attachment, and of the main side of a refers those of its mirror, which tell the same
abbrev pub is_own : Name → Name → Rule → Entry → Bool
is_own relation name (Refers Main columns other others mode deferred) e = is_of relation name e || is_of other (mirror_name relation name) e
is_own relation name _ e = is_of relation name e

-- what an entry tells of an attachment: nothing, where it is another's
abbrev pub TellsOwn : Db → Name → Attached → Entry → Bool → Type 0
TellsOwn db relation a e true = (box : Option AttachRules) → is_tested_late a.rule ≡ true → holds box db relation a.rule ≡ false
TellsOwn db relation a e false = is_own relation a.name a.rule e ≡ true → entry_fails db relation a.rule e.entry ≡ false

-- ---- the first that fails
-- the name of a relation's first attachment whose rule is tested at the commit and doesn't hold
abbrev pub first_late : Extensions → Db → Kept → Option Name
first_late ext db k = option_map (λ a. a.name) (find (fails_late ext db k.name) k.relation.attachments)
