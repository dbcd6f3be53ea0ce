-- New instances of attachments, and what calls on them leave.
use Rattle.std.specs.Prelude.{◌≡◌, ℕ, Bool, cond, List, [], All, Some}
use Rattle.sb_rule.specs.declared.rule.Rule.{Rule}
use Rattle.sb_relation.specs.Db.{Db}
use Rattle.sb_forms.specs.Pages.{Pages, new_pages}
use Rattle.sb_ctx.specs.declared.instance.Instance.{Instance}
use Rattle.sb_ctx.specs.Attachment.{Attachment, StandsOn}
use Rattle.sb_ctx.specs.AttachAnswers.{Holds, first_content, pages_of_new}
use Rattle.sb_registry.specs.Boxes.{Meanings}
use Rattle.sb_drive.specs.Slots.{Slots, owned}
use Rattle.sb_drive.specs.Spaces.{Wanted}
use Rattle.sb_standing.specs.Tables.{Kept, KeepsOthers, Tables, db_of, kept_at}
use Rattle.sb_standing.specs.Standing.{IsOwner, StandRules}
use Rattle.sb_tables.specs.Opened.{IsDurable}

-- ---- a new instance's place
-- It has an owner that had no page, with a root of zeros, where its code keeps pages, and else none; the pages of all others stay.
pub record IsPlaced {S : Type 0} (Has : Wanted → Slots → S → Type 0) (keeps : Bool) (want : Wanted) (s : Slots) (owner root : ℕ) (new : S) : Type 0 where
  pub slots : Slots
  pub has : Has want slots new
  pub is : IsOwner owner
  pub none : (n : ℕ) → owned s owner n ≡ []
  pub others : KeepsOthers owner s slots
  pub pages : (n : ℕ) → owned slots owner n ≡ cond keeps (new_pages root n) []

-- ---- where it works
-- the pages of a space, the relations that they keep beside owners that are to go, and one of the relations
pub record Site : Type 0 where
  pub want : Wanted
  pub slots : Slots
  pub gone : List ℕ
  pub kept : List Kept
  pub one : Kept

-- the catalogue and the storage methods have other owners
pub record IsApart (owner : ℕ) (kept : List Kept) : Type 0 where
  pub catalogue : 2 ≡ owner → ⊥
  pub tables : All (λ k. k.descriptor.owner ≡ owner → ⊥) kept

-- The pages keep the relations, and the instance may keep the rule on the one of its name, in pages of its own.
pub record IsSite {S : Type 0} (Has : Wanted → Slots → S → Type 0) (m : Meanings) (root : ℕ) (x : Site) (inst : Instance) (rule : Rule)
    (box : Attachment) (space : S) : Type 0 where
  pub has : Has x.want x.slots space
  pub tables : Tables m IsDurable root x.slots x.kept
  pub stand : StandRules m IsDurable (db_of x.kept) x.kept
  pub there : kept_at x.kept inst.relation ≡ Some x.one
  pub stands : StandsOn box inst rule (db_of x.kept)
  pub apart : IsApart inst.owner x.kept

-- its pages are those of a new one
abbrev pub HasNewPages : Site → Attachment → Instance → Type 0
HasNewPages x box inst = (n : ℕ) → owned x.slots inst.owner n ≡ pages_of_new box inst n

-- its pages hold the content over no rows
unfoldable pub HoldsFirst : Attachment → Instance → Rule → Db → Pages → Type 0
HoldsFirst box inst rule db P = Holds box inst P (first_content box inst rule db)
