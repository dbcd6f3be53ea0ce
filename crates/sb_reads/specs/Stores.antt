-- What the pages of a space keep, as commands read it.
use Rattle.std.specs.Prelude.{◌≡◌, ℕ, false, cond, List, [], ◌∷◌, map, All, Option, Some, None, bytes_eq}
use Rattle.std.specs.List.{find}
use Rattle.sb_rule.specs.declared.rule.Rule.{Rule}
use Rattle.sb_rule.specs.declared.rule.Rule.TheVariants.{TreeIndex, HashIndex}
use Rattle.sb_relation.specs.Content.{Content}
use Rattle.sb_relation.specs.Db
use Rattle.sb_relation.specs.Db.{Name, Relation, relation_at}
use Rattle.sb_ctx.specs.declared.instance.Instance.{Instance}
use Rattle.sb_ctx.specs.Attachment.{Attachment}
use Rattle.sb_ctx.specs.AttachAnswers.{Holds}
use Rattle.sb_ctx.specs.Laws.{IsAttachment}
use Rattle.sb_registry.specs.Boxes.{Meanings, attachment_of}
use Rattle.sb_drive.specs.Slots.{Slots, owned}
use Rattle.sb_drive.specs.Spaces.{Wanted}
use Rattle.sb_catalog.specs.declared.descriptor.Attached.{Attached}
use Rattle.sb_catalog.specs.Descriptors.{described, standing}
use Rattle.sb_rows.specs.Live.{HasRows}
use Rattle.sb_standing.specs.Standing.{EachRule, Keeps, KeepsRule, StandRules, is_join}
use Rattle.sb_standing.specs.Tables.{Kept, Tables, db_of}
use Rattle.sb_asking.specs.OpenRelation.{OpenRelation}
use Rattle.sb_asking.specs.Opened.{IsDurable, rule_of}

-- what is so of the relations of each store that the space has
abbrev pub OnStore : {S : Type 0} → (Wanted → Slots → S → Type 0) → Meanings → ℕ → S → (List Kept → Type 0) → Type 0
OnStore Has m root space IsSo = (want : Wanted) (s : Slots) (gone : List ℕ) (kept : List Kept) → Has want s space → Keeps m IsDurable root s gone kept → IsSo kept

-- ---- a relation that is open
-- it is this one of the database: live boxes keep its rows and its rules, none of which is a join
pub record KeepsOpen (m : Meanings) (root : ℕ) (s : Slots) (kept : List Kept) (r : Relation) (o : OpenRelation) : Type 0 where
  pub tables : Tables m IsDurable root s kept
  pub stand : StandRules m IsDurable (db_of kept) kept
  pub there : relation_at (db_of kept) o.name ≡ Some r
  pub schema : o.table.schema ≡ r.schema
  pub rows : HasRows m s o.table r.rows
  pub alike : map described o.descriptor.attachments ≡ map standing r.attachments
  pub rules : EachRule (λ d a. KeepsRule m s (rule_of o.name o.descriptor d) a (db_of kept)) o.descriptor.attachments r.attachments
  pub joinless : All (λ a. is_join a.rule ≡ false) r.attachments

-- what is so of it and of its database
abbrev pub OnOpen : {S : Type 0} → (Wanted → Slots → S → Type 0) → Meanings → ℕ → S → OpenRelation → (Db.Db → Relation → Type 0) → Type 0
OnOpen Has m root space o IsSo = (want : Wanted) (s : Slots) (kept : List Kept) (r : Relation) → Has want s space → KeepsOpen m root s kept r o → IsSo (db_of kept) r

-- ---- its attachments
-- that of a name, as the database has it
abbrev pub attachment_in : Relation → Name → Option Db.Attached
attachment_in r name = find (λ a. bytes_eq a.name name) r.attachments

-- the instance beside the attachment of a name
abbrev pub instance_beside : List Attached → List Instance → Name → Option Instance
instance_beside [] rules name = None
instance_beside (d ∷ ds) [] name = None
instance_beside (d ∷ ds) (inst ∷ rules) name = cond (bytes_eq d.name name) (Some inst) (instance_beside ds rules name)

-- the columns of an index
abbrev pub columns_of : Rule → Option (List Name)
columns_of (TreeIndex columns unique) = Some columns
columns_of (HashIndex columns) = Some columns
columns_of rule = None

-- ---- an instance of an attachment
-- a live box keeps it on a store that stands, and its pages hold this content
pub record HasContent (m : Meanings) (root : ℕ) (s : Slots) (kept : List Kept) (inst : Instance) (content : Content) : Type 0 where
  pub tables : Tables m IsDurable root s kept
  pub stand : StandRules m IsDurable (db_of kept) kept
  pub box : Attachment
  pub live : attachment_of inst.code m.attachments ≡ Some box
  pub law : IsAttachment box
  pub holds : Holds box inst (owned s inst.owner) content

-- what is so of its content
abbrev pub OnContent : {S : Type 0} → (Wanted → Slots → S → Type 0) → Meanings → ℕ → S → Instance → (Content → Type 0) → Type 0
OnContent Has m root space inst IsSo =
    (want : Wanted) (s : Slots) (kept : List Kept) (content : Content) → Has want s space → HasContent m root s kept inst content → IsSo content
