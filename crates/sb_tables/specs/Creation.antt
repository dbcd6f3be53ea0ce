-- New relations.
use Rattle.std.specs.Prelude.{◌≡◌, ℕ, ◌≤◌, true, List, [], length, Some, None, IsUtf8}
use Rattle.sb_value.specs.declared.schema.Column.{Column}
use Rattle.sb_pred.specs.Spelling.{IsStorableName}
use Rattle.sb_rule.specs.Spelling.{IsShortList, IsShortName}
use Rattle.sb_relation.specs.Db.{Name, Relation, Db, relation_at}
use Rattle.sb_relation.specs.Fits.{MayKeep}
use Rattle.sb_relation.specs.Keys.{Counted, keying_of}
use Rattle.sb_relation.specs.Limits.{descriptor_len}
use Rattle.sb_ctx.specs.Method.{Method}
use Rattle.sb_registry.specs.Boxes.{Meanings, method_of}
use Rattle.sb_catalog.specs.declared.descriptor.Descriptor.{Descriptor}
use Rattle.sb_catalog.specs.Descriptors.{IsStorableColumn}
use Rattle.sb_standing.specs.Tables.{IsWide, Kept}

-- a relation without rows and attachments
abbrev pub new_relation : ℕ → List Column → List Name → Relation
new_relation method schema key = record { method = method; schema = schema; key = key; rows = []; attachments = [] }

-- its descriptor, by the owner of its pages and their root
abbrev pub new_descriptor : ℕ → ℕ → ℕ → List Column → List Name → Descriptor
new_descriptor method owner root schema key =
    record { method = method; owner = owner; root = root; schema = schema; key = key; attachments = [] }

-- such a relation as it is kept
abbrev pub new_kept : Name → ℕ → ℕ → ℕ → List Column → List Name → Kept
new_kept name method owner root schema key =
    record { name = name; descriptor = new_descriptor method owner root schema key; relation = new_relation method schema key }

-- the columns and the key are short lists of short names
pub record AreShort (schema : List Column) (key : List Name) : Type 0 where
  pub columns : IsShortList (λ c. IsShortName c.name) schema
  pub names : IsShortList IsShortName key

-- A relation can be made: none has its name, a live storage method whose relations outlive the run keeps it, and its parts can be stored, within the
-- limits of an entry of the catalogue.
pub record MayCreate (m : Meanings) (db : Db) (name : Name) (method : ℕ) (schema : List Column) (key : List Name) : Type 0 where
  pub new : relation_at db name ≡ None
  pub box : Method
  pub live : method_of method m.methods ≡ Some box
  pub durable : box.rules.durable ≡ true
  pub keeps : MayKeep (Some box.rules) method schema key
  pub lasting : keying_of method ≡ Counted → ⊥
  pub wide : IsWide schema
  pub named : IsUtf8 name
  pub columns : IsShortList IsStorableColumn schema
  pub names : IsShortList IsStorableName key
  pub short : length name ≤ 100
  pub small : descriptor_len (new_relation method schema key) ≤ 1900
