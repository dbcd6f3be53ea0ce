-- Extensions with codes of their own: their rules, and the room that they take.
use Rattle.std.specs.Prelude.{ℕ, ◌==◌, nat_lt, Bool, true, not, cond, List, Option, Some, None}
use Rattle.std.specs.List.{find}
use Rattle.sb_value.specs.declared.schema.Column.{Column}
use Rattle.sb_rule.specs.declared.change.Change.{Change}
use Rattle.sb_rule.specs.declared.rule.Rule.{Rule}
use Rattle.sb_rule.specs.Spelling.{rule_code}
use Rattle.sb_relation.specs.Db.{Name, Rows, Db, relation_at}
use Rattle.sb_relation.specs.Foreign.{MethodRules, AttachRules, Boxes, method_rules, attach_rules}

-- of a storage method: the pages that so many rows take at most, those that a new instance edits, and those that a change of these rows edits
pub record MethodRoom : Type 0 where
  pub code : ℕ
  pub bound : ℕ → ℕ
  pub prepare : ℕ
  pub cost : Rows → Change → ℕ

-- of an attachment, by its desc, the columns and rows of its relation and its buckets: the pages that it takes at most, those that a new instance
-- edits, and those that a change edits
pub record AttachRoom : Type 0 where
  pub code : ℕ
  pub bound : List ℕ → List Column → Rows → ℕ → ℕ
  pub prepare : List ℕ → List Column → ℕ
  pub cost : List ℕ → List Column → Rows → ℕ → Change → ℕ

-- the extensions that are there
pub record Extensions : Type 0 where
  pub boxes : Boxes
  pub methods : List MethodRoom
  pub attachments : List AttachRoom

-- the extension of a foreign rule's code, or of a foreign method's
abbrev pub box_of : Extensions → Rule → Option AttachRules
box_of ext rule = attach_rules (rule_code rule) ext.boxes.attachments

abbrev pub method_of : Extensions → ℕ → Option MethodRules
method_of ext method = method_rules method ext.boxes.methods

abbrev pub method_room : Extensions → ℕ → Option MethodRoom
method_room ext method = find (λ m. m.code == method) ext.methods

abbrev pub attach_room : Extensions → ℕ → Option AttachRoom
attach_room ext code = find (λ a. a.code == code) ext.attachments

-- ---- which relations outlive a run
-- those of all methods but temp, whose code is 3; a foreign method says so itself
abbrev pub says_durable : Option MethodRules → Bool
says_durable None = true
says_durable (Some m) = m.durable

abbrev pub is_durable_method : Extensions → ℕ → Bool
is_durable_method ext method = cond (nat_lt method 1000) (not (method == 3)) (says_durable (method_of ext method))

abbrev pub is_durable_at : Extensions → Db → Name → Bool
is_durable_at ext db name = elim (relation_at db name) [ None ↦ true | Some r ↦ is_durable_method ext r.method ]
