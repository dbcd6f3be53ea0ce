-- What calls of live boxes cost is within what the definitions charge.
use Rattle.std.specs.Prelude.{◌≡◌, ℕ, ◌≤◌, Bool, List, [], Some, cond, nat_lt}
use Rattle.std.specs.List.{slice_get}
use Rattle.sb_rule.specs.declared.change.Change.{Change}
use Rattle.sb_rule.specs.declared.rule.Rule.{Rule}
use Rattle.sb_rule.specs.Spelling.{rule_code}
use Rattle.sb_relation.specs.Db
use Rattle.sb_relation.specs.Db.{Db, Name, Relation, rows_at}
use Rattle.sb_fold.specs.Costs.{foreign_method_prepare, method_cost, rule_cost}
use Rattle.sb_fold.specs.Extensions.{method_room}
use Rattle.sb_ctx.specs.AttachAnswers.{content_after, content_over}
use Rattle.sb_ctx.specs.Attachment.{Attachment, IsChangeOf, StandsOn}
use Rattle.sb_ctx.specs.Laws.{IsAttachment, IsMethod}
use Rattle.sb_ctx.specs.Method.{Method, call_of}
use Rattle.sb_ctx.specs.declared.calls.AttachCall.TheVariants.{Changed}
use Rattle.sb_ctx.specs.declared.calls.MethodCall.TheVariants.{Prepare}
use Rattle.sb_ctx.specs.declared.instance.Instance.{Instance}
use Rattle.sb_registry.specs.Boxes.{Meanings, attachment_of, method_of}
use Rattle.sb_drive.specs.Slots.{Slots}
use Rattle.sb_catalog.specs.declared.descriptor.Attached.{Attached}
use Rattle.sb_standing.specs.Asked.{Asks}
use Rattle.sb_standing.specs.AskedLaws.{rule_of}
use Rattle.sb_standing.specs.Tables.{Kept, db_of, kept_at}
use Rattle.sb_weights.specs.Rooms.{extensions_of}

-- of a storage method that makes a change of a relation
abbrev pub MethodIsCharged : Type 0
MethodIsCharged =
    (m : Meanings) (box : Method) (r : Relation) (c : Change) → method_of r.method m.methods ≡ Some box → IsMethod box
    → box.cost (call_of c) r.rows ≤ method_cost (extensions_of m) r c

-- of one that prepares the pages of a new relation
abbrev pub PrepareIsCharged : Type 0
PrepareIsCharged =
    (m : Meanings) (box : Method) (method : ℕ) → method_of method m.methods ≡ Some box → IsMethod box
    → box.cost Prepare [] ≤ cond (nat_lt method 1000) 1 (foreign_method_prepare (method_room (extensions_of m) method))

-- of an attachment that is asked of one
abbrev pub RuleIsCharged : Type 0
RuleIsCharged =
    (m : Meanings) (box : Attachment) (inst : Instance) (rule : Rule) (db : Db) (buckets : ℕ) (c : Change)
    → attachment_of (rule_code rule) m.attachments ≡ Some box → IsAttachment box → StandsOn box inst rule db
    → IsChangeOf (rows_at db inst.relation) c
    → box.cost (Changed c) (content_over box inst rule db buckets) (content_after box inst rule db buckets c)
    ≤ rule_cost (extensions_of m) db inst.relation rule buckets c

-- and so of the next one of those of a changed relation, by the database before
abbrev pub AskingIsCharged : Type 0
AskingIsCharged =
    (m : Meanings) (durable : ℕ → Bool) (root : ℕ) (s : Slots) (gone : List ℕ) (before : List Kept) (name : Name) (c : Change) (i : ℕ) (k : Kept)
    (d : Attached) (a : Db.Attached) (box : Attachment)
    → Asks m durable root s gone before name c i → kept_at before name ≡ Some k → slice_get k.descriptor.attachments i ≡ Some d
    → slice_get k.relation.attachments i ≡ Some a → attachment_of d.code m.attachments ≡ Some box
    → box.cost (Changed c) (content_over box (rule_of durable k d) a.rule (db_of before) a.buckets)
    (content_after box (rule_of durable k d) a.rule (db_of before) a.buckets c)
    ≤ rule_cost (extensions_of m) (db_of before) name a.rule a.buckets c
