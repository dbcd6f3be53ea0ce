-- The relation on which an instance keeps its rule.
use Rattle.std.proofs.Common.{◌≡◌, [], Option, Some, None, ap, sym, ◌∙◌, subst}
use Rattle.sb_rule.specs.declared.rule.Rule.{Rule}
use Rattle.sb_rule.specs.declared.change.Change.{Change}
use Rattle.sb_relation.specs.Changes.{changed, changed_rows, with_change}
use Rattle.sb_relation.specs.Db.{Rows, Relation, Db, relation_at, schema_at, rows_at}
use Rattle.sb_relation.specs.Lawful.{AreRows}
use Rattle.sb_ctx.specs.declared.instance.Instance.{Instance}
use Rattle.sb_ctx.specs.Attachment.{Attachment, StandsOn}
use Rattle.sb_ctx.proofs.AuthorLaws.{relation_at-changed}

-- ---- the relation
schema_of : (o : Option Relation) (r : Relation) → o ≡ Some r → elim o [ None ↦ [] | Some r ↦ r.schema ] ≡ r.schema
schema_of o r e = ap (λ (p : Option Relation). elim p [ None ↦ [] | Some r ↦ r.schema ]) e

pub schema_is : (a : Attachment) (inst : Instance) (rule : Rule) (db : Db) → StandsOn a inst rule db → schema_at db inst.relation ≡ inst.schema
schema_is a inst rule db stands = schema_of (relation_at db inst.relation) stands.relation stands.there ∙ stands.schema

pub rows_are : (a : Attachment) (inst : Instance) (rule : Rule) (db : Db) → StandsOn a inst rule db → AreRows inst.schema (rows_at db inst.relation)
rows_are a inst rule db stands =
    let F : Rows → Type 0 = λ rows. AreRows inst.schema rows in
    let lawful = stands.lawful inst.relation stands.relation stands.there in
    subst F (sym (ap (λ (p : Option Relation). elim p [ None ↦ [] | Some r ↦ r.rows ]) stands.there))
    (subst (λ schema. AreRows schema stands.relation.rows) stands.schema lawful)

-- a change of a relation leaves its columns
pub schema_stays : (a : Attachment) (inst : Instance) (rule : Rule) (db : Db) (c : Change) → StandsOn a inst rule db → schema_at (changed db inst.relation c) inst.relation ≡ inst.schema
schema_stays a inst rule db c stands =
    schema_of (relation_at (changed db inst.relation c) inst.relation) (with_change stands.relation c (changed_rows stands.relation.rows c)) (relation_at-changed db inst.relation c stands.relation stands.there)
    ∙ stands.schema
