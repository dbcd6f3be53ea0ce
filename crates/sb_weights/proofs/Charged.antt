-- What calls of live boxes cost is within what the definitions charge.
use Rattle.std.proofs.Common.{◌≡◌, ℕ, ◌≤◌, ◌*◌, ◌==◌, Bool, true, false, cond, nat_lt, List, [], length, Option, Some, None, option_map, refl, ap, sym, subst, ◌∙◌, arith, eqb-true}
use Rattle.sb_rule.specs.declared.change.Change.{Change}
use Rattle.sb_rule.specs.declared.change.Change.TheVariants.{Insert, Delete, Update}
use Rattle.sb_rule.specs.declared.rule.Rule.{Rule}
use Rattle.sb_rule.specs.declared.rule.Rule.TheVariants.{TreeIndex, HashIndex, JoinIndex, Stats, Check, Refers, Trigger, Foreign}
use Rattle.sb_rule.specs.Spelling.{rule_code}
use Rattle.sb_value.specs.Equal.{bytes_same}
use Rattle.sb_relation.specs.Changes.{changed, changed_rows, with_change}
use Rattle.sb_relation.specs.Content.{Content}
use Rattle.sb_relation.specs.Db.{Db, Name, Relation, Rows, relation_at, rows_at, schema_at}
use Rattle.sb_fold.specs.Costs.{foreign_cost, foreign_method_cost, foreign_method_prepare, operations, rule_cost, tree_cost}
use Rattle.sb_fold.specs.Extensions.{attach_room, method_room}
use Rattle.sb_ctx.specs.AttachAnswers.{content_after, content_over}
use Rattle.sb_ctx.specs.Attachment.{Attachment, IsChangeOf, StandsOn, keeps_pages}
use Rattle.sb_ctx.specs.Laws.{IsAttachment, operations_of}
use Rattle.sb_ctx.specs.Method.{call_of}
use Rattle.sb_ctx.specs.declared.calls.AttachCall.TheVariants.{Changed}
use Rattle.sb_ctx.specs.declared.calls.MethodCall.TheVariants.{Prepare}
use Rattle.sb_ctx.specs.declared.instance.Instance.{Instance}
use Rattle.sb_registry.specs.Boxes.{Meanings, attachment_of}
use Rattle.std.proofs.lemmas.Bool.{ltb-true}
use Rattle.std.proofs.lemmas.Option.{same_Some}
use Rattle.sb_relation.specs.Db
use Rattle.sb_standing.specs.AskedLaws.{rule_of}
use Rattle.sb_catalog.specs.declared.descriptor.Attached.{Attached}
use Rattle.sb_standing.specs.Tables.{Kept, db_of}
use Rattle.sb_standing.proofs.AskedLaws.{CanAsk-next}
use Rattle.sb_standing.proofs.KeptLemmas.{kept_at-name}
use Rattle.sb_standing.proofs.ChangedLemmas.{after_change, relation_at-changed, rows_at-there, schema_at-changed}
use Rattle.sb_weights.specs.Charges.{AskingIsCharged, MethodIsCharged, PrepareIsCharged, RuleIsCharged}
use Rattle.sb_weights.specs.Rooms.{extensions_of, own_content, room_of, rule_room_of}
use Rattle.sb_weights.proofs.Bounded.{first_made, passes}

-- ---- storage methods
operations-same : (c : Change) → operations_of (call_of c) ≡ operations c
operations-same (Insert key new) = refl
operations-same (Delete key old) = refl
operations-same (Update from old to new) = refl

pub method-is-charged : MethodIsCharged
method-is-charged m box r c is law = by (r.method == 1) (r.method == 2) refl refl
  where
    own : box.rules.code ≡ r.method
    own = eqb-true box.rules.code r.method (passes (λ x. x.rules.code == r.method) m.methods box is)

    room : method_room (extensions_of m) r.method ≡ Some (room_of box)
    room = first_made (λ x. x.rules.code == r.method) (λ x. x.code == r.method) room_of (λ x. refl) m.methods m.spare_methods box is

    by : (heap tree : Bool) → (r.method == 1) ≡ heap → (r.method == 2) ≡ tree
        → box.cost (call_of c) r.rows
        ≤ cond heap 10 (cond tree (operations c * tree_cost (length r.rows)) (foreign_method_cost (method_room (extensions_of m) r.method) r.rows c))
    by true tree heap is = (law.heap (own ∙ eqb-true r.method 1 heap)).cost (call_of c) r.rows
    by false true heap is =
        subst (λ (n : ℕ). box.cost (call_of c) r.rows ≤ n * tree_cost (length r.rows)) (operations-same c)
        ((law.tree (own ∙ eqb-true r.method 2 is)).cost (call_of c) r.rows)
    by false false heap is = omega (arith, ap (λ o. foreign_method_cost o r.rows c) room)

pub prepare-is-charged : PrepareIsCharged
prepare-is-charged m box method is law = by (nat_lt method 1000) refl
  where
    own : box.rules.code ≡ method
    own = eqb-true box.rules.code method (passes (λ x. x.rules.code == method) m.methods box is)

    room : method_room (extensions_of m) method ≡ Some (room_of box)
    room = first_made (λ x. x.rules.code == method) (λ x. x.code == method) room_of (λ x. refl) m.methods m.spare_methods box is

    by : (b : Bool) → nat_lt method 1000 ≡ b → box.cost Prepare [] ≤ cond b 1 (foreign_method_prepare (method_room (extensions_of m) method))
    by true below = (law.standard (omega (arith, own, ltb-true method 1000 below))).prepares []
    by false below = omega (arith, ap foreign_method_prepare room)

-- ---- attachments
-- the rows of a relation that is there are those that the change leaves
rows_at-changed : (db : Db) (name : Name) (c : Change) (r : Relation) → relation_at db name ≡ Some r → rows_at (changed db name c) name ≡ changed_rows (rows_at db name) c
rows_at-changed db name c r there =
    ap (λ (o : Option Relation). elim o [ None ↦ [] | Some q ↦ q.rows ]) (relation_at-changed db name c name)
    ∙ ap (λ (o : Option Relation). elim (option_map (after_change name name c) o) [ None ↦ [] | Some q ↦ q.rows ]) there
    ∙ ap (λ (b : Bool). (cond b (with_change r c (changed_rows r.rows c)) r).rows) ((bytes_same name name).1 refl)
    ∙ ap (λ (rows : Rows). changed_rows rows c) (sym (rows_at-there db name r there))

rule_by : (m : Meanings) (box : Attachment) (inst : Instance) (rule : Rule) (db : Db) (buckets : ℕ) (c : Change) → box.rules.code ≡ rule_code rule
    → attachment_of (rule_code rule) m.attachments ≡ Some box → IsAttachment box → StandsOn box inst rule db → IsChangeOf (rows_at db inst.relation) c
    → box.cost (Changed c) (content_over box inst rule db buckets) (content_after box inst rule db buckets c)
    ≤ rule_cost (extensions_of m) db inst.relation rule buckets c
rule_by m box inst (TreeIndex columns unique) db buckets c its is law stands of =
    (law.charged (ap keeps_pages its) (omega (arith, its))).changes (extensions_of m) inst (TreeIndex columns unique) db stands buckets c of
rule_by m box inst (HashIndex columns) db buckets c its is law stands of =
    (law.charged (ap keeps_pages its) (omega (arith, its))).changes (extensions_of m) inst (HashIndex columns) db stands buckets c of
rule_by m box inst (JoinIndex side columns other others) db buckets c its is law stands of =
    (law.charged (ap keeps_pages its) (omega (arith, its))).changes (extensions_of m) inst (JoinIndex side columns other others) db stands buckets c of
rule_by m box inst (Stats column low width) db buckets c its is law stands of =
    (law.charged (ap keeps_pages its) (omega (arith, its))).changes (extensions_of m) inst (Stats column low width) db stands buckets c of
rule_by m box inst (Check pred deferred) db buckets c its is law stands of =
    omega (arith, law.idle (ap keeps_pages its) (Changed c) (content_over box inst (Check pred deferred) db buckets) (content_after box inst (Check pred deferred) db buckets c))
rule_by m box inst (Refers side columns other others mode deferred) db buckets c its is law stands of =
    let rule = Refers side columns other others mode deferred in
    omega (arith, law.idle (ap keeps_pages its) (Changed c) (content_over box inst rule db buckets) (content_after box inst rule db buckets c))
rule_by m box inst (Trigger on pred act deferred) db buckets c its is law stands of =
    let rule = Trigger on pred act deferred in
    omega (arith, law.idle (ap keeps_pages its) (Changed c) (content_over box inst rule db buckets) (content_after box inst rule db buckets c))
rule_by m box inst (Foreign code desc) db buckets c its is law stands of =
    omega (arith, ap (λ o. foreign_cost o desc db inst.relation buckets c) room, ap (box.cost (Changed c) own) after)
  where
    room : attach_room (extensions_of m) code ≡ Some (rule_room_of box)
    room = first_made (λ a. a.rules.code == code) (λ a. a.code == code) rule_room_of (λ a. refl) m.attachments m.spare_attachments box is

    own : Content
    own = content_over box inst (Foreign code desc) db buckets

    after : content_after box inst (Foreign code desc) db buckets c ≡ own_content box desc (schema_at db inst.relation) (changed_rows (rows_at db inst.relation) c) buckets
    after i = own_content box desc (schema_at-changed db inst.relation c inst.relation i) (rows_at-changed db inst.relation c stands.relation stands.there i) buckets

pub rule-is-charged : RuleIsCharged
rule-is-charged m box inst rule db buckets c is law stands of =
    rule_by m box inst rule db buckets c (eqb-true box.rules.code (rule_code rule) (passes (λ a. a.rules.code == rule_code rule) m.attachments box is)) is law stands of

-- ---- the next one that is asked
abbrev IsChargedAt : Meanings → (ℕ → Bool) → List Kept → Change → Kept → Attached → Name → Db.Attached → Attachment → Type 0
IsChargedAt m durable before c k d name a box =
    box.cost (Changed c) (content_over box (rule_of durable k d) a.rule (db_of before) a.buckets) (content_after box (rule_of durable k d) a.rule (db_of before) a.buckets c)
    ≤ rule_cost (extensions_of m) (db_of before) name a.rule a.buckets c

pub asking-is-charged : AskingIsCharged
asking-is-charged m durable root s gone before name c i k d a box asks at here placed live =
    let next = CanAsk-next m durable root s gone before name c i k d asks at here in
    let kept = next.2.kept in
    let inst = rule_of durable k d in
    let db : Db = db_of before in
    let on : k.name ≡ name = kept_at-name before name k at in
    let rows : rows_at db name ≡ asks.relation.rows = rows_at-there db name asks.relation asks.there in
    let of : IsChangeOf (rows_at db k.name) c =
    subst (λ (n : Name). IsChangeOf (rows_at db n) c) (sym on) (subst (λ (l : Rows). IsChangeOf l c) (sym rows) asks.suits.of) in
    let charged =
    rule-is-charged m kept.box inst next.0.rule db next.0.buckets c
    (ap (λ (n : ℕ). attachment_of n m.attachments) (sym (kept.code ∙ kept.stands.spelled.coded)) ∙ kept.live) kept.law kept.stands of in
    subst (λ (n : Name). IsChargedAt m durable before c k d n a box) on
    (subst (λ (x : Attachment). IsChargedAt m durable before c k d k.name a x) (same_Some kept.box box (sym kept.live ∙ live))
    (subst (λ (x : Db.Attached). IsChargedAt m durable before c k d k.name x kept.box) (same_Some next.0 a (sym next.1 ∙ placed)) charged))
