-- What the calls of a new instance cost is within what the definitions charge.
use Rattle.std.proofs.Common.{◌≡◌, ◌⊎◌, ⊎_elim, ℕ, ◌+◌, ◌≤◌, ◌==◌, Bool, true, false, cond, List, [], Some, refl, sym, ap, ◌∙◌, arith, eqb-true}
use Rattle.sb_value.specs.declared.schema.Column.{Column}
use Rattle.sb_rule.specs.declared.change.Change.TheVariants.{Insert}
use Rattle.sb_rule.specs.declared.rule.Rule.{Rule}
use Rattle.sb_rule.specs.declared.rule.Rule.TheVariants.{TreeIndex, HashIndex, JoinIndex, Stats, Check, Refers, Trigger, Foreign}
use Rattle.sb_rule.specs.Spelling.{rule_code}
use Rattle.sb_relation.specs.Buckets.{standing_buckets}
use Rattle.sb_relation.specs.Changes.{changed_rows}
use Rattle.sb_relation.specs.Content.{Content, content_of}
use Rattle.sb_relation.specs.Db.{Key, Name, Relation, Row, Rows, Db, relation_at, rows_at, schema_at, with_row, with_rows}
use Rattle.sb_fold.specs.Costs.{foreign_cost, foreign_prepare, prepare_cost, rule_cost}
use Rattle.sb_fold.specs.Extensions.{AttachRoom, Extensions, attach_room}
use Rattle.sb_ctx.specs.declared.calls.AttachCall.TheVariants.{Prepare, Build, Changed}
use Rattle.sb_ctx.specs.declared.instance.Instance.{Instance}
use Rattle.sb_ctx.specs.Attachment.{Attachment, StandsOn, keeps_pages}
use Rattle.sb_ctx.specs.AttachAnswers.{AreBuilt, content_over_rows, content_with, first_content}
use Rattle.sb_ctx.specs.Laws.{IsAttachment}
use Rattle.sb_ctx.specs.View.{edits_of}
use Rattle.sb_registry.specs.Boxes.{Meanings, attachment_of}
use Rattle.sb_registry.specs.Live.{IsLiveRule}
use Rattle.sb_drive.specs.Slots.{Slots}
use Rattle.sb_drive.specs.Spaces.{LeadsWithin, Wanted}
use Rattle.sb_drive.proofs.SpacesLemmas.{LeadsWithin-more, LeadsWithin-none}
use Rattle.sb_deferred.proofs.RelationLemmas.{rows_of, schema_of}
use Rattle.sb_standing.specs.Standing.{is_join}
use Rattle.sb_standing.specs.Tables.{db_of}
use Rattle.sb_tables.specs.Calls.{CostsOver}
use Rattle.sb_tables.specs.Working.{extensions_of}
use Rattle.sb_tables.proofs.Bounded.{first_made, passes}
use Rattle.sb_building.specs.Building.{HoldsBuilt, IsNext}
use Rattle.sb_building.specs.Costs.{row_cost}
use Rattle.sb_building.specs.Instances.{HasNewPages, IsSite, Site}
use Rattle.sb_building.proofs.ContentLemmas.{at-rows}
use Rattle.sb_building.proofs.SiteLemmas.{BeforeBuild-site}

-- ---- the database over some rows
rows-over : (db : Db) (name : Name) (r : Relation) (rows : Rows) → relation_at db name ≡ Some r → rows_at (with_rows db name rows) name ≡ rows
rows-over db name r rows there = ap rows_of (at-rows db name r rows there)

schema-over : (db : Db) (name : Name) (r : Relation) (rows : Rows) → relation_at db name ≡ Some r → schema_at (with_rows db name rows) name ≡ schema_at db name
schema-over db name r rows there = ap schema_of (at-rows db name r rows there) ∙ sym (ap schema_of there)

-- ---- the room that a foreign box says it takes
abbrev own_content : Attachment → List ℕ → List Column → Rows → ℕ → Content
own_content box desc schema rows buckets = content_of (box.rules.image desc schema rows) (box.rules.counts desc schema rows) buckets

abbrev said_room : Attachment → AttachRoom
said_room box = record {
  code = box.rules.code;
  bound = λ desc schema rows buckets. box.bound (own_content box desc schema rows buckets);
  prepare = λ desc schema. box.cost Prepare (own_content box desc schema [] 0) (own_content box desc schema [] 0);
  cost = λ desc schema rows buckets c.
      box.cost (Changed c) (own_content box desc schema rows buckets) (own_content box desc schema (changed_rows rows c) buckets);
}

said_there : (m : Meanings) (box : Attachment) (code : ℕ) → attachment_of code m.attachments ≡ Some box → attach_room (extensions_of m) code ≡ Some (said_room box)
said_there m box code is = first_made (λ a. a.rules.code == code) (λ a. a.code == code) said_room (λ a. refl) m.attachments m.spare_attachments box is

-- ---- the call that builds the next row
module _ (m : Meanings) (box : Attachment) (inst : Instance) (db : Db) where
  -- what it costs is within what the definitions charge for it
  abbrev IsChargedRow : Rule → Rows → ℕ → Key → Row → Type 0
  IsChargedRow rule built buckets key row =
      box.cost (Build key row) (content_over_rows box inst rule db built buckets) (content_with box inst rule db built buckets key row)
      ≤ rule_cost (extensions_of m) (with_rows db inst.relation built) inst.relation rule buckets (Insert key row)

  build_by : (rule : Rule) (built : Rows) (buckets : ℕ) (key : Key) (row : Row) → box.rules.code ≡ rule_code rule → attachment_of (rule_code rule) m.attachments ≡ Some box → IsAttachment box
      → StandsOn box inst rule db → AreBuilt (rows_at db inst.relation) built key row → IsChargedRow rule built buckets key row
  build_by (TreeIndex columns unique) built buckets key row its is law stands are =
      (law.charged (ap keeps_pages its) (omega (arith, its))).builds (extensions_of m) inst (TreeIndex columns unique) db stands built buckets key row are
  build_by (HashIndex columns) built buckets key row its is law stands are =
      (law.charged (ap keeps_pages its) (omega (arith, its))).builds (extensions_of m) inst (HashIndex columns) db stands built buckets key row are
  build_by (JoinIndex side columns other others) built buckets key row its is law stands are =
      (law.charged (ap keeps_pages its) (omega (arith, its))).builds (extensions_of m) inst (JoinIndex side columns other others) db stands built buckets key row are
  build_by (Stats column low width) built buckets key row its is law stands are =
      (law.charged (ap keeps_pages its) (omega (arith, its))).builds (extensions_of m) inst (Stats column low width) db stands built buckets key row are
  build_by (Check pred deferred) built buckets key row its is law stands are =
      let rule = Check pred deferred in
      omega (arith, law.idle (ap keeps_pages its) (Build key row) (content_over_rows box inst rule db built buckets) (content_with box inst rule db built buckets key row))
  build_by (Refers side columns other others mode deferred) built buckets key row its is law stands are =
      let rule = Refers side columns other others mode deferred in
      omega (arith, law.idle (ap keeps_pages its) (Build key row) (content_over_rows box inst rule db built buckets) (content_with box inst rule db built buckets key row))
  build_by (Trigger on pred act deferred) built buckets key row its is law stands are =
      let rule = Trigger on pred act deferred in
      omega (arith, law.idle (ap keeps_pages its) (Build key row) (content_over_rows box inst rule db built buckets) (content_with box inst rule db built buckets key row))
  build_by (Foreign code desc) built buckets key row its is law stands are =
      omega (
        arith,
        law.inserts key row own (content_with box inst (Foreign code desc) db built buckets key row),
        ap (λ o. foreign_cost o desc (with_rows db inst.relation built) inst.relation buckets (Insert key row)) (said_there m box code is),
        ap (box.cost (Changed (Insert key row)) own) after,
      )
    where
      own : Content
      own = content_over_rows box inst (Foreign code desc) db built buckets

      more : Rows
      more = with_row built key row

      columns : schema_at (with_rows db inst.relation more) inst.relation ≡ schema_at (with_rows db inst.relation built) inst.relation
      columns = schema-over db inst.relation stands.relation more stands.there ∙ sym (schema-over db inst.relation stands.relation built stands.there)

      rows : rows_at (with_rows db inst.relation more) inst.relation ≡ with_row (rows_at (with_rows db inst.relation built) inst.relation) key row
      rows = rows-over db inst.relation stands.relation more stands.there
          ∙ sym (ap (λ (l : Rows). with_row l key row) (rows-over db inst.relation stands.relation built stands.there))

      after : content_with box inst (Foreign code desc) db built buckets key row
          ≡ own_content box desc (schema_at (with_rows db inst.relation built) inst.relation) (with_row (rows_at (with_rows db inst.relation built) inst.relation) key row) buckets
      after i = own_content box desc (columns i) (rows i) buckets

  pub build-is-charged : (rule : Rule) (built : Rows) (buckets : ℕ) (key : Key) (row : Row) → attachment_of (rule_code rule) m.attachments ≡ Some box → IsAttachment box
      → StandsOn box inst rule db → AreBuilt (rows_at db inst.relation) built key row → IsChargedRow rule built buckets key row
  build-is-charged rule built buckets key row is law stands are =
      build_by rule built buckets key row (eqb-true box.rules.code (rule_code rule) (passes (λ a. a.rules.code == rule_code rule) m.attachments box is)) is law stands are

-- ---- a new instance
most_owner : (keeps : Bool) → cond keeps 2 0 ≤ 2
most_owner true = omega arith
most_owner false = omega arith

module _ (m : Meanings) (box : Attachment) (inst : Instance) (db : Db) where
  -- its owner and the call that prepares it cost no more than the definitions charge for them
  abbrev IsChargedFirst : Rule → Type 0
  IsChargedFirst rule =
      cond (keeps_pages (rule_code rule)) 2 0 + box.cost Prepare (first_content box inst rule db) (first_content box inst rule db)
      ≤ prepare_cost (extensions_of m) inst.schema rule

  first_by : (rule : Rule) → box.rules.code ≡ rule_code rule → attachment_of (rule_code rule) m.attachments ≡ Some box → IsAttachment box → StandsOn box inst rule db → is_join rule ≡ false
      → IsChargedFirst rule
  first_by (TreeIndex columns unique) its is law stands joinless =
      (law.charged (ap keeps_pages its) (omega (arith, its))).prepares (extensions_of m) inst (TreeIndex columns unique) db stands
  first_by (HashIndex columns) its is law stands joinless =
      (law.charged (ap keeps_pages its) (omega (arith, its))).prepares (extensions_of m) inst (HashIndex columns) db stands
  first_by (JoinIndex side columns other others) its is law stands joinless = absurd (cc)
  first_by (Stats column low width) its is law stands joinless =
      (law.charged (ap keeps_pages its) (omega (arith, its))).prepares (extensions_of m) inst (Stats column low width) db stands
  first_by (Check pred deferred) its is law stands joinless =
      let first = first_content box inst (Check pred deferred) db in
      omega (arith, law.idle (ap keeps_pages its) Prepare first first)
  first_by (Refers side columns other others mode deferred) its is law stands joinless =
      let first = first_content box inst (Refers side columns other others mode deferred) db in
      omega (arith, law.idle (ap keeps_pages its) Prepare first first)
  first_by (Trigger on pred act deferred) its is law stands joinless =
      let first = first_content box inst (Trigger on pred act deferred) db in
      omega (arith, law.idle (ap keeps_pages its) Prepare first first)
  first_by (Foreign code desc) its is law stands joinless =
      omega (
        arith,
        most_owner (keeps_pages code),
        ap (λ o. foreign_prepare o desc inst.schema) (said_there m box code is),
        ap (λ (c : Content). box.cost Prepare c c) none,
      )
    where
      columns : schema_at (with_rows db inst.relation []) inst.relation ≡ inst.schema
      columns = schema-over db inst.relation stands.relation [] stands.there ∙ ap schema_of stands.there ∙ stands.schema

      none : first_content box inst (Foreign code desc) db ≡ own_content box desc inst.schema [] 0
      none i = own_content box desc (columns i) (rows-over db inst.relation stands.relation [] stands.there i) 0

  pub first-is-charged : (rule : Rule) → attachment_of (rule_code rule) m.attachments ≡ Some box → IsAttachment box → StandsOn box inst rule db → is_join rule ≡ false → IsChargedFirst rule
  first-is-charged rule is law stands joinless =
      first_by rule (eqb-true box.rules.code (rule_code rule) (passes (λ a. a.rules.code == rule_code rule) m.attachments box is)) is law stands joinless

-- its owner alone costs no more than that
pub owner-is-charged : (ext : Extensions) (schema : List Column) (rule : Rule) → is_join rule ≡ false → cond (keeps_pages (rule_code rule)) 2 0 ≤ prepare_cost ext schema rule
owner-is-charged ext schema (TreeIndex columns unique) joinless = omega arith
owner-is-charged ext schema (HashIndex columns) joinless = omega arith
owner-is-charged ext schema (JoinIndex side columns other others) joinless = absurd (cc)
owner-is-charged ext schema (Stats column low width) joinless = omega arith
owner-is-charged ext schema (Check pred deferred) joinless = omega arith
owner-is-charged ext schema (Refers side columns other others mode deferred) joinless = omega arith
owner-is-charged ext schema (Trigger on pred act deferred) joinless = omega arith
owner-is-charged ext schema (Foreign code desc) joinless = omega (arith, most_owner (keeps_pages code))

-- the columns of its relation are its own
pub schema-own : (box : Attachment) (inst : Instance) (rule : Rule) (db : Db) → StandsOn box inst rule db → schema_at db inst.relation ≡ inst.schema
schema-own box inst rule db stands = ap schema_of stands.there ∙ stands.schema

-- the live box of its code is that of its rule
pub live-by-rule : (m : Meanings) (inst : Instance) (live : IsLiveRule m inst) (rule : Rule) (db : Db) → StandsOn live.box inst rule db → attachment_of (rule_code rule) m.attachments ≡ Some live.box
live-by-rule m inst live rule db stands = ap (λ (n : ℕ). attachment_of n m.attachments) (sym (live.may.code ∙ stands.spelled.coded)) ∙ live.live

-- ---- where it works
module _ {S : Type 0} (Has : Wanted → Slots → S → Type 0) (Leads : ℕ → S → S → Type 0) (m : Meanings) (root : ℕ) (x : Site) (inst : Instance) (rule : Rule) (live : IsLiveRule m inst) (space old new : S)
    (site : IsSite Has m root x inst rule live.box space) where
  -- the call that prepares it
  pub costs-prepared : HasNewPages x live.box inst → Leads 0 old new ⊎ CostsOver Leads live.box inst Prepare (db_of x.kept) x.slots old new
      → LeadsWithin Leads (live.box.cost Prepare (first_content live.box inst rule (db_of x.kept)) (first_content live.box inst rule (db_of x.kept))) old new
  costs-prepared pages costs = ⊎_elim none some costs
    where
      first : Content
      first = first_content live.box inst rule (db_of x.kept)

      none : Leads 0 old new → LeadsWithin Leads (live.box.cost Prepare first first) old new
      none leads = LeadsWithin-none Leads (live.box.cost Prepare first first) old new leads

      some : CostsOver Leads live.box inst Prepare (db_of x.kept) x.slots old new → LeadsWithin Leads (live.box.cost Prepare first first) old new
      some over = LeadsWithin-more Leads (edits_of over.ctx) (live.box.cost Prepare first first) old new (over.spends pages rule (db_of x.kept) site.stands).edits over.leads

  -- and that which builds the next row
  pub costs-row : (built : Rows) (row : Key × Row) → IsNext x.one.relation.rows built row → HoldsBuilt x live.box inst rule built
      → Leads 0 old new ⊎ CostsOver Leads live.box inst (Build row.0 row.1) (db_of x.kept) x.slots old new
      → LeadsWithin Leads (row_cost (extensions_of m) (db_of x.kept) inst.relation rule built row) old new
  costs-row built row next over costs = ⊎_elim none some costs
    where
      most : ℕ
      most = row_cost (extensions_of m) (db_of x.kept) inst.relation rule built row

      none : Leads 0 old new → LeadsWithin Leads most old new
      none leads = LeadsWithin-none Leads most old new leads

      some : CostsOver Leads live.box inst (Build row.0 row.1) (db_of x.kept) x.slots old new → LeadsWithin Leads most old new
      some it =
          let before = BeforeBuild-site Has m root x inst rule live.box space built row it.view site next over it.found in
          let within = (it.spends rule (db_of x.kept) site.stands built (standing_buckets rule built) before).edits in
          let charged = build-is-charged m live.box inst (db_of x.kept) rule built (standing_buckets rule built) row.0 row.1 (live-by-rule m inst live rule (db_of x.kept) site.stands) live.law site.stands before.of in
          LeadsWithin-more Leads (edits_of it.ctx) most old new (omega (arith, within, charged)) it.leads
