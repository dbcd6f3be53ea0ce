-- Calls of a new instance, where it works.
use Rattle.std.proofs.Common.{◌≡◌, ℕ, Bool, true, false, true≢false, List, [], Option, Some, None, get_or, refl, sym, ap, subst, ◌∙◌}
use Rattle.std.proofs.lemmas.Option.{same_Some}
use Rattle.sb_value.specs.declared.schema.Column.{Column}
use Rattle.sb_rule.specs.declared.change.Change.TheVariants.{Insert}
use Rattle.sb_rule.specs.declared.rule.Rule.{Rule}
use Rattle.sb_rule.specs.Spelling.{SpellsRule}
use Rattle.sb_relation.specs.Buckets.{standing_buckets}
use Rattle.sb_relation.specs.Content.{Content}
use Rattle.sb_relation.specs.Db.{Key, Row, Rows, Relation, Db, relation_at, rows_at}
use Rattle.sb_relation.specs.Lawful.{AreRows, IsRow, is_long_for}
use Rattle.sb_forms.specs.Pages.{Pages}
use Rattle.sb_catalog.proofs.Parts.{one_rule}
use Rattle.sb_ctx.specs.declared.instance.Instance.{Instance}
use Rattle.sb_ctx.specs.declared.calls.AttachCall.TheVariants as call
use Rattle.sb_ctx.specs.declared.moves.Move.{Move}
use Rattle.sb_ctx.specs.declared.moves.Move.TheVariants.{Done, Acts, Need, Fresh, After, Find, Veto, NoRecord, Duplicate, Range, Key as Keyed, Row as Rowed, Entry, Sums, Hits, End, Broken, NoMemory}
use Rattle.sb_ctx.specs.View.{FoundIn, View}
use Rattle.sb_ctx.specs.Attachment.{Attachment, MayHold, StandsOn}
use Rattle.sb_ctx.specs.AttachAnswers.{AreBuilt as AreSome, Answers, BeforeBuild, Built, Holds, admits_built, content_with, first_content, pages_of_new}
use Rattle.sb_registry.specs.Boxes.{Meanings}
use Rattle.sb_drive.specs.Slots.{Slots, owned}
use Rattle.sb_drive.specs.Spaces.{Wanted}
use Rattle.sb_standing.specs.Tables.{Kept, KeepsOthers, KeepsTable, Tables, db_of}
use Rattle.sb_standing.proofs.KeptLemmas.{kept_at-all, relation_at-there}
use Rattle.sb_standing.proofs.LawfulLemmas.{AreRows-table}
use Rattle.sb_standing.proofs.PagesLemmas.{Tables-pages}
use Rattle.sb_tables.specs.Opened.{IsDurable}
use Rattle.sb_tables.specs.Calls.{IsAsked, IsFinal}
use Rattle.sb_building.specs.Building.{HoldsBuilt, IsBuilding, IsBuilt, IsNext, content_built, is_done}
use Rattle.sb_building.specs.Instances.{IsApart, IsSite, Site}
use Rattle.sb_building.proofs.ContentLemmas.{content-next}
use Rattle.sb_building.proofs.RowsLemmas.{AreBuilt-next, AreRows-built}

-- ---- pages of others
-- the relations are kept while the instance's own pages change
pub Tables-apart : (m : Meanings) (root owner : ℕ) (s t : Slots) (kept : List Kept) → IsApart owner kept → KeepsOthers owner s t → Tables m IsDurable root s kept → Tables m IsDurable root t kept
Tables-apart m root owner s t kept apart others tables =
    Tables-pages m IsDurable root s t kept (others 2 apart.catalogue) (λ n d in'. others (get_or kept n d).descriptor.owner (apart.tables n d in')) tables

module _ {S : Type 0} (Has : Wanted → Slots → S → Type 0) (m : Meanings) (root : ℕ) (x : Site) (inst : Instance) (rule : Rule) (box : Attachment) where
  pub IsSite-on : (old new : S) (t : Slots) → IsSite Has m root x inst rule box old → Has x.want t new → KeepsOthers inst.owner x.slots t
      → IsSite Has m root (record x { slots = t }) inst rule box new
  IsSite-on old new t site has others = record {
    has = has;
    tables = Tables-apart m root inst.owner x.slots t x.kept site.apart others site.tables;
    stand = site.stand;
    there = site.there;
    stands = site.stands;
    apart = site.apart;
  }

  -- a call that looks leaves it
  pub IsSite-later : (old new : S) → ((want : Wanted) (s : Slots) → Has want s old → Has want s new) → IsSite Has m root x inst rule box old → IsSite Has m root x inst rule box new
  IsSite-later old new later site = record {
    has = later x.want x.slots site.has;
    tables = site.tables;
    stand = site.stand;
    there = site.there;
    stands = site.stands;
    apart = site.apart;
  }

  module _ (space : S) (site : IsSite Has m root x inst rule box space) where
    pub relation_there : relation_at (db_of x.kept) inst.relation ≡ Some x.one.relation
    relation_there = relation_at-there x.kept inst.relation x.one site.there

    pub rows_there : rows_at (db_of x.kept) inst.relation ≡ x.one.relation.rows
    rows_there = ap (λ (o : Option Relation). elim o as (λ _. Rows) [ None ↦ [] | Some r ↦ r.rows ]) relation_there

    pub table_there : KeepsTable m IsDurable x.slots x.one
    table_there = kept_at-all (KeepsTable m IsDurable x.slots) x.kept inst.relation x.one site.tables.each site.there

    -- the columns of the instance are the relation's
    pub schema_there : x.one.relation.schema ≡ inst.schema
    schema_there = ap (λ (r : Relation). r.schema) (same_Some x.one.relation site.stands.relation (sym relation_there ∙ site.stands.there)) ∙ site.stands.schema

    pub rows_are : AreRows inst.schema x.one.relation.rows
    rows_are = subst (λ (c : List Column). AreRows c x.one.relation.rows) schema_there (AreRows-table m IsDurable x.slots x.one table_there)

-- ---- the ends of calls
pub IsDone-prepared : (move : Move) → IsFinal call.Prepare move → move ≡ Done
IsDone-prepared Done is = refl
IsDone-prepared (Acts now late checks) is = absurd is.may
IsDone-prepared Veto is = absurd is.may
IsDone-prepared (Need n) is = absurd is.last
IsDone-prepared Fresh is = absurd is.last
IsDone-prepared (After low) is = absurd is.last
IsDone-prepared (Find relation columns values) is = absurd is.last
IsDone-prepared NoRecord is = absurd is.may
IsDone-prepared Duplicate is = absurd is.may
IsDone-prepared Range is = absurd is.may
IsDone-prepared (Keyed key) is = absurd is.may
IsDone-prepared (Rowed key row) is = absurd is.may
IsDone-prepared (Entry first second) is = absurd is.may
IsDone-prepared (Sums sums) is = absurd is.may
IsDone-prepared (Hits keys) is = absurd is.may
IsDone-prepared End is = absurd is.may
IsDone-prepared (Broken page) is = absurd is.last
IsDone-prepared NoMemory is = absurd is.last

pub Prepared-asked : (box : Attachment) (inst : Instance) (rule : Rule) (db : Db) (P after : Pages) (move : Move) → IsFinal call.Prepare move → StandsOn box inst rule db → ((n : ℕ) → P n ≡ pages_of_new box inst n)
    → IsAsked box inst call.Prepare db P after move → Holds box inst after (first_content box inst rule db)
Prepared-asked box inst rule db P after move final stands new asked =
    let answers = subst (λ (d : Move). Answers box inst call.Prepare asked.view P after d) (IsDone-prepared move final) asked.answers in
    answers new rule db stands

pub IsBuilding-final : (key : Key) (row : Row) (move : Move) → IsFinal (call.Build key row) move → IsBuilding move
IsBuilding-final key row Done is = tt
IsBuilding-final key row Veto is = tt
IsBuilding-final key row (Acts now late checks) is = absurd is.may
IsBuilding-final key row (Need n) is = absurd is.last
IsBuilding-final key row Fresh is = absurd is.last
IsBuilding-final key row (After low) is = absurd is.last
IsBuilding-final key row (Find relation columns values) is = absurd is.last
IsBuilding-final key row NoRecord is = absurd is.may
IsBuilding-final key row Duplicate is = absurd is.may
IsBuilding-final key row Range is = absurd is.may
IsBuilding-final key row (Keyed k) is = absurd is.may
IsBuilding-final key row (Rowed k r) is = absurd is.may
IsBuilding-final key row (Entry first second) is = absurd is.may
IsBuilding-final key row (Sums sums) is = absurd is.may
IsBuilding-final key row (Hits keys) is = absurd is.may
IsBuilding-final key row End is = absurd is.may
IsBuilding-final key row (Broken page) is = absurd is.last
IsBuilding-final key row NoMemory is = absurd is.last

Built-answers : (box : Attachment) (inst : Instance) (rule : Rule) (db : Db) (built : Rows) (buckets : ℕ) (key : Key) (row : Row) (view : View) (P after : Pages) (move : Move) → IsBuilding move → StandsOn box inst rule db
    → BeforeBuild box inst rule db built buckets key row view P → Answers box inst (call.Build key row) view P after move → Built box inst rule db built buckets key row after move
Built-answers box inst rule db built buckets key row view P after Done is stands before answers = answers rule db stands built buckets before
Built-answers box inst rule db built buckets key row view P after Veto is stands before answers = answers rule db stands built buckets before
Built-answers box inst rule db built buckets key row view P after (Acts now late checks) is stands before answers = absurd is
Built-answers box inst rule db built buckets key row view P after (Need n) is stands before answers = absurd is
Built-answers box inst rule db built buckets key row view P after Fresh is stands before answers = absurd is
Built-answers box inst rule db built buckets key row view P after (After low) is stands before answers = absurd is
Built-answers box inst rule db built buckets key row view P after (Find relation columns values) is stands before answers = absurd is
Built-answers box inst rule db built buckets key row view P after NoRecord is stands before answers = absurd is
Built-answers box inst rule db built buckets key row view P after Duplicate is stands before answers = absurd is
Built-answers box inst rule db built buckets key row view P after Range is stands before answers = absurd is
Built-answers box inst rule db built buckets key row view P after (Keyed k) is stands before answers = absurd is
Built-answers box inst rule db built buckets key row view P after (Rowed k r) is stands before answers = absurd is
Built-answers box inst rule db built buckets key row view P after (Entry first second) is stands before answers = absurd is
Built-answers box inst rule db built buckets key row view P after (Sums sums) is stands before answers = absurd is
Built-answers box inst rule db built buckets key row view P after (Hits keys) is stands before answers = absurd is
Built-answers box inst rule db built buckets key row view P after End is stands before answers = absurd is
Built-answers box inst rule db built buckets key row view P after (Broken page) is stands before answers = absurd is
Built-answers box inst rule db built buckets key row view P after NoMemory is stands before answers = absurd is

-- whether it is admitted, and what the pages hold where it is
record HasBuilt (box : Attachment) (inst : Instance) (rule : Rule) (db : Db) (built : Rows) (row : Key × Row) (after : Pages) (admitted : Bool) : Type 0 where
  pub says : admitted ≡ admits_built box inst rule db built (Insert row.0 row.1)
  pub keeps : admitted ≡ true → Holds box inst after (content_with box inst rule db built (standing_buckets rule built) row.0 row.1)

has_built : (box : Attachment) (inst : Instance) (rule : Rule) (db : Db) (built : Rows) (row : Key × Row) (after : Pages) (move : Move) → IsBuilding move
    → Built box inst rule db built (standing_buckets rule built) row.0 row.1 after move → HasBuilt box inst rule db built row after (is_done move)
has_built box inst rule db built row after Done is made = record { says = sym made.0; keeps = λ _. made.1 }
has_built box inst rule db built row after Veto is made = record { says = sym made.0; keeps = λ for_it. absurd (true≢false (sym for_it)) }
has_built box inst rule db built row after (Acts now late checks) is made = absurd is
has_built box inst rule db built row after (Need n) is made = absurd is
has_built box inst rule db built row after Fresh is made = absurd is
has_built box inst rule db built row after (After low) is made = absurd is
has_built box inst rule db built row after (Find relation columns values) is made = absurd is
has_built box inst rule db built row after NoRecord is made = absurd is
has_built box inst rule db built row after Duplicate is made = absurd is
has_built box inst rule db built row after Range is made = absurd is
has_built box inst rule db built row after (Keyed key) is made = absurd is
has_built box inst rule db built row after (Rowed key r) is made = absurd is
has_built box inst rule db built row after (Entry first second) is made = absurd is
has_built box inst rule db built row after (Sums sums) is made = absurd is
has_built box inst rule db built row after (Hits keys) is made = absurd is
has_built box inst rule db built row after End is made = absurd is
has_built box inst rule db built row after (Broken page) is made = absurd is
has_built box inst rule db built row after NoMemory is made = absurd is

-- what a build of the next row is called on
pub BeforeBuild-site : {S : Type 0} (Has : Wanted → Slots → S → Type 0) (m : Meanings) (root : ℕ) (x : Site) (inst : Instance) (rule : Rule) (box : Attachment) (space : S) (built : Rows) (row : Key × Row) (view : View)
    → IsSite Has m root x inst rule box space → IsNext x.one.relation.rows built row → HoldsBuilt x box inst rule built → FoundIn view (db_of x.kept)
    → BeforeBuild box inst rule (db_of x.kept) built (standing_buckets rule built) row.0 row.1 view (owned x.slots inst.owner)
unfolding content_built
BeforeBuild-site Has m root x inst rule box space built row view site next over found =
    let are = rows_are Has m root x inst rule box space site in
    record {
      of = subst (λ (rows : Rows). AreSome rows built row.0 row.1) (sym (rows_there Has m root x inst rule box space site)) (AreBuilt-next inst.schema x.one.relation.rows built row are next);
      lawful = AreRows-built inst.schema x.one.relation.rows built row are next;
      found = found;
      content = over;
    }

pub IsBuilt-asked : {S : Type 0} (Has : Wanted → Slots → S → Type 0) (m : Meanings) (root : ℕ) (x : Site) (inst : Instance) (rule : Rule) (box : Attachment) (space : S) (built : Rows) (row : Key × Row) (after : Pages) (move : Move)
    → IsSite Has m root x inst rule box space → IsNext x.one.relation.rows built row → HoldsBuilt x box inst rule built → IsFinal (call.Build row.0 row.1) move
    → IsAsked box inst (call.Build row.0 row.1) (db_of x.kept) (owned x.slots inst.owner) after move → IsBuilt box inst rule (db_of x.kept) built row (is_done move) after
unfolding content_built
IsBuilt-asked Has m root x inst rule box space built row after move site next over final asked =
    let db = db_of x.kept in
    let P = owned x.slots inst.owner in
    let are = rows_are Has m root x inst rule box space site in
    let is = IsBuilding-final row.0 row.1 move final in
    let before = BeforeBuild-site Has m root x inst rule box space built row asked.view site next over asked.found in
    let made = has_built box inst rule db built row after move is (Built-answers box inst rule db built (standing_buckets rule built) row.0 row.1 asked.view P after move is site.stands before asked.answers) in
    record {
      says = made.says;
      keeps = λ for_it. subst (λ (c : Content). Holds box inst after c) (content-next box inst rule db inst.schema x.one.relation.rows built row are next) (made.keeps for_it);
    }

-- ---- a row that a call may be given
pub MayHold-row : (box : Attachment) (inst : Instance) (rule : Rule) (row : Row) → IsRow inst.schema row → SpellsRule box.rules.code inst.desc rule → is_long_for inst.schema row rule ≡ false → MayHold box inst row
MayHold-row box inst rule row is spelled short = record {
  is_row = is;
  code = λ other spells. ap (is_long_for inst.schema row) (one_rule box.rules.code inst.desc other rule spells spelled) ∙ short;
}
