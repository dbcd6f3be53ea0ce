-- The database after a change of one relation.
use Rattle.std.proofs.Common.{◌≡◌, ℕ, Bool, true, false, true≢false, cond, List, [], ◌++◌, Option, Some, None, option_map, is_none, bytes_eq, refl, sym, ap, ◌∙◌}
use Rattle.std.specs.FinMap.Entries.{find-put}
use Rattle.std.specs.List.{find}
use Rattle.std.proofs.lemmas.Cmp.{nat_list_cmp_total}
use Rattle.std.proofs.lemmas.Map.Text.{is_eq-slice_cmp}
use Rattle.sb_value.specs.declared.schema.Column.{Column}
use Rattle.sb_value.specs.Equal.{bytes_same}
use Rattle.sb_value.specs.Order.{bytes_cmp}
use Rattle.sb_rule.specs.declared.change.Change.{Change}
use Rattle.sb_rule.specs.declared.rule.Rule.{Rule}
use Rattle.sb_rule.specs.declared.rule.Rule.TheVariants.{TreeIndex, HashIndex, JoinIndex, Stats, Check, Refers, Trigger, Foreign}
use Rattle.sb_relation.specs.Changes.{changed, changed_rows, with_change}
use Rattle.sb_relation.specs.Content.{content_of, foreign_counts, page_content}
use Rattle.sb_relation.specs.Db.{Name, Rows, Relation, Db, relation_at, with_relation, rows_at, schema_at}
use Rattle.sb_relation.specs.Fits.{MayStand, relation_of, other_relations, first_unnamed, places_in, pred_places, action_places, rule_places, are_one_kind, kinds_at, rule_fits}
use Rattle.sb_relation.specs.Foreign.{AttachRules}
use Rattle.sb_relation.specs.Images.{entries_only, index_entries, stats_sums, column_ints, foreign_image}
use Rattle.sb_rows.specs.Instance.{Instance}
use Rattle.sb_rows.specs.Attachment.{Attachment, AreLawful, StandsOn}
use Rattle.sb_rows.specs.AttachAnswers.{content_over}
use Rattle.sb_standing.specs.Standing.{is_join}

-- ---- its relations
-- a relation after a change of the named one
abbrev pub after_change : Name → Name → Change → Relation → Relation
after_change other name c r = cond (bytes_eq other name) (with_change r c (changed_rows r.rows c)) r

abbrev columns_of : Option Relation → List Column
columns_of o = elim o as (λ _. List Column) [ None ↦ [] | Some r ↦ r.schema ]

abbrev rows_of : Option Relation → Rows
rows_of o = elim o as (λ _. Rows) [ None ↦ [] | Some r ↦ r.rows ]

pub relation_at-changed : (db : Db) (name : Name) (c : Change) (other : Name) → relation_at (changed db name c) other ≡ option_map (after_change other name c) (relation_at db other)
relation_at-changed db name c other = by (relation_at db name) refl
  where
    itself : (b : Bool) → bytes_eq other name ≡ b → relation_at db name ≡ None → (o : Option Relation) → relation_at db other ≡ o → o ≡ option_map (λ r. cond b (with_change r c (changed_rows r.rows c)) r) o
    itself b same none None at = refl
    itself true same none (Some r) at = absurd (let e = sym at ∙ ap (relation_at db) ((bytes_same other name).0 same) ∙ none in cc)
    itself false same none (Some r) at = refl

    one : (b : Bool) (r : Relation) → bytes_eq other name ≡ b → relation_at db name ≡ Some r →
        cond b (Some (with_change r c (changed_rows r.rows c))) (relation_at db other) ≡ option_map (λ q. cond b (with_change q c (changed_rows q.rows c)) q) (relation_at db other)
    one true r same there = sym (ap (option_map (λ (q : Relation). with_change q c (changed_rows q.rows c))) (ap (relation_at db) ((bytes_same other name).0 same) ∙ there))
    one false r same there = elim (relation_at db other) as (λ o. o ≡ option_map (λ (q : Relation). q) o) [ None ↦ refl | Some q ↦ refl ]

    by : (o : Option Relation) → relation_at db name ≡ o →
        relation_at (elim o [ None ↦ db | Some r ↦ with_relation db name (with_change r c (changed_rows r.rows c)) ]) other ≡ option_map (after_change other name c) (relation_at db other)
    by None at = itself (bytes_eq other name) refl at (relation_at db other) refl
    by (Some r) at =
        find-put bytes_cmp nat_list_cmp_total other name (with_change r c (changed_rows r.rows c)) db
        ∙ ap (λ b. cond b (Some (with_change r c (changed_rows r.rows c))) (relation_at db other)) (is_eq-slice_cmp other name)
        ∙ one (bytes_eq other name) r refl at

-- it has the same columns, and the same relations are there
schema-after : (other name : Name) (c : Change) (o : Option Relation) → columns_of (option_map (after_change other name c) o) ≡ columns_of o
schema-after other name c None = refl
schema-after other name c (Some r) = elim (bytes_eq other name) as (λ b. (cond b (with_change r c (changed_rows r.rows c)) r).schema ≡ r.schema) [ true ↦ refl | false ↦ refl ]

pub schema_at-changed : (db : Db) (name : Name) (c : Change) (other : Name) → schema_at (changed db name c) other ≡ schema_at db other
schema_at-changed db name c other = ap columns_of (relation_at-changed db name c other) ∙ schema-after other name c (relation_at db other)

none-after : (f : Relation → Relation) (o : Option Relation) → is_none (option_map f o) ≡ is_none o
none-after f None = refl
none-after f (Some r) = refl

pub is_none-changed : (db : Db) (name : Name) (c : Change) (other : Name) → is_none (relation_at (changed db name c) other) ≡ is_none (relation_at db other)
is_none-changed db name c other = ap (λ (o : Option Relation). is_none o) (relation_at-changed db name c other) ∙ none-after (after_change other name c) (relation_at db other)

-- another relation is as it was
not_same : (a b : Name) → (a ≡ b → ⊥) → bytes_eq a b ≡ false
not_same a b apart = by (bytes_eq a b) refl
  where
    by : (t : Bool) → bytes_eq a b ≡ t → t ≡ false
    by true same = absurd (apart ((bytes_same a b).0 same))
    by false same = refl

pub relation_at-elsewhere : (db : Db) (name : Name) (c : Change) (other : Name) → (other ≡ name → ⊥) → relation_at (changed db name c) other ≡ relation_at db other
relation_at-elsewhere db name c other apart =
    relation_at-changed db name c other
    ∙ ap (λ b. option_map (λ (r : Relation). cond b (with_change r c (changed_rows r.rows c)) r) (relation_at db other)) (not_same other name apart)
    ∙ elim (relation_at db other) as (λ o. option_map (λ (r : Relation). r) o ≡ o) [ None ↦ refl | Some r ↦ refl ]

pub rows_at-elsewhere : (db : Db) (name : Name) (c : Change) (other : Name) → (other ≡ name → ⊥) → rows_at (changed db name c) other ≡ rows_at db other
rows_at-elsewhere db name c other apart = ap rows_of (relation_at-elsewhere db name c other apart)

-- the rows of a relation that is there
pub rows_at-there : (db : Db) (name : Name) (r : Relation) → relation_at db name ≡ Some r → rows_at db name ≡ r.rows
rows_at-there db name r there = ap rows_of there

-- ---- rules over it
-- a rule may stand where the same relations are there with the same columns
rule_places-alike : (before after : Db) (schema : List Column) (rule : Rule) → ((n : Name) → schema_at after n ≡ schema_at before n) → rule_places after schema rule ≡ rule_places before schema rule
rule_places-alike before after schema (TreeIndex columns unique) same = refl
rule_places-alike before after schema (HashIndex columns) same = refl
rule_places-alike before after schema (JoinIndex side columns other others) same = ap (λ (s : List Column). places_in schema columns ++ places_in s others) (same other)
rule_places-alike before after schema (Stats column low width) same = refl
rule_places-alike before after schema (Check pred deferred) same = refl
rule_places-alike before after schema (Refers side columns other others mode deferred) same = ap (λ (s : List Column). places_in schema columns ++ places_in s others) (same other)
rule_places-alike before after schema (Trigger on pred act deferred) same = ap (λ (s : List Column). pred_places schema pred ++ action_places s schema act) (same (relation_of act))
rule_places-alike before after schema (Foreign code desc) same = refl

rule_fits-alike : (box : Option AttachRules) (before after : Db) (schema : List Column) (rule : Rule) → ((n : Name) → schema_at after n ≡ schema_at before n) → rule_fits box after schema rule ≡ rule_fits box before schema rule
rule_fits-alike box before after schema (TreeIndex columns unique) same = refl
rule_fits-alike box before after schema (HashIndex columns) same = refl
rule_fits-alike box before after schema (JoinIndex side columns other others) same = ap (λ (s : List Column). are_one_kind (kinds_at schema columns) (kinds_at s others)) (same other)
rule_fits-alike box before after schema (Stats column low width) same = refl
rule_fits-alike box before after schema (Check pred deferred) same = refl
rule_fits-alike box before after schema (Refers side columns other others mode deferred) same = ap (λ (s : List Column). are_one_kind (kinds_at schema columns) (kinds_at s others)) (same other)
rule_fits-alike box before after schema (Trigger on pred act deferred) same = rw (same (relation_of act)) refl
rule_fits-alike box before after schema (Foreign code desc) same = refl

pub MayStand-alike : (box : Option AttachRules) (before after : Db) (schema : List Column) (rule : Rule) → ((n : Name) → is_none (relation_at after n) ≡ is_none (relation_at before n)) →
    ((n : Name) → schema_at after n ≡ schema_at before n) → MayStand box before schema rule → MayStand box after schema rule
MayStand-alike box before after schema rule there same may = record {
  there = ap (λ (missing : Name → Bool). find missing (other_relations rule)) (λ i n. there n i) ∙ may.there;
  named = ap first_unnamed (rule_places-alike before after schema rule same) ∙ may.named;
  fits = rule_fits-alike box before after schema rule same ∙ may.fits;
}

-- a rule that stands on the database stands on the changed one
pub StandsOn-changed : (box : Attachment) (inst : Instance) (rule : Rule) (db : Db) (name : Name) (c : Change) → StandsOn box inst rule db → AreLawful (changed db name c) → StandsOn box inst rule (changed db name c)
StandsOn-changed box inst rule db name c stands lawful = record {
  spelled = stands.spelled;
  relation = after_change inst.relation name c stands.relation;
  there = relation_at-changed db name c inst.relation ∙ ap (option_map (after_change inst.relation name c)) stands.there;
  schema = elim (bytes_eq inst.relation name) as (λ b. (cond b (with_change stands.relation c (changed_rows stands.relation.rows c)) stands.relation).schema ≡ inst.schema) [
    | true ↦ stands.schema
    | false ↦ stands.schema
  ];
  lawful = lawful;
  joins = stands.joins;
  may = MayStand-alike (Some box.rules) db (changed db name c) inst.schema rule (is_none-changed db name c) (schema_at-changed db name c) stands.may;
}

-- ---- contents over it
-- that of a rule of one relation is over the columns and the rows of this relation alone
pub page_content-alike : (box : Option AttachRules) (before after : Db) (name : Name) (rule : Rule) (buckets : ℕ) → is_join rule ≡ false → schema_at after name ≡ schema_at before name → rows_at after name ≡ rows_at before name →
    page_content box after name rule buckets ≡ page_content box before name rule buckets
page_content-alike box before after name (JoinIndex side columns other others) buckets is schema rows = absurd (true≢false is)
page_content-alike box before after name (TreeIndex columns unique) buckets is schema rows = λ i. content_of (entries_only (index_entries (schema i) columns (rows i))) [] buckets
page_content-alike box before after name (HashIndex columns) buckets is schema rows = λ i. content_of (entries_only (index_entries (schema i) columns (rows i))) [] buckets
page_content-alike box before after name (Stats column low width) buckets is schema rows = λ i. content_of (record { entries = []; sums = stats_sums low width (column_ints (schema i) column (rows i)) }) [] buckets
page_content-alike box before after name (Check pred deferred) buckets is schema rows = refl
page_content-alike box before after name (Refers side columns other others mode deferred) buckets is schema rows = refl
page_content-alike box before after name (Trigger on pred act deferred) buckets is schema rows = refl
page_content-alike box before after name (Foreign code desc) buckets is schema rows = λ i. content_of (foreign_image box desc (schema i) (rows i)) (foreign_counts box desc (schema i) (rows i)) buckets

-- a rule of another relation has the same content
pub content_over-changed : (box : Attachment) (inst : Instance) (rule : Rule) (db : Db) (name : Name) (c : Change) (buckets : ℕ) → (inst.relation ≡ name → ⊥) → is_join rule ≡ false →
    content_over box inst rule (changed db name c) buckets ≡ content_over box inst rule db buckets
content_over-changed box inst rule db name c buckets apart is =
    page_content-alike (Some box.rules) db (changed db name c) inst.relation rule buckets is (schema_at-changed db name c inst.relation) (rows_at-elsewhere db name c inst.relation apart)
