-- Rules over a database in which the relations that they name have the same rows and columns.
use Rattle.std.proofs.Common.{◌≡◌, ℕ, cond, ◌&&◌, List, [], ◌∷◌, ◌++◌, map, filter, get_or, All, Option, Some, None, is_none, refl, sym, ap, subst, ◌∙◌}
use Rattle.std.specs.List.{flat_map}
use Rattle.std.proofs.lemmas.List.Elements.{All-head}
use Rattle.sb_value.specs.declared.schema.Column.{Column}
use Rattle.sb_pred.specs.Typing.{term_kind, is_well_typed}
use Rattle.sb_rule.specs.declared.rule.Rule.{Rule}
use Rattle.sb_rule.specs.declared.rule.Rule.TheVariants.{TreeIndex, HashIndex, JoinIndex, Stats, Check, Refers, Trigger, Foreign}
use Rattle.sb_rule.specs.declared.rule.Side.TheVariants.{Main, Mirror}
use Rattle.sb_relation.specs.Content.{Content, content_of, foreign_counts}
use Rattle.sb_relation.specs.Db
use Rattle.sb_relation.specs.Db.{Name, Rows, Relation, Db, relation_at, schema_at, rows_at, values_in}
use Rattle.sb_relation.specs.Fits.{relation_of, other_relations, first_missing, places_in, pred_places, action_places, first_unnamed, kinds_at, are_one_kind, has_old, has_new, action_fits, MayStand}
use Rattle.sb_relation.specs.Foreign.{AttachRules}
use Rattle.sb_relation.specs.Images.{Entry, entries_only, index_entries, join_entries, stats_sums, column_ints, foreign_image}
use Rattle.sb_relation.specs.Lawful.{AreRows}
use Rattle.sb_relation.specs.Rules.{has_values}
use Rattle.sb_rows.specs.Instance.{Instance}
use Rattle.sb_rows.specs.Attachment.{Attachment, AreLawful, StandsOn}
use Rattle.sb_rows.specs.AttachAnswers.{Holds, content_over}
use Rattle.sb_rows.specs.Boxes.{Meanings}
use Rattle.sb_rows.specs.Slots.{Slots, owned}
use Rattle.sb_standing.specs.Standing.{KeepsRule}

-- ---- relations
-- the same rows and columns, or neither is there
abbrev pub AreAlike : Option Relation → Option Relation → Type 0
AreAlike None None = Unit {0}
AreAlike None (Some r) = ⊥
AreAlike (Some q) None = ⊥
AreAlike (Some q) (Some r) = (r.schema ≡ q.schema) × (r.rows ≡ q.rows)

pub record IsAlike (db after : Db) (name : Name) : Type 0 where
  pub alike : AreAlike (relation_at db name) (relation_at after name)

pub alike-itself : (o : Option Relation) → AreAlike o o
alike-itself None = tt
alike-itself (Some r) = (refl, refl)

pub IsAlike-same : (db after : Db) (name : Name) → relation_at after name ≡ relation_at db name → IsAlike db after name
IsAlike-same db after name same = record { alike = subst (λ (o : Option Relation). AreAlike (relation_at db name) o) (sym same) (alike-itself (relation_at db name)) }

pub alike-schema : (p q : Option Relation) → AreAlike p q → elim q as (λ _. List Column) [ None ↦ [] | Some r ↦ r.schema ] ≡ elim p as (λ _. List Column) [ None ↦ [] | Some r ↦ r.schema ]
alike-schema None None is = refl
alike-schema None (Some r) is = absurd is
alike-schema (Some q) None is = absurd is
alike-schema (Some q) (Some r) is = is.0

pub alike-rows : (p q : Option Relation) → AreAlike p q → elim q as (λ _. Rows) [ None ↦ [] | Some r ↦ r.rows ] ≡ elim p as (λ _. Rows) [ None ↦ [] | Some r ↦ r.rows ]
alike-rows None None is = refl
alike-rows None (Some r) is = absurd is
alike-rows (Some q) None is = absurd is
alike-rows (Some q) (Some r) is = is.1

pub alike-there : (p q : Option Relation) → AreAlike p q → is_none q ≡ is_none p
alike-there None None is = refl
alike-there None (Some r) is = absurd is
alike-there (Some q) None is = absurd is
alike-there (Some q) (Some r) is = refl

pub schema_at-alike : (db after : Db) (name : Name) → IsAlike db after name → schema_at after name ≡ schema_at db name
schema_at-alike db after name is = alike-schema (relation_at db name) (relation_at after name) is.alike

pub rows_at-alike : (db after : Db) (name : Name) → IsAlike db after name → rows_at after name ≡ rows_at db name
rows_at-alike db after name is = alike-rows (relation_at db name) (relation_at after name) is.alike

-- ---- a rule may stand on it
none_missing : (db after : Db) (other : Name) → IsAlike db after other → first_missing db (other ∷ []) ≡ None → first_missing after (other ∷ []) ≡ None
none_missing db after other is may = ap (λ b. cond b (Some other) None) (alike-there (relation_at db other) (relation_at after other) is.alike) ∙ may

pub MayStand-alike : (box : Option AttachRules) (db after : Db) (schema : List Column) (rule : Rule) → All (IsAlike db after) (other_relations rule) → MayStand box db schema rule → MayStand box after schema rule
MayStand-alike box db after schema (TreeIndex columns unique) alike may = record { there = refl; named = may.named; fits = may.fits }
MayStand-alike box db after schema (HashIndex columns) alike may = record { there = refl; named = may.named; fits = may.fits }
MayStand-alike box db after schema (Stats column low width) alike may = record { there = refl; named = may.named; fits = may.fits }
MayStand-alike box db after schema (Check pred deferred) alike may = record { there = refl; named = may.named; fits = may.fits }
MayStand-alike box db after schema (Foreign code desc) alike may = record { there = refl; named = may.named; fits = may.fits }
MayStand-alike box db after schema (JoinIndex side columns other others) alike may =
    let is = All-head (IsAlike db after) other [] alike in
    let same = schema_at-alike db after other is in
    record {
      there = none_missing db after other is may.there;
      named = ap (λ (s : List Column). first_unnamed (places_in schema columns ++ places_in s others)) same ∙ may.named;
      fits = ap (λ (s : List Column). are_one_kind (kinds_at schema columns) (kinds_at s others)) same ∙ may.fits;
    }
MayStand-alike box db after schema (Refers side columns other others mode deferred) alike may =
    let is = All-head (IsAlike db after) other [] alike in
    let same = schema_at-alike db after other is in
    record {
      there = none_missing db after other is may.there;
      named = ap (λ (s : List Column). first_unnamed (places_in schema columns ++ places_in s others)) same ∙ may.named;
      fits = ap (λ (s : List Column). are_one_kind (kinds_at schema columns) (kinds_at s others)) same ∙ may.fits;
    }
MayStand-alike box db after schema (Trigger on pred act deferred) alike may =
    let is = All-head (IsAlike db after) (relation_of act) [] alike in
    let same = schema_at-alike db after (relation_of act) is in
    record {
      there = none_missing db after (relation_of act) is may.there;
      named = ap (λ (s : List Column). first_unnamed (pred_places schema pred ++ action_places s schema act)) same ∙ may.named;
      fits = ap (λ (s : List Column). is_well_typed schema (has_old on) (has_new on) pred && action_fits s (term_kind schema (has_old on) (has_new on)) act) same ∙ may.fits;
    }

-- the instance stands on it
record IsStill (db after : Db) (name : Name) (schema : List Column) : Type 0 where
  pub relation : Relation
  pub there : relation_at after name ≡ Some relation
  pub schema_is : relation.schema ≡ schema

still : (db after : Db) (name : Name) (r : Relation) → relation_at db name ≡ Some r → IsAlike db after name → IsStill db after name r.schema
still db after name r there is = by (relation_at after name) refl (subst (λ (o : Option Relation). AreAlike o (relation_at after name)) there is.alike)
  where
    by : (o : Option Relation) → relation_at after name ≡ o → AreAlike (Some r) o → IsStill db after name r.schema
    by None at alike = absurd alike
    by (Some q) at alike = record { relation = q; there = at; schema_is = alike.0 }

pub StandsOn-alike : (box : Attachment) (inst : Instance) (rule : Rule) (db after : Db) → AreLawful after → IsAlike db after inst.relation → All (IsAlike db after) (other_relations rule) → StandsOn box inst rule db →
    StandsOn box inst rule after
StandsOn-alike box inst rule db after lawful own others stands =
    let here = still db after inst.relation stands.relation stands.there own in
    record {
      spelled = stands.spelled;
      relation = here.relation;
      there = here.there;
      schema = here.schema_is ∙ stands.schema;
      lawful = lawful;
      joins = stands.joins;
      may = MayStand-alike (Some box.rules) db after inst.schema rule others stands.may;
    }

-- ---- a rule has the same content over it
pub join_entries-alike : (db after : Db) (name : Name) (columns : List Name) (other : Name) (others : List Name) → IsAlike db after name → IsAlike db after other →
    join_entries after name columns other others ≡ join_entries db name columns other others
join_entries-alike db after name columns other others own is =
    let one = schema_at-alike db after name own in
    let two = schema_at-alike db after other is in
    let ones = rows_at-alike db after name own in
    let twos = rows_at-alike db after other is in
    λ i. flat_map (λ row. map (λ match. (row.0, match.0)) (filter (λ match. has_values (two i) others (values_in (one i) row.1 columns) match.1) (twos i))) (ones i)

pub content_over-alike : (box : Attachment) (inst : Instance) (rule : Rule) (db after : Db) (buckets : ℕ) → IsAlike db after inst.relation → All (IsAlike db after) (other_relations rule) →
    content_over box inst rule after buckets ≡ content_over box inst rule db buckets
content_over-alike box inst (TreeIndex columns unique) db after buckets own others =
    let schema = schema_at-alike db after inst.relation own in
    let rows = rows_at-alike db after inst.relation own in
    λ i. content_of (entries_only (index_entries (schema i) columns (rows i))) [] buckets
content_over-alike box inst (HashIndex columns) db after buckets own others =
    let schema = schema_at-alike db after inst.relation own in
    let rows = rows_at-alike db after inst.relation own in
    λ i. content_of (entries_only (index_entries (schema i) columns (rows i))) [] buckets
content_over-alike box inst (JoinIndex Main columns other names) db after buckets own others =
    ap (λ (es : List Entry). content_of (entries_only es) [] buckets) (join_entries-alike db after inst.relation columns other names own (All-head (IsAlike db after) other [] others))
content_over-alike box inst (JoinIndex Mirror columns other names) db after buckets own others =
    ap (λ (es : List Entry). content_of (entries_only es) [] buckets) (join_entries-alike db after other names inst.relation columns (All-head (IsAlike db after) other [] others) own)
content_over-alike box inst (Stats column low width) db after buckets own others =
    let schema = schema_at-alike db after inst.relation own in
    let rows = rows_at-alike db after inst.relation own in
    λ i. content_of (record { entries = []; sums = stats_sums low width (column_ints (schema i) column (rows i)) }) [] buckets
content_over-alike box inst (Check pred deferred) db after buckets own others = refl
content_over-alike box inst (Refers side columns other names mode deferred) db after buckets own others = refl
content_over-alike box inst (Trigger on pred act deferred) db after buckets own others = refl
content_over-alike box inst (Foreign code desc) db after buckets own others =
    let schema = schema_at-alike db after inst.relation own in
    let rows = rows_at-alike db after inst.relation own in
    λ i. content_of (foreign_image (Some box.rules) desc (schema i) (rows i)) (foreign_counts (Some box.rules) desc (schema i) (rows i)) buckets

-- ---- where all relations are alike, their rows are lawful too
pub AreLawful-alike : (db after : Db) → ((name : Name) → IsAlike db after name) → AreLawful db → AreLawful after
AreLawful-alike db after alike lawful name r is = by (relation_at db name) refl (subst (λ (o : Option Relation). AreAlike (relation_at db name) o) is (alike name).alike)
  where
    by : (o : Option Relation) → relation_at db name ≡ o → AreAlike o (Some r) → AreRows r.schema r.rows
    by None at same = absurd same
    by (Some q) at same = let rows : AreRows q.schema q.rows = lawful name q at in subst (λ (c : List Column). AreRows c r.rows) (sym same.0) (subst (λ (l : Rows). AreRows q.schema l) (sym same.1) rows)

-- ---- so it is kept on it
pub KeepsRule-alike : (m : Meanings) (s : Slots) (inst : Instance) (a : Db.Attached) (db after : Db) → AreLawful after → IsAlike db after inst.relation → All (IsAlike db after) (other_relations a.rule) →
    KeepsRule m s inst a db → KeepsRule m s inst a after
KeepsRule-alike m s inst a db after lawful own others keeps = record {
  box = keeps.box;
  live = keeps.live;
  law = keeps.law;
  code = keeps.code;
  owner = keeps.owner;
  stands = StandsOn-alike keeps.box inst a.rule db after lawful own others keeps.stands;
  holds = subst (λ (c : Content). Holds keeps.box inst (owned s inst.owner) c) (sym (content_over-alike keeps.box inst a.rule db after a.buckets own others)) keeps.holds;
}

pub KeepsRule-all_alike : (m : Meanings) (s : Slots) (inst : Instance) (a : Db.Attached) (db after : Db) → ((name : Name) → IsAlike db after name) → KeepsRule m s inst a db → KeepsRule m s inst a after
KeepsRule-all_alike m s inst a db after alike keeps =
    KeepsRule-alike m s inst a db after (AreLawful-alike db after alike keeps.stands.lawful) (alike inst.relation) (λ n x h. alike (get_or (other_relations a.rule) n x)) keeps
