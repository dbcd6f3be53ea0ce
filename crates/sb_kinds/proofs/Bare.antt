-- Databases of relations without rows, over which a rule may stand as over others.
use Rattle.std.proofs.Common.{◌≡◌, Bool, true, false, cond, ◌&&◌, List, [], ◌++◌, Option, Some, None, option_map, is_none, bytes_eq, refl, sym, ap, subst, ◌∙◌, lit<}
use Rattle.std.specs.FinMap.Entries.{find-put}
use Rattle.std.proofs.lemmas.Cmp.{nat_list_cmp_total}
use Rattle.std.proofs.lemmas.List.Elements.{All-nil}
use Rattle.std.proofs.lemmas.Map.Text.{is_eq-slice_cmp}
use Rattle.sb_value.specs.declared.schema.Column.{Column}
use Rattle.sb_value.specs.Equal.{bytes_same}
use Rattle.sb_value.specs.Order.{bytes_cmp}
use Rattle.sb_pred.specs.Typing.{term_kind, is_well_typed}
use Rattle.sb_rule.specs.declared.rule.Rule.{Rule}
use Rattle.sb_rule.specs.declared.rule.Rule.TheVariants.{TreeIndex, HashIndex, JoinIndex, Stats, Check, Refers, Trigger, Foreign}
use Rattle.sb_relation.specs.Db.{Name, Key, Row, Relation, Db, relation_at, with_relation}
use Rattle.sb_relation.specs.Fits.{relation_of, places_in, pred_places, action_places, first_unnamed, kinds_at, are_one_kind, has_old, has_new, action_fits, MayStand}
use Rattle.sb_relation.specs.Foreign.{AttachRules}
use Rattle.sb_relation.specs.Keys.{is_record_key}
use Rattle.sb_relation.specs.Lawful.{IsRow, AreRows}
use Rattle.sb_kinds.specs.Others.{tied_by, Knows}

-- a relation of these columns without rows
abbrev pub empty_relation : List Column → Relation
empty_relation schema = record { method = 1; schema = schema; key = []; rows = []; attachments = [] }

-- one of this name, if there is one and it has columns
abbrev pub second_alone : Option Name → Option (List Column) → Db
second_alone None other = []
second_alone (Some name) None = []
second_alone (Some name) (Some columns) = with_relation [] name (empty_relation columns)

-- a relation of these columns and the second one that the rule names, where that is there with others, both without rows
abbrev pub bare : Name → List Column → Rule → Option (List Column) → Db
bare name schema rule other = with_relation (second_alone (tied_by rule) other) name (empty_relation schema)

-- ---- relations by their names
found_put : (db : Db) (name x : Name) (r : Relation) → relation_at (with_relation db name r) x ≡ cond (bytes_eq x name) (Some r) (relation_at db x)
found_put db name x r = find-put bytes_cmp nat_list_cmp_total x name r db ∙ ap (λ (b : Bool). cond b (Some r) (relation_at db x)) (is_eq-slice_cmp x name)

itself : (db : Db) (name : Name) (r : Relation) → relation_at (with_relation db name r) name ≡ Some r
itself db name r = found_put db name name r ∙ ap (λ (b : Bool). cond b (Some r) (relation_at db name)) ((bytes_same name name).1 refl)

pub bare-own : (name : Name) (schema : List Column) (rule : Rule) (other : Option (List Column)) → relation_at (bare name schema rule other) name ≡ Some (empty_relation schema)
bare-own name schema rule other = itself (second_alone (tied_by rule) other) name (empty_relation schema)

second-found : (name : Name) (other : Option (List Column)) → option_map (λ r. r.schema) (relation_at (second_alone (Some name) other) name) ≡ other
second-found name None = refl
second-found name (Some columns) = ap (option_map (λ r. r.schema)) (itself [] name (empty_relation columns))

-- where the rule names its own relation, the others are its own columns
pub bare-knows : (name : Name) (schema : List Column) (rule : Rule) (other : Option (List Column)) → (tied_by rule ≡ Some name → other ≡ Some schema) → Knows (bare name schema rule other) rule other
bare-knows name schema rule other own = record {
  second = λ q is.
      ap (option_map (λ r. r.schema)) (found_put (second_alone (tied_by rule) other) name q (empty_relation schema)) ∙ by q (bytes_eq q name) is refl;
}
  where
    by : (q : Name) (t : Bool) → tied_by rule ≡ Some q → bytes_eq q name ≡ t
        → option_map (λ r. r.schema) (cond t (Some (empty_relation schema)) (relation_at (second_alone (tied_by rule) other) q)) ≡ other
    by q true is same = sym (own (is ∙ ap Some ((bytes_same q name).0 same)))
    by q false is same = ap (λ o. option_map (λ r. r.schema) (relation_at (second_alone o other) q)) is ∙ second-found q other

-- ---- no relation has rows
without_rows : (schema : List Column) → AreRows schema []
without_rows schema = record {
  rising = tt;
  keys = All-nil (λ (row : Key × Row). is_record_key row.0 ≡ true);
  each = All-nil (λ (row : Key × Row). IsRow schema row.1);
  few = lit< tt;
}

rows_put : (db : Db) (name : Name) (schema : List Column) → ((x : Name) (r : Relation) → relation_at db x ≡ Some r → AreRows r.schema r.rows)
    → (x : Name) (r : Relation) → relation_at (with_relation db name (empty_relation schema)) x ≡ Some r → AreRows r.schema r.rows
rows_put db name schema others x r is = by (bytes_eq x name) (sym (found_put db name x (empty_relation schema)) ∙ is)
  where
    by : (t : Bool) → cond t (Some (empty_relation schema)) (relation_at db x) ≡ Some r → AreRows r.schema r.rows
    by true e = let same : empty_relation schema ≡ r = cc in subst (λ (r : Relation). AreRows r.schema r.rows) same (without_rows schema)
    by false e = others x r e

rows_second : (o : Option Name) (other : Option (List Column)) (x : Name) (r : Relation) → relation_at (second_alone o other) x ≡ Some r → AreRows r.schema r.rows
rows_second None other x r is = absurd (cc)
rows_second (Some name) None x r is = absurd (cc)
rows_second (Some name) (Some columns) x r is = rows_put [] name columns (λ y q e. absurd (cc)) x r is

pub bare-rows : (name : Name) (schema : List Column) (rule : Rule) (other : Option (List Column)) (x : Name) (r : Relation) → relation_at (bare name schema rule other) x ≡ Some r → AreRows r.schema r.rows
bare-rows name schema rule other x r is = rows_put (second_alone (tied_by rule) other) name schema (rows_second (tied_by rule) other) x r is

-- ---- a rule may stand over one database as over another with the same columns
schemas : (a b : Option Relation) → option_map (λ r. r.schema) a ≡ option_map (λ r. r.schema) b
    → elim a as (λ _. List Column) [ None ↦ [] | Some r ↦ r.schema ] ≡ elim b as (λ _. List Column) [ None ↦ [] | Some r ↦ r.schema ]
schemas None None e = refl
schemas None (Some r) e = cc
schemas (Some r) None e = cc
schemas (Some r) (Some q) e = cc

both_there : (a b : Option Relation) → option_map (λ r. r.schema) a ≡ option_map (λ r. r.schema) b → is_none a ≡ is_none b
both_there None None e = refl
both_there None (Some r) e = cc
both_there (Some r) None e = cc
both_there (Some r) (Some q) e = refl

-- the tests of a rule with its second relation, whose columns are the same
first_there : (name : Name) (a b : Bool) → a ≡ b → cond a (Some name) None ≡ None → cond b (Some name) None ≡ None
first_there name a b e there = sym (ap (λ t. cond t (Some name) None) e) ∙ there

pub stands-alike : (box : Option AttachRules) (before after : Db) (schema : List Column) (rule : Rule) (other : Option (List Column)) → Knows before rule other → Knows after rule other
    → MayStand box before schema rule → MayStand box after schema rule
stands-alike box before after schema (TreeIndex columns unique) other knows known may = record { there = refl; named = may.named; fits = may.fits }
stands-alike box before after schema (HashIndex columns) other knows known may = record { there = refl; named = may.named; fits = may.fits }
stands-alike box before after schema (Stats column low width) other knows known may = record { there = refl; named = may.named; fits = may.fits }
stands-alike box before after schema (Check pred deferred) other knows known may = record { there = refl; named = may.named; fits = may.fits }
stands-alike box before after schema (Foreign code desc) other knows known may = record { there = refl; named = may.named; fits = may.fits }
stands-alike box before after schema (JoinIndex side columns second others) other knows known may =
    let same = knows.second second refl ∙ sym (known.second second refl) in
    let columns_same = schemas (relation_at before second) (relation_at after second) same in
    record {
      there = first_there second (is_none (relation_at before second)) (is_none (relation_at after second)) (both_there (relation_at before second) (relation_at after second) same) may.there;
      named = sym (ap (λ (cs : List Column). first_unnamed (places_in schema columns ++ places_in cs others)) columns_same) ∙ may.named;
      fits = sym (ap (λ (cs : List Column). are_one_kind (kinds_at schema columns) (kinds_at cs others)) columns_same) ∙ may.fits;
    }
stands-alike box before after schema (Refers side columns second others mode deferred) other knows known may =
    let same = knows.second second refl ∙ sym (known.second second refl) in
    let columns_same = schemas (relation_at before second) (relation_at after second) same in
    record {
      there = first_there second (is_none (relation_at before second)) (is_none (relation_at after second)) (both_there (relation_at before second) (relation_at after second) same) may.there;
      named = sym (ap (λ (cs : List Column). first_unnamed (places_in schema columns ++ places_in cs others)) columns_same) ∙ may.named;
      fits = sym (ap (λ (cs : List Column). are_one_kind (kinds_at schema columns) (kinds_at cs others)) columns_same) ∙ may.fits;
    }
stands-alike box before after schema (Trigger on pred act deferred) other knows known may =
    let second = relation_of act in
    let same = knows.second second refl ∙ sym (known.second second refl) in
    let columns_same = schemas (relation_at before second) (relation_at after second) same in
    record {
      there = first_there second (is_none (relation_at before second)) (is_none (relation_at after second)) (both_there (relation_at before second) (relation_at after second) same) may.there;
      named = sym (ap (λ (cs : List Column). first_unnamed (pred_places schema pred ++ action_places cs schema act)) columns_same) ∙ may.named;
      fits =
          sym (ap (λ (cs : List Column). is_well_typed schema (has_old on) (has_new on) pred && action_fits cs (term_kind schema (has_old on) (has_new on)) act) columns_same) ∙ may.fits;
    }

-- A rule that may stand on a relation of some database may stand on a relation of empty ones with these columns.
pub bare-stands : (box : Option AttachRules) (db : Db) (name : Name) (r : Relation) (schema : List Column) (rule : Rule) (other : Option (List Column))
    → relation_at db name ≡ Some r → r.schema ≡ schema → Knows db rule other → MayStand box db schema rule → MayStand box (bare name schema rule other) schema rule
bare-stands box db name r schema rule other there same knows may =
    stands-alike box db (bare name schema rule other) schema rule other knows
    (bare-knows name schema rule other (λ itself. sym (knows.second name itself) ∙ ap (option_map (λ r. r.schema)) there ∙ ap Some same)) may
