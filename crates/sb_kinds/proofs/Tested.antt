-- Rules that may stand, by what is known of the second relation that they name.
use Rattle.std.proofs.Common.{◌≡◌, Bool, true, false, cond, ◌&&◌, ◌↔◌, List, [], Option, Some, None, option_map, is_none, IsTrue, refl, sym, ap, ◌∙◌}
use Rattle.sb_value.specs.declared.schema.Column.{Column}
use Rattle.sb_rule.specs.declared.rule.Rule.{Rule}
use Rattle.sb_rule.specs.declared.rule.Rule.TheVariants.{TreeIndex, HashIndex, JoinIndex, Stats, Check, Refers, Trigger, Foreign}
use Rattle.sb_relation.specs.Db.{Name, Relation, Db, relation_at}
use Rattle.sb_relation.specs.Fits.{other_relations, first_missing, first_unnamed, rule_places, rule_fits, MayStand}
use Rattle.sb_relation.specs.Foreign.{AttachRules}
use Rattle.sb_kinds.specs.Others.{tied_by, names_of, IsBeside, Knows}

-- ---- a relation by its columns
schema_of : (o : Option Relation) (columns : List Column) → option_map (λ r. r.schema) o ≡ Some columns → elim o as (λ _. List Column) [ None ↦ [] | Some r ↦ r.schema ] ≡ columns
schema_of None columns e = cc
schema_of (Some r) columns e = cc

is_there : (o : Option Relation) (columns : List Column) → option_map (λ r. r.schema) o ≡ Some columns → is_none o ≡ false
is_there None columns e = cc
is_there (Some r) columns e = refl

-- ---- the second relation
beside_none : (db : Db) (rule : Rule) (columns : List Column) → tied_by rule ≡ None → IsBeside db rule columns
beside_none db rule columns none = record { second = λ name is. cc }

beside_known : (db : Db) (rule : Rule) (columns : List Column) → Knows db rule (Some columns) → IsBeside db rule columns
beside_known db rule columns knows = record { second = λ name is. schema_of (relation_at db name) columns (knows.second name is) }

others-tied : (rule : Rule) → other_relations rule ≡ names_of (tied_by rule)
others-tied (TreeIndex columns unique) = refl
others-tied (HashIndex columns) = refl
others-tied (JoinIndex side columns other others) = refl
others-tied (Stats column low width) = refl
others-tied (Check pred deferred) = refl
others-tied (Refers side columns other others mode deferred) = refl
others-tied (Trigger on pred act deferred) = refl
others-tied (Foreign code desc) = refl

none_missing : (db : Db) (rule : Rule) → tied_by rule ≡ None → first_missing db (other_relations rule) ≡ None
none_missing db rule none = ap (first_missing db) (others-tied rule) ∙ ap (λ o. first_missing db (names_of o)) none

known_there : (db : Db) (rule : Rule) (columns : List Column) → Knows db rule (Some columns) → first_missing db (other_relations rule) ≡ None
known_there db rule columns knows = ap (first_missing db) (others-tied rule) ∙ by (tied_by rule) refl
  where
    by : (o : Option Name) → tied_by rule ≡ o → first_missing db (names_of o) ≡ None
    by None is = refl
    by (Some name) is = ap (λ t. cond t (Some name) None) (is_there (relation_at db name) columns (knows.second name is))

-- ---- the tests
tested : {A : Type 0} (o : Option A) (t : Bool) → (is_none o && t) ≡ true → (o ≡ None) × (t ≡ true)
tested None t e = (refl, e)
tested (Some x) t e = cc

stands : (box : Option AttachRules) (db : Db) (schema : List Column) (rule : Rule) (b : Bool) → first_missing db (other_relations rule) ≡ None
    → b ≡ (is_none (first_unnamed (rule_places db schema rule)) && rule_fits box db schema rule) → IsTrue b ↔ MayStand box db schema rule
stands box db schema rule b there e = (
  λ h.
      let both = tested (first_unnamed (rule_places db schema rule)) (rule_fits box db schema rule) (sym e ∙ h) in
      record { there = there; named = both.0; fits = both.1 },
  λ may. e ∙ ap (λ o. is_none o && rule_fits box db schema rule) may.named ∙ may.fits,
)

-- a rule that names no second relation, and one whose second relation has these columns
pub stands_alone : (box : Option AttachRules) (db : Db) (schema columns : List Column) (rule : Rule) (b : Bool) → tied_by rule ≡ None
    → (IsBeside db rule columns → b ≡ (is_none (first_unnamed (rule_places db schema rule)) && rule_fits box db schema rule))
    → (IsTrue b ↔ MayStand box db schema rule)
stands_alone box db schema columns rule b none e = stands box db schema rule b (none_missing db rule none) (e (beside_none db rule columns none))

pub stands_with : (box : Option AttachRules) (db : Db) (schema columns : List Column) (rule : Rule) (b : Bool) → Knows db rule (Some columns)
    → (IsBeside db rule columns → b ≡ (is_none (first_unnamed (rule_places db schema rule)) && rule_fits box db schema rule))
    → (IsTrue b ↔ MayStand box db schema rule)
stands_with box db schema columns rule b knows e = stands box db schema rule b (known_there db rule columns knows) (e (beside_known db rule columns knows))
