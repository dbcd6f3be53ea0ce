-- A change leaves every relation's columns and rules.
use Rattle.std.proofs.Common.{◌≡◌, Bool, true, false, ◌&&◌, cond, List, [], ◌∷◌, ◌++◌, Option, Some, None, map, refl, sym, ap, subst, ◌∙◌}
use Rattle.std.specs.Prelude.{All, is_none}
use Rattle.std.specs.List.{find}
use Rattle.std.specs.FinMap.Entries.{find-put}
use Rattle.std.specs.Ordering.{eq_by_cmp}
use Rattle.std.proofs.lemmas.Cmp.{nat_list_cmp_total}
use Rattle.std.proofs.lemmas.List.Elements.{All-nil, All-cons, All-head, All-tail, All-map, All-weaker}
use Rattle.std.proofs.lemmas.Map.Text.{is_eq-slice_cmp}
use Rattle.sb_value.specs.declared.schema.Column.{Column}
use Rattle.sb_value.specs.Equal.{bytes_same}
use Rattle.sb_value.specs.Order.{bytes_cmp}
use Rattle.sb_pred.specs.Typing.{term_kind, is_well_typed}
use Rattle.sb_rule.specs.declared.action.Action.{Action}
use Rattle.sb_rule.specs.declared.change.Change.{Change}
use Rattle.sb_rule.specs.declared.rule.Rule.{Rule}
use Rattle.sb_rule.specs.declared.rule.Rule.TheVariants.{JoinIndex, Refers, Trigger}
use Rattle.sb_relation.specs.Buckets.{grown}
use Rattle.sb_relation.specs.Changes.{changed, changed_rows, with_change}
use Rattle.sb_relation.specs.Db.{Name, Rows, Attached, Relation, Db, relation_at, with_relation, schema_at}
use Rattle.sb_relation.specs.Fits.{MayStand, relation_of, other_relations, first_missing, places_in, pred_places, action_places, rule_places, first_unnamed, kinds_at, are_one_kind, has_old, has_new, action_fits, rule_fits}
use Rattle.sb_relation.specs.Foreign.{AttachRules}
use Rattle.sb_fold.specs.Fold.{attachments_at}
use Rattle.sb_cascade.specs.Fitting.{IsFitting, AllMayStand}
use Rattle.sb_cascade.specs.FittingLaws.{ActionsStay, RulesStay}

-- ---- what is seen of a relation
abbrev pub changed_in : Db → Name → Change → Option Relation → Db
changed_in db name c None = db
changed_in db name c (Some r) = with_relation db name (with_change r c (changed_rows r.rows c))

-- what doesn't see the rows and the numbers of buckets
IsBlind : {A : Type 0} → (Option Relation → A) → Type 0
IsBlind F = (r : Relation) (c : Change) (rows : Rows) → F (Some r) ≡ F (Some (with_change r c rows))

pub after_put : {A : Type 0} (F : Option Relation → A) (db : Db) (name : Name) (r q : Relation) → relation_at db name ≡ Some r → F (Some r) ≡ F (Some q)
    → (other : Name) → F (relation_at db other) ≡ F (relation_at (with_relation db name q) other)
after_put F db name r q there same other =
    of_test (eq_by_cmp bytes_cmp other name) refl ∙ ap F (sym (find-put bytes_cmp nat_list_cmp_total other name q db))
  where
    of_test : (b : Bool) → eq_by_cmp bytes_cmp other name ≡ b → F (relation_at db other) ≡ F (cond b (Some q) (relation_at db other))
    of_test true is = ap F (ap (relation_at db) ((bytes_same other name).0 (sym (is_eq-slice_cmp other name) ∙ is)) ∙ there) ∙ same
    of_test false is = refl

seen : {A : Type 0} (F : Option Relation → A) → IsBlind F → (db : Db) (name : Name) (c : Change) (other : Name) → F (relation_at db other) ≡ F (relation_at (changed db name c) other)
unfolding IsBlind
seen {A = A} F blind db name c other = of_relation (relation_at db name) refl
  where
    of_relation : (o : Option Relation) → relation_at db name ≡ o → F (relation_at db other) ≡ F (relation_at (changed_in db name c o) other)
    of_relation None there = refl
    of_relation (Some r) there = after_put F db name r (with_change r c (changed_rows r.rows c)) there (blind r c (changed_rows r.rows c)) other

-- ---- databases that have the same relations with the same columns
pub record SameColumns (db other : Db) : Type 0 where
  pub there : (name : Name) → is_none (relation_at db name) ≡ is_none (relation_at other name)
  pub schema : (name : Name) → schema_at db name ≡ schema_at other name

pub itself : (db : Db) → SameColumns db db
itself db = record { there = λ name. refl; schema = λ name. refl }

pub turned : (db other : Db) → SameColumns db other → SameColumns other db
turned db other same = record { there = λ name. sym (same.there name); schema = λ name. sym (same.schema name) }

pub then : (db mid other : Db) → SameColumns db mid → SameColumns mid other → SameColumns db other
then db mid other same more = record { there = λ name. same.there name ∙ more.there name; schema = λ name. same.schema name ∙ more.schema name }

pub changed_columns : (db : Db) (name : Name) (c : Change) → SameColumns db (changed db name c)
unfolding IsBlind
changed_columns db name c = record {
  there = seen is_none (λ r change rows. refl) db name c;
  schema = seen (λ o. elim o [ None ↦ [] | Some r ↦ r.schema ]) (λ r change rows. refl) db name c;
}

same_missing : (db other : Db) → SameColumns db other → (names : List Name) → first_missing db names ≡ first_missing other names
same_missing db other same names = λ i. find (λ name. same.there name i) names

-- ---- actions
pub still_fitting : (db other : Db) → SameColumns db other → (a : Action) → IsFitting db a → IsFitting other a
still_fitting db other same a fits = record {
  there = sym (same_missing db other same (relation_of a ∷ [])) ∙ fits.there;
  named = ap (λ (s : List Column). first_unnamed (action_places s [] a)) (sym (same.schema (relation_of a))) ∙ fits.named;
  fits = ap (λ (s : List Column). action_fits s (term_kind [] false false) a) (sym (same.schema (relation_of a))) ∙ fits.fits;
}

pub actions-stay : ActionsStay
actions-stay db name c a = (
  still_fitting (changed db name c) db (turned db (changed db name c) (changed_columns db name c)) a,
  still_fitting db (changed db name c) (changed_columns db name c) a,
)

-- ---- rules
same_places : (db other : Db) → SameColumns db other → (schema : List Column) (rule : Rule) → rule_places db schema rule ≡ rule_places other schema rule
same_places db other same schema (JoinIndex side columns to others) = ap (λ (s : List Column). places_in schema columns ++ places_in s others) (same.schema to)
same_places db other same schema (Refers side columns to others mode deferred) = ap (λ (s : List Column). places_in schema columns ++ places_in s others) (same.schema to)
same_places db other same schema (Trigger on pred a deferred) = ap (λ (s : List Column). pred_places schema pred ++ action_places s schema a) (same.schema (relation_of a))
same_places db other same schema _ = refl

same_fits : (box : Option AttachRules) (db other : Db) → SameColumns db other → (schema : List Column) (rule : Rule) → rule_fits box db schema rule ≡ rule_fits box other schema rule
same_fits box db other same schema (JoinIndex side columns to others) = ap (λ (s : List Column). are_one_kind (kinds_at schema columns) (kinds_at s others)) (same.schema to)
same_fits box db other same schema (Refers side columns to others mode deferred) = ap (λ (s : List Column). are_one_kind (kinds_at schema columns) (kinds_at s others)) (same.schema to)
same_fits box db other same schema (Trigger on pred a deferred) =
    ap (λ (s : List Column). is_well_typed schema (has_old on) (has_new on) pred && action_fits s (term_kind schema (has_old on) (has_new on)) a) (same.schema (relation_of a))
same_fits box db other same schema _ = refl

pub still_stands : (box : Option AttachRules) (db other : Db) → SameColumns db other → (schema : List Column) (rule : Rule) → MayStand box db schema rule → MayStand box other schema rule
still_stands box db other same schema rule may = record {
  there = sym (same_missing db other same (other_relations rule)) ∙ may.there;
  named = ap first_unnamed (sym (same_places db other same schema rule)) ∙ may.named;
  fits = sym (same_fits box db other same schema rule) ∙ may.fits;
}

-- ---- the rules of a relation
abbrev rules_in : Option Relation → List Rule
rules_in o = map (λ (a : Attached). a.rule) (elim o [ None ↦ [] | Some r ↦ r.attachments ])

rules-grown : (c : Change) (rows : Rows) (items : List Attached) → map (λ a. a.rule) items ≡ map (λ a. a.rule) (map (grown c rows) items)
rules-grown c rows [] = refl
rules-grown c rows (a ∷ items) = ap (λ (l : List Rule). a.rule ∷ l) (rules-grown c rows items)

pub changed_rules : (db : Db) (name : Name) (c : Change) (other : Name) → map (λ a. a.rule) (attachments_at db other) ≡ map (λ a. a.rule) (attachments_at (changed db name c) other)
unfolding IsBlind
changed_rules db name c other = seen rules_in (λ r change rows. rules-grown change rows r.attachments) db name c other

all_back : (P : Rule → Type 0) (items : List Attached) → All P (map (λ a. a.rule) items) → All (λ a. P a.rule) items
all_back P [] all = All-nil _
all_back P (a ∷ items) all =
    All-cons (λ (x : Attached). P x.rule) a items (All-head P a.rule (map (λ x. x.rule) items) all) (all_back P items (All-tail P a.rule (map (λ x. x.rule) items) all))

pub still_standing : (box : Rule → Option AttachRules) (db other : Db) → SameColumns db other → ((name : Name) → map (λ a. a.rule) (attachments_at db name) ≡ map (λ a. a.rule) (attachments_at other name))
    → AllMayStand box db → AllMayStand box other
still_standing box db other same rules may = λ name.
    let Stands : Rule → Type 0 = λ rule. MayStand (box rule) other (schema_at other name) rule in
    all_back Stands (attachments_at other name)
    (subst (All Stands) (rules name)
    (All-map Stands (λ a. a.rule) (attachments_at db name)
    (All-weaker (λ (a : Attached). MayStand (box a.rule) db (schema_at db name) a.rule) (λ (a : Attached). Stands a.rule)
    (λ a stands.
    still_stands (box a.rule) db other same (schema_at other name) a.rule (subst (λ (s : List Column). MayStand (box a.rule) db s a.rule) (same.schema name) stands)) (attachments_at db name) (may name))))

pub rules-stay : RulesStay
rules-stay box db name c = (
  still_standing box (changed db name c) db (turned db (changed db name c) (changed_columns db name c)) (λ other. sym (changed_rules db name c other)),
  still_standing box db (changed db name c) (changed_columns db name c) (changed_rules db name c),
)
