-- A change of a row leaves all names.
use Rattle.std.proofs.Common.{◌≡◌, Bool, true, false, List, [], ◌∷◌, cond, map, Option, Some, None, option_map, refl, ap, ◌∙◌}
use Rattle.std.specs.List.{find}
use Rattle.std.specs.Str.{bytes_eq}
use Rattle.std.proofs.lemmas.Option.{same_Some}
use Rattle.sb_rule.specs.declared.change.Change.{Change}
use Rattle.sb_rule.specs.declared.rule.Rule.{Rule}
use Rattle.sb_relation.specs.Buckets.{grown}
use Rattle.sb_relation.specs.Changes.{changed, changed_rows, with_change}
use Rattle.sb_relation.specs.Db.{Name, Rows, Attached, Relation, Db, relation_at}
use Rattle.sb_fold.specs.Building.{rule_at}
use Rattle.sb_lawful_rows.proofs.Staying.{changed_in, after_put, changed_columns}
use Rattle.sb_plain.specs.Printing.{is_mirror}
use Rattle.sb_lawful.specs.Laws.{IsDotless, HasDotlessNames}
use Rattle.sb_lawful.proofs.Items.{is_named}
use Rattle.sb_lawful.proofs.Places.{items_in}

abbrev rule_of : Attached → Rule
rule_of a = a.rule

-- the rule of a label, of attachments that may have more buckets
same_rules : (label : Name) (c : Change) (rows : Rows) (items : List Attached) → option_map rule_of (find (is_named label) items) ≡ option_map rule_of (find (is_named label) (map (grown c rows) items))
same_rules label c rows [] = refl
same_rules label c rows (a ∷ items) = of_test (bytes_eq a.name label) (same_rules label c rows items)
  where
    of_test : (b : Bool) → option_map rule_of (find (is_named label) items) ≡ option_map rule_of (find (is_named label) (map (grown c rows) items))
        → option_map rule_of (cond b (Some a) (find (is_named label) items)) ≡ option_map rule_of (cond b (Some (grown c rows a)) (find (is_named label) (map (grown c rows) items)))
    of_test true rest = refl
    of_test false rest = rest

rules_stay : (db : Db) (name : Name) (c : Change) (other label : Name) → option_map rule_of (rule_at db other label) ≡ option_map rule_of (rule_at (changed db name c) other label)
rules_stay db name c other label = of_relation (relation_at db name) refl
  where
    of_relation : (o : Option Relation) → relation_at db name ≡ o → option_map rule_of (rule_at db other label) ≡ option_map rule_of (rule_at (changed_in db name c o) other label)
    of_relation None there = refl
    of_relation (Some r) there =
        let rows : Rows = changed_rows r.rows c in
        after_put (λ (o : Option Relation). option_map rule_of (find (is_named label) (items_in o))) db name r (with_change r c rows) there (same_rules label c rows r.attachments) other

main_named : (db : Db) → HasDotlessNames db → (other label : Name) (o : Option Attached) → rule_at db other label ≡ o → (rule : Rule) → option_map rule_of o ≡ Some rule → is_mirror rule ≡ false → IsDotless label
main_named db names other label None stands rule same main = absurd (cc)
main_named db names other label (Some a) stands rule same main = names.mains other label a stands (ap is_mirror (same_Some a.rule rule same) ∙ main)

pub names_stay : (db : Db) (name : Name) (c : Change) → HasDotlessNames db → HasDotlessNames (changed db name c)
names_stay db name c names = record {
  relations = λ other there. names.relations other ((changed_columns db name c).there other ∙ there);
  mains = λ other label a found main. main_named db names other label (rule_at db other label) refl a.rule (rules_stay db name c other label ∙ ap (option_map rule_of) found) main;
}

pub no_names : HasDotlessNames []
no_names = record { relations = λ other there. absurd (cc); mains = λ other label a found main. absurd (cc) }
