-- Worked examples of which relations may be made and which rules may stand, by names and kinds.
use Rattle.std.specs.Prelude.{◌≡◌, refl, ℕ, Bool, true, false, codes, List, [], ◌∷◌, Option, Some, None, option_map, pos}
use Rattle.sb_value.specs.declared.value.Value.TheVariants as value
use Rattle.sb_value.specs.declared.schema.Kind.TheVariants as kind
use Rattle.sb_value.specs.declared.schema.Column.{Column}
use Rattle.sb_pred.specs.declared.predicate.Op.TheVariants.{Eq}
use Rattle.sb_pred.specs.declared.predicate.Term.{Term}
use Rattle.sb_pred.specs.declared.predicate.Term.TheVariants.{Const, New, Old}
use Rattle.sb_pred.specs.Tree.{Always, Compare}
use Rattle.sb_rule.specs.declared.action.Action.{Action}
use Rattle.sb_rule.specs.declared.action.Action.TheVariants as action
use Rattle.sb_rule.specs.declared.rule.Event.{Event}
use Rattle.sb_rule.specs.declared.rule.Event.TheVariants as event
use Rattle.sb_rule.specs.declared.rule.Mode.TheVariants.{Restrict}
use Rattle.sb_rule.specs.declared.rule.Rule.{Rule}
use Rattle.sb_rule.specs.declared.rule.Rule.TheVariants.{TreeIndex, JoinIndex, Stats, Check, Refers, Trigger, Foreign}
use Rattle.sb_rule.specs.declared.rule.Side.TheVariants.{Main}
use Rattle.sb_relation.specs.Db.{Name, Relation, Db, int_column}
use Rattle.sb_relation.specs.Fits.{first_missing, first_unnamed, method_fits, other_relations, rule_fits, rule_places}
use Rattle.sb_relation.proofs.Samples.{int, people, departments}

-- departments with two numbers, people with two numbers, and titles with a number and a text
abbrev name_column : Column
name_column = record { name = codes "name"; kind = kind.Text; limit = 255 }

abbrev titles : Relation
titles = record { method = 1; schema = int_column (codes "id") ∷ name_column ∷ []; key = []; rows = []; attachments = [] }

abbrev firm : Db
firm = (codes "dept", departments [] []) ∷ (codes "emp", people [] []) ∷ (codes "title", titles) ∷ []

-- ---- keys of relations
abbrev may_have : ℕ → List Name → Bool
may_have method key = method_fits None method (people [] []).schema key

a_heap_has_no_key : may_have 1 [] ≡ true
a_heap_has_no_key = refl

a_heap_with_a_key : may_have 1 (codes "id" ∷ []) ≡ false
a_heap_with_a_key = refl

a_tree_has_a_key : may_have 2 (codes "id" ∷ []) ≡ true
a_tree_has_a_key = refl

a_tree_without_a_key : may_have 2 [] ≡ false
a_tree_without_a_key = refl

a_temp_has_no_key : may_have 3 [] ≡ true
a_temp_has_no_key = refl

a_temp_with_a_key : may_have 3 (codes "id" ∷ []) ≡ false
a_temp_with_a_key = refl

a_method_that_isn't_there : may_have 1000 [] ≡ false
a_method_that_isn't_there = refl

-- ---- what a rule on people may say
abbrev may_say : Rule → Bool
may_say rule = rule_fits None firm (people [] []).schema rule

-- a trigger's predicate, and its action
abbrev tests : Event → Term → Bool
tests on term = may_say (Trigger on (Compare Eq term (Const (int 1))) (action.Delete (codes "dept") []) false)

abbrev uses : Event → Term → Bool
uses on term = may_say (Trigger on Always (action.Delete (codes "dept") ((codes "no", term) ∷ [])) false)

an_insert_has_a_new_row : tests event.Insert (New (codes "id")) ≡ true
an_insert_has_a_new_row = refl

an_insert_has_no_old_row : tests event.Insert (Old (codes "id")) ≡ false
an_insert_has_no_old_row = refl

a_delete_has_no_new_row : tests event.Delete (New (codes "id")) ≡ false
a_delete_has_no_new_row = refl

a_delete_has_an_old_row : tests event.Delete (Old (codes "id")) ≡ true
a_delete_has_an_old_row = refl

an_update_has_a_new_row : tests event.Update (New (codes "id")) ≡ true
an_update_has_a_new_row = refl

an_update_has_an_old_row : tests event.Update (Old (codes "id")) ≡ true
an_update_has_an_old_row = refl

an_action_sees_no_old_row_of_an_insert : uses event.Insert (Old (codes "id")) ≡ false
an_action_sees_no_old_row_of_an_insert = refl

an_action_sees_the_new_row_of_an_insert : uses event.Insert (New (codes "id")) ≡ true
an_action_sees_the_new_row_of_an_insert = refl

an_action_sees_no_new_row_of_a_delete : uses event.Delete (New (codes "id")) ≡ false
an_action_sees_no_new_row_of_a_delete = refl

an_action_sees_the_old_row_of_a_delete : uses event.Delete (Old (codes "id")) ≡ true
an_action_sees_the_old_row_of_a_delete = refl

a_check_has_no_old_row : may_say (Check (Compare Eq (Old (codes "id")) (Const (int 1))) false) ≡ false
a_check_has_no_old_row = refl

a_check_of_another_kind : may_say (Check (Compare Eq (New (codes "id")) (Const (value.Text []))) false) ≡ false
a_check_of_another_kind = refl

-- columns in pairs have one number and one kind each
abbrev refers_to : Name → List Name → Bool
refers_to other others = may_say (Refers Main (codes "dept" ∷ []) other others Restrict false)

abbrev joins : Name → List Name → Bool
joins other others = may_say (JoinIndex Main (codes "dept" ∷ []) other others)

one_to_one : refers_to (codes "dept") (codes "no" ∷ []) ≡ true
one_to_one = refl

one_to_two : refers_to (codes "dept") (codes "no" ∷ codes "floor" ∷ []) ≡ false
one_to_two = refl

one_to_none : refers_to (codes "dept") [] ≡ false
one_to_none = refl

a_number_to_a_text : refers_to (codes "title") (codes "name" ∷ []) ≡ false
a_number_to_a_text = refl

joined_one_to_one : joins (codes "title") (codes "id" ∷ []) ≡ true
joined_one_to_one = refl

joined_one_to_two : joins (codes "dept") (codes "no" ∷ codes "floor" ∷ []) ≡ false
joined_one_to_two = refl

a_number_joined_to_a_text : joins (codes "title") (codes "name" ∷ []) ≡ false
a_number_joined_to_a_text = refl

abbrev counts : Name → Bool
counts column = rule_fits None firm titles.schema (Stats column (pos 0) (pos 1))

stats_of_a_number : counts (codes "id") ≡ true
stats_of_a_number = refl

stats_of_a_text : counts (codes "name") ≡ false
stats_of_a_text = refl

a_rule_of_an_extension_that_isn't_there : may_say (Foreign 1000 []) ≡ false
a_rule_of_an_extension_that_isn't_there = refl

-- ---- actions
abbrev may_do : Action → Bool
may_do a = may_say (Trigger event.Insert Always a false)

one_term_a_column : may_do (action.Insert (codes "title") (New (codes "id") ∷ Const (value.Text []) ∷ [])) ≡ true
one_term_a_column = refl

a_term_too_few : may_do (action.Insert (codes "title") (New (codes "id") ∷ [])) ≡ false
a_term_too_few = refl

a_term_of_another_kind : may_do (action.Insert (codes "title") (New (codes "id") ∷ New (codes "id") ∷ [])) ≡ false
a_term_of_another_kind = refl

a_text_is_set : may_do (action.Set (codes "title") (codes "name") (Const (value.Text [])) []) ≡ true
a_text_is_set = refl

a_text_is_set_to_a_number : may_do (action.Set (codes "title") (codes "name") (New (codes "id")) []) ≡ false
a_text_is_set_to_a_number = refl

a_set_where_a_text_is_a_number : may_do (action.Set (codes "title") (codes "id") (New (codes "id")) ((codes "name", New (codes "id")) ∷ [])) ≡ false
a_set_where_a_text_is_a_number = refl

a_delete_where_a_text_is_a_number : may_do (action.Delete (codes "title") ((codes "name", New (codes "id")) ∷ [])) ≡ false
a_delete_where_a_text_is_a_number = refl

a_number_is_raised : may_do (action.Add (codes "title") (codes "id") (New (codes "id")) []) ≡ true
a_number_is_raised = refl

a_text_is_raised : may_do (action.Add (codes "title") (codes "name") (Const (int 1)) []) ≡ false
a_text_is_raised = refl

a_number_is_raised_by_a_text : may_do (action.Add (codes "title") (codes "id") (Const (value.Text [])) []) ≡ false
a_number_is_raised_by_a_text = refl

an_add_where_a_text_is_a_number : may_do (action.Add (codes "title") (codes "id") (New (codes "id")) ((codes "name", New (codes "id")) ∷ [])) ≡ false
an_add_where_a_text_is_a_number = refl

-- ---- names that aren't there
abbrev absent : Rule → Option Name
absent rule = option_map (λ place. place.1) (first_unnamed (rule_places firm (people [] []).schema rule))

both_columns_are_there : absent (Refers Main (codes "dept" ∷ []) (codes "dept") (codes "no" ∷ []) Restrict false) ≡ None
both_columns_are_there = refl

an_own_column_isn't_there : absent (Refers Main (codes "no" ∷ []) (codes "dept") (codes "no" ∷ []) Restrict false) ≡ Some (codes "no")
an_own_column_isn't_there = refl

the_other_column_isn't_there : absent (Refers Main (codes "dept" ∷ []) (codes "dept") (codes "dept" ∷ []) Restrict false) ≡ Some (codes "dept")
the_other_column_isn't_there = refl

a_joined_column_isn't_there : absent (JoinIndex Main (codes "dept" ∷ []) (codes "dept") (codes "dept" ∷ [])) ≡ Some (codes "dept")
a_joined_column_isn't_there = refl

an_indexed_column_isn't_there : absent (TreeIndex (codes "id" ∷ codes "no" ∷ codes "floor" ∷ []) false) ≡ Some (codes "no")
an_indexed_column_isn't_there = refl

-- an action's columns are those of its relation, and its terms those of the trigger's
an_action_names_both : absent (Trigger event.Update Always (action.Set (codes "dept") (codes "floor") (New (codes "id")) ((codes "no", Old (codes "dept")) ∷ [])) false) ≡ None
an_action_names_both = refl

its_column_isn't_there : absent (Trigger event.Update Always (action.Set (codes "dept") (codes "id") (New (codes "id")) []) false) ≡ Some (codes "id")
its_column_isn't_there = refl

its_term_isn't_there : absent (Trigger event.Update Always (action.Add (codes "dept") (codes "floor") (New (codes "floor")) []) false) ≡ Some (codes "floor")
its_term_isn't_there = refl

a_pair's_column_isn't_there : absent (Trigger event.Update Always (action.Delete (codes "dept") ((codes "id", New (codes "id")) ∷ [])) false) ≡ Some (codes "id")
a_pair's_column_isn't_there = refl

a_pair's_term_isn't_there : absent (Trigger event.Update Always (action.Delete (codes "dept") ((codes "no", New (codes "no")) ∷ [])) false) ≡ Some (codes "no")
a_pair's_term_isn't_there = refl

the_predicate_comes_first : absent (Trigger event.Update (Compare Eq (New (codes "a")) (Old (codes "b"))) (action.Delete (codes "dept") ((codes "c", New (codes "d")) ∷ [])) false) ≡ Some (codes "a")
the_predicate_comes_first = refl

-- ---- relations that aren't there
abbrev missing : Rule → Option Name
missing rule = first_missing firm (other_relations rule)

a_parent_isn't_there : missing (Refers Main (codes "dept" ∷ []) (codes "x") (codes "no" ∷ []) Restrict false) ≡ Some (codes "x")
a_parent_isn't_there = refl

a_joined_relation_isn't_there : missing (JoinIndex Main (codes "dept" ∷ []) (codes "x") (codes "no" ∷ [])) ≡ Some (codes "x")
a_joined_relation_isn't_there = refl

an_action's_relation_isn't_there : missing (Trigger event.Insert Always (action.Insert (codes "x") []) false) ≡ Some (codes "x")
an_action's_relation_isn't_there = refl

it_is_there : missing (Trigger event.Insert Always (action.Add (codes "title") (codes "id") (Const (int 1)) []) false) ≡ None
it_is_there = refl
