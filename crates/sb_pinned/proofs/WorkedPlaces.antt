-- Each place where a rule names a column: a column that isn't there is found in every one of them.
use Rattle.std.specs.Prelude.{◌≡◌, refl, false, codes, List, [], ◌∷◌, map, replicate, Option, Some, None, option_map, pos}
use Rattle.sb_pred.specs.declared.predicate.Op.TheVariants.{Eq}
use Rattle.sb_pred.specs.declared.predicate.Term.TheVariants.{Const, New, Old}
use Rattle.sb_pred.specs.Tree.{Tree, Always, Compare, Both, Either, Fails}
use Rattle.sb_rule.specs.declared.action.Action.{Action}
use Rattle.sb_rule.specs.declared.action.Action.TheVariants as action
use Rattle.sb_rule.specs.declared.rule.Event.TheVariants as event
use Rattle.sb_rule.specs.declared.rule.Mode.TheVariants.{Restrict}
use Rattle.sb_rule.specs.declared.rule.Side.TheVariants.{Main}
use Rattle.sb_rule.specs.declared.rule.Rule.{Rule}
use Rattle.sb_rule.specs.declared.rule.Rule.TheVariants.{TreeIndex, HashIndex, JoinIndex, Stats, Check, Refers, Trigger}
use Rattle.sb_relation.specs.Db.{Name, Db, int_column}
use Rattle.sb_relation.specs.Fits.{first_unnamed, rule_places}
use Rattle.sb_pinned.proofs.Samples.{int, a, b, r, t, z, numbers, relation, heap}

abbrev c : Name
c = codes "c"

-- t has a and b, r has b and c
abbrev db : Db
db = (r, relation 1 (int_column b ∷ int_column c ∷ []) [] [] []) ∷ (t, heap [] []) ∷ []

-- the first column that a rule on t names and that isn't there
abbrev absent : Rule → Option Name
absent rule = option_map (λ place. place.1) (first_unnamed (rule_places db numbers rule))

-- ---- predicates
abbrev is : Name → Tree
is name = Compare Eq (New name) (Const (int 1))

abbrev checks : List Tree → List (Option Name)
checks preds = map (λ pred. absent (Check pred false)) preds

each_part_of_a_predicate_is_looked_at :
    checks (is z ∷ Compare Eq (Const (int 1)) (Old z) ∷ Both (is z) Always ∷ Both Always (is z) ∷ Either (is z) Always ∷ Either Always (is z) ∷ Fails (is z) ∷ [])
    ≡ replicate 7 (Some z)
each_part_of_a_predicate_is_looked_at = refl

-- the left part comes first
the_left_part_comes_first :
    checks (Compare Eq (New c) (Old z) ∷ Both (is c) (is z) ∷ Both (is z) (is c) ∷ Either (is c) (is z) ∷ Either (is z) (is c) ∷ [])
    ≡ Some c ∷ Some c ∷ Some z ∷ Some c ∷ Some z ∷ []
the_left_part_comes_first = refl

columns_of_a_predicate_that_are_there : checks (Either (Fails (is a)) (Both (is b) (Compare Eq (New a) (Old b))) ∷ []) ≡ None ∷ []
columns_of_a_predicate_that_are_there = refl

-- ---- rules: a column that isn't there behind one that is
each_rule_has_its_columns :
    map absent
    (TreeIndex (a ∷ z ∷ []) false
    ∷ HashIndex (a ∷ z ∷ [])
    ∷ Stats z (pos 0) (pos 1)
    ∷ JoinIndex Main (z ∷ []) r (b ∷ [])
    ∷ JoinIndex Main (a ∷ []) r (b ∷ z ∷ [])
    ∷ Refers Main (z ∷ []) r (b ∷ []) Restrict false
    ∷ Refers Main (a ∷ []) r (b ∷ z ∷ []) Restrict false
    ∷ Trigger event.Update (is z) (action.Delete r []) false
    ∷ [])
    ≡ replicate 8 (Some z)
each_rule_has_its_columns = refl

-- columns of the other relation are those of the other relation: it has no a
the_other_relation_has_its_own_columns :
    map absent (JoinIndex Main (a ∷ []) r (a ∷ []) ∷ Refers Main (a ∷ []) r (a ∷ []) Restrict false ∷ HashIndex (a ∷ b ∷ []) ∷ Stats b (pos 0) (pos 1) ∷ [])
    ≡ Some a ∷ Some a ∷ None ∷ None ∷ []
the_other_relation_has_its_own_columns = refl

-- ---- actions: columns are those of r, behind new and old those of t
abbrev does : List Action → List (Option Name)
does actions = map (λ act. absent (Trigger event.Update Always act false)) actions

each_part_of_an_action_is_looked_at :
    does
    (action.Insert r (New a ∷ New z ∷ [])
    ∷ action.Insert r (Old z ∷ [])
    ∷ action.Delete r ((b, New a) ∷ (z, New a) ∷ [])
    ∷ action.Delete r ((b, New z) ∷ [])
    ∷ action.Set r z (New a) []
    ∷ action.Set r b (Old z) []
    ∷ action.Set r b (New a) ((z, New a) ∷ [])
    ∷ action.Set r b (New a) ((b, Old z) ∷ [])
    ∷ action.Add r z (New a) []
    ∷ action.Add r b (New z) []
    ∷ action.Add r b (New a) ((z, New a) ∷ [])
    ∷ action.Add r b (New a) ((b, New z) ∷ [])
    ∷ [])
    ≡ replicate 12 (Some z)
each_part_of_an_action_is_looked_at = refl

-- a is no column of r, c none of t
an_action_has_columns_of_two_relations :
    does
    (action.Insert r (New a ∷ Old b ∷ [])
    ∷ action.Insert r (New c ∷ [])
    ∷ action.Set r c (New a) ((b, Old b) ∷ [])
    ∷ action.Set r a (New a) []
    ∷ action.Add r b (New c) []
    ∷ action.Delete r ((a, New a) ∷ [])
    ∷ [])
    ≡ None ∷ Some c ∷ None ∷ Some a ∷ Some c ∷ Some a ∷ []
an_action_has_columns_of_two_relations = refl
