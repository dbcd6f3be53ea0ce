-- Worked examples of refers: what the child and the parent admit, what follows, what waits, and when the whole holds.
use Rattle.std.specs.Prelude.{◌≡◌, refl, Bool, true, false, codes, List, [], ◌∷◌, None}
use Rattle.sb_pred.specs.declared.predicate.Term.TheVariants.{Const}
use Rattle.sb_codec.specs.Tuples.{tuple_spelling}
use Rattle.sb_rule.specs.declared.rule.Mode.{Mode}
use Rattle.sb_rule.specs.declared.rule.Mode.TheVariants.{Restrict, Cascade}
use Rattle.sb_rule.specs.declared.action.Action.{Action}
use Rattle.sb_rule.specs.declared.action.Action.TheVariants as action
use Rattle.sb_rule.specs.declared.change.Change.{Change}
use Rattle.sb_rule.specs.declared.change.Change.TheVariants.{Insert, Delete, Update}
use Rattle.sb_relation.specs.Changes.{changed}
use Rattle.sb_relation.specs.Db.{Rows, Db}
use Rattle.sb_relation.specs.Rules.{admits, follows, late_actions, late_checks, holds, entry_fails}
use Rattle.sb_relation.proofs.Samples.{int, slot, two, company, works, has_people}

-- departments 7 and 8; one person in 7
abbrev sevens : Rows
sevens = (slot 0, two 7 1) ∷ (slot 1, two 8 2) ∷ []

abbrev ann : Rows
ann = (slot 0, two 1 7) ∷ []

-- over the database that the change leaves
abbrev child_admits : Bool → Db → Change → Bool
child_admits deferred db c = admits None (changed db (codes "emp") c) (codes "emp") (works Restrict deferred) c

abbrev parent_admits : Mode → Bool → Db → Change → Bool
parent_admits mode deferred db c = admits None (changed db (codes "dept") c) (codes "dept") (has_people mode deferred) c

-- ---- the child
a_child_with_a_parent : child_admits false (company sevens []) (Insert (slot 0) (two 1 7)) ≡ true
a_child_with_a_parent = refl

an_orphan : child_admits false (company sevens []) (Insert (slot 0) (two 1 9)) ≡ false
an_orphan = refl

a_parent_in_another_column_is_none : child_admits false (company sevens []) (Insert (slot 0) (two 1 2)) ≡ false
a_parent_in_another_column_is_none = refl

an_orphan_that_waits : child_admits true (company sevens []) (Insert (slot 0) (two 1 9)) ≡ true
an_orphan_that_waits = refl

a_child_that_goes : child_admits false (company [] ann) (Delete (slot 0) (two 1 7)) ≡ true
a_child_that_goes = refl

a_child_that_moves : child_admits false (company sevens ann) (Update (slot 0) (two 1 7) (slot 0) (two 1 9)) ≡ false
a_child_that_moves = refl

-- ---- the parent
a_parent_with_a_child : parent_admits Restrict false (company sevens ann) (Delete (slot 0) (two 7 1)) ≡ false
a_parent_with_a_child = refl

a_parent_without_children : parent_admits Restrict false (company sevens ann) (Delete (slot 1) (two 8 2)) ≡ true
a_parent_without_children = refl

one_of_two_parents : parent_admits Restrict false (company ((slot 0, two 7 1) ∷ (slot 1, two 7 2) ∷ []) ann) (Delete (slot 0) (two 7 1)) ≡ true
one_of_two_parents = refl

a_parent_that_keeps_its_number : parent_admits Restrict false (company sevens ann) (Update (slot 0) (two 7 1) (slot 0) (two 7 3)) ≡ true
a_parent_that_keeps_its_number = refl

a_parent_that_gets_another_number : parent_admits Restrict false (company sevens ann) (Update (slot 0) (two 7 1) (slot 0) (two 9 1)) ≡ false
a_parent_that_gets_another_number = refl

a_new_parent : parent_admits Restrict false (company [] ((slot 0, two 1 9) ∷ [])) (Insert (slot 0) (two 7 1)) ≡ true
a_new_parent = refl

a_parent_that_waits : parent_admits Restrict true (company sevens ann) (Delete (slot 0) (two 7 1)) ≡ true
a_parent_that_waits = refl

a_parent_that_takes_its_children : parent_admits Cascade false (company sevens ann) (Delete (slot 0) (two 7 1)) ≡ true
a_parent_that_takes_its_children = refl

-- ---- what follows
abbrev parent_follows : Mode → Bool → Db → Change → List Action
parent_follows mode deferred db c = follows (changed db (codes "dept") c) (codes "dept") (has_people mode deferred) c

abbrev those_of_seven : List Action
those_of_seven = action.Delete (codes "emp") ((codes "dept", Const (int 7)) ∷ []) ∷ []

children_go : parent_follows Cascade false (company sevens ann) (Delete (slot 0) (two 7 1)) ≡ those_of_seven
children_go = refl

children_go_at_once_though_their_test_waits : parent_follows Cascade true (company sevens ann) (Delete (slot 0) (two 7 1)) ≡ those_of_seven
children_go_at_once_though_their_test_waits = refl

children_of_a_number_that_changes : parent_follows Cascade false (company sevens ann) (Update (slot 0) (two 7 1) (slot 0) (two 9 1)) ≡ those_of_seven
children_of_a_number_that_changes = refl

children_of_another_parent_stay : parent_follows Cascade false (company ((slot 0, two 7 1) ∷ (slot 1, two 7 2) ∷ []) ann) (Delete (slot 0) (two 7 1)) ≡ []
children_of_another_parent_stay = refl

nothing_follows_a_new_parent : parent_follows Cascade false (company [] ann) (Insert (slot 0) (two 9 1)) ≡ []
nothing_follows_a_new_parent = refl

nothing_follows_a_restriction : parent_follows Restrict false (company sevens ann) (Delete (slot 0) (two 7 1)) ≡ []
nothing_follows_a_restriction = refl

nothing_follows_a_child : follows (company sevens ann) (codes "emp") (works Cascade false) (Delete (slot 0) (two 1 7)) ≡ []
nothing_follows_a_child = refl

no_cascade_waits : late_actions (company [] ann) (codes "dept") (has_people Cascade true) (Delete (slot 0) (two 7 1)) ≡ []
no_cascade_waits = refl

-- ---- what waits for the commit
the_new_values_of_a_child : late_checks (company sevens ann) (codes "emp") (works Restrict true) (Update (slot 0) (two 1 7) (slot 0) (two 1 9)) ≡ tuple_spelling (int 9 ∷ []) ∷ []
the_new_values_of_a_child = refl

nothing_of_a_child_that_goes : late_checks (company sevens ann) (codes "emp") (works Restrict true) (Delete (slot 0) (two 1 7)) ≡ []
nothing_of_a_child_that_goes = refl

the_old_values_of_a_parent : late_checks (company sevens ann) (codes "dept") (has_people Restrict true) (Update (slot 0) (two 7 1) (slot 0) (two 9 1)) ≡ tuple_spelling (int 7 ∷ []) ∷ []
the_old_values_of_a_parent = refl

nothing_of_a_new_parent : late_checks (company sevens ann) (codes "dept") (has_people Restrict true) (Insert (slot 2) (two 9 1)) ≡ []
nothing_of_a_new_parent = refl

nothing_that_was_tested : late_checks (company sevens ann) (codes "emp") (works Restrict false) (Insert (slot 1) (two 2 7)) ≡ []
nothing_that_was_tested = refl

-- ---- the whole
all_have_a_parent : holds None (company sevens ann) (codes "emp") (works Restrict false) ≡ true
all_have_a_parent = refl

one_has_none : holds None (company sevens ((slot 0, two 1 7) ∷ (slot 1, two 2 9) ∷ [])) (codes "emp") (works Restrict false) ≡ false
one_has_none = refl

the_mirror_says_the_same : holds None (company sevens ((slot 0, two 1 7) ∷ (slot 1, two 2 9) ∷ [])) (codes "dept") (has_people Restrict false) ≡ false
the_mirror_says_the_same = refl

a_parent_may_be_alone : holds None (company sevens []) (codes "dept") (has_people Cascade true) ≡ true
a_parent_may_be_alone = refl

an_entry_of_an_orphan : entry_fails (company [] ann) (codes "emp") (works Restrict true) (tuple_spelling (int 7 ∷ [])) ≡ true
an_entry_of_an_orphan = refl

an_entry_of_other_values : entry_fails (company [] ann) (codes "emp") (works Restrict true) (tuple_spelling (int 9 ∷ [])) ≡ false
an_entry_of_other_values = refl

an_entry_whose_parent_came : entry_fails (company sevens ann) (codes "emp") (works Restrict true) (tuple_spelling (int 7 ∷ [])) ≡ false
an_entry_whose_parent_came = refl

an_entry_of_a_parent_that_went : entry_fails (company [] ann) (codes "dept") (has_people Restrict true) (tuple_spelling (int 7 ∷ [])) ≡ true
an_entry_of_a_parent_that_went = refl
