-- Worked examples of what rules admit, contain and leave to do, which the definitions compute.
use Rattle.std.specs.Prelude.{◌≡◌, ℕ, codes, refl, true, false, List, [], ◌∷◌, pos, negsuc, Some, None}
use Rattle.sb_value.specs.declared.value.Value.{Value}
use Rattle.sb_value.specs.declared.value.Value.TheVariants as value
use Rattle.sb_value.specs.declared.schema.Column.{Column}
use Rattle.sb_pred.specs.declared.predicate.Op.TheVariants.{Ge, Ne}
use Rattle.sb_pred.specs.declared.predicate.Term.TheVariants.{Const, New, Old}
use Rattle.sb_pred.specs.Tree.{Compare}
use Rattle.sb_rule.specs.declared.rule.Side.TheVariants.{Main, Mirror}
use Rattle.sb_rule.specs.declared.rule.Mode.TheVariants.{Cascade}
use Rattle.sb_rule.specs.declared.rule.Event.TheVariants as event
use Rattle.sb_rule.specs.declared.action.Action.TheVariants as action
use Rattle.sb_rule.specs.declared.change.Change.TheVariants.{Insert, Delete, Update}
use Rattle.sb_rule.specs.declared.rule.Rule.{Rule}
use Rattle.sb_rule.specs.declared.rule.Rule.TheVariants.{TreeIndex, JoinIndex, Stats, Check, Refers, Trigger}
use Rattle.sb_relation.specs.Build.{with_rule}
use Rattle.sb_relation.specs.Changes.{changed}
use Rattle.sb_relation.specs.Db.{Name, Key, Rows, Relation, Db, int_column, with_relation, tree}
use Rattle.sb_relation.specs.Images.{image, entries_only}
use Rattle.sb_relation.specs.Keys.{Coded, Counted, Just, Taken, new_keys}
use Rattle.sb_relation.specs.Rules.{admits, follows}

abbrev int : ℕ → Value
int n = value.Int (pos n)

-- the record key of a small number in a tree, and a key that a heap picks
abbrev key : ℕ → Key
key n = 128 ∷ 0 ∷ 0 ∷ 0 ∷ 0 ∷ 0 ∷ 0 ∷ n ∷ []

abbrev slot : ℕ → Key
slot n = 0 ∷ 0 ∷ 0 ∷ 2 ∷ 0 ∷ n ∷ []

abbrev relation : ℕ → List Column → List Name → Rows → Relation
relation method schema keyed rows = record { method = method; schema = schema; key = keyed; rows = rows; attachments = [] }

-- create l using tree (k int, v int) key (k), and the same for r; the join index is on v of both
abbrev pairs : Rows → Relation
pairs = relation tree (int_column (codes "k") ∷ int_column (codes "v") ∷ []) (codes "k" ∷ [])

abbrev joined : Db
joined =
    with_relation (with_relation [] (codes "l") (pairs ((key 1, int 1 ∷ int 5 ∷ []) ∷ (key 2, int 2 ∷ int 5 ∷ []) ∷ []))) (codes "r")
    (pairs ((key 1, int 1 ∷ int 5 ∷ []) ∷ (key 2, int 2 ∷ int 5 ∷ []) ∷ (key 3, int 3 ∷ int 6 ∷ []) ∷ []))

abbrev on_v : Rule
on_v = JoinIndex Main (codes "v" ∷ []) (codes "r") (codes "v" ∷ [])

each_two_that_join : image None joined (codes "l") on_v ≡ entries_only ((key 1, key 1) ∷ (key 1, key 2) ∷ (key 2, key 1) ∷ (key 2, key 2) ∷ [])
each_two_that_join = refl

one_that_joins_goes : image None (changed joined (codes "r") (Delete (key 1) (int 1 ∷ int 5 ∷ []))) (codes "l") on_v ≡ entries_only ((key 1, key 2) ∷ (key 2, key 2) ∷ [])
one_that_joins_goes = refl

-- create p using heap (id int, pay int), with check pos on p pay >= 0 and treeindex by_id on p (id) unique
abbrev paid : Rows → Db
paid rows = with_relation [] (codes "p") (relation 1 (int_column (codes "id") ∷ int_column (codes "pay") ∷ []) [] rows)

abbrev first_paid : Rows
first_paid = (slot 0, int 1 ∷ int 5 ∷ []) ∷ []

abbrev minus_five : Value
minus_five = value.Int (negsuc 4)

abbrev positive : Rule
positive = Check (Compare Ge (New (codes "pay")) (Const (int 0))) false

abbrev by_id : Rule
by_id = TreeIndex (codes "id" ∷ []) true

pays_are_positive : admits None (changed (paid []) (codes "p") (Insert (slot 0) (int 1 ∷ int 5 ∷ []))) (codes "p") positive (Insert (slot 0) (int 1 ∷ int 5 ∷ [])) ≡ true
pays_are_positive = refl

no_pay_is_negative : admits None (changed (paid first_paid) (codes "p") (Insert (slot 1) (int 2 ∷ minus_five ∷ []))) (codes "p") positive (Insert (slot 1) (int 2 ∷ minus_five ∷ [])) ≡ false
no_pay_is_negative = refl

no_number_twice : admits None (changed (paid first_paid) (codes "p") (Insert (slot 1) (int 1 ∷ minus_five ∷ []))) (codes "p") by_id (Insert (slot 1) (int 1 ∷ minus_five ∷ [])) ≡ false
no_number_twice = refl

a_row_is_not_its_own_other : admits None (changed (paid first_paid) (codes "p") (Update (slot 0) (int 1 ∷ int 5 ∷ []) (slot 0) (int 1 ∷ int 6 ∷ []))) (codes "p") by_id (Update (slot 0) (int 1 ∷ int 5 ∷ []) (slot 0) (int 1 ∷ int 6 ∷ [])) ≡ true
a_row_is_not_its_own_other = refl

numbers_with_their_rows : image None (paid first_paid) (codes "p") by_id ≡ entries_only ((key 1, slot 0) ∷ [])
numbers_with_their_rows = refl

-- stats of 3500, 3000 and 4100 from 0 on by widths of 1000
salaries : image None (paid ((slot 0, int 10 ∷ int 3500 ∷ []) ∷ (slot 1, int 11 ∷ int 3000 ∷ []) ∷ (slot 2, int 12 ∷ int 4100 ∷ []) ∷ [])) (codes "p") (Stats (codes "pay") (pos 0) (pos 1000))
    ≡ record { entries = []; sums = pos 3 ∷ pos 10600 ∷ pos 0 ∷ pos 0 ∷ pos 0 ∷ pos 2 ∷ pos 1 ∷ pos 0 ∷ pos 0 ∷ pos 0 ∷ pos 0 ∷ pos 0 ∷ pos 0 ∷ pos 0 ∷ pos 0 ∷ pos 0 ∷ pos 0 ∷ pos 0 ∷ [] }
salaries = refl

-- refers from up to id in one relation, whose mirror stands on it too
abbrev nodes : Rows → Db
nodes rows = with_rule (with_relation [] (codes "node") (relation tree (int_column (codes "id") ∷ int_column (codes "up") ∷ []) (codes "id" ∷ []) rows)) (codes "node") (codes "f")
    (Refers Main (codes "up" ∷ []) (codes "node") (codes "id" ∷ []) Cascade false)

abbrev mirror : Rule
mirror = Refers Mirror (codes "id" ∷ []) (codes "node") (codes "up" ∷ []) Cascade false

children_follow : follows (changed (nodes ((key 0, int 0 ∷ int 0 ∷ []) ∷ (key 1, int 1 ∷ int 0 ∷ []) ∷ [])) (codes "node") (Delete (key 0) (int 0 ∷ int 0 ∷ []))) (codes "node") mirror (Delete (key 0) (int 0 ∷ int 0 ∷ []))
    ≡ action.Delete (codes "node") ((codes "up", Const (int 0)) ∷ []) ∷ []
children_follow = refl

an_orphan_is_not_admitted : admits None (changed (nodes []) (codes "node") (Insert (key 1) (int 1 ∷ int 0 ∷ []))) (codes "node") (Refers Main (codes "up" ∷ []) (codes "node") (codes "id" ∷ []) Cascade false) (Insert (key 1) (int 1 ∷ int 0 ∷ [])) ≡ false
an_orphan_is_not_admitted = refl

its_own_parent_is_admitted : admits None (changed (nodes []) (codes "node") (Insert (key 0) (int 0 ∷ int 0 ∷ []))) (codes "node") (Refers Main (codes "up" ∷ []) (codes "node") (codes "id" ∷ []) Cascade false) (Insert (key 0) (int 0 ∷ int 0 ∷ [])) ≡ true
its_own_parent_is_admitted = refl

-- after update when new.pay <> old.pay do insert audit values (new.id, old.pay, new.pay)
abbrev raise : Rule
raise = Trigger event.Update (Compare Ne (New (codes "pay")) (Old (codes "pay"))) (action.Insert (codes "audit") (New (codes "id") ∷ Old (codes "pay") ∷ New (codes "pay") ∷ [])) false

a_raise_is_noted : follows (paid first_paid) (codes "p") raise (Update (slot 0) (int 10 ∷ int 3000 ∷ []) (slot 0) (int 10 ∷ int 3500 ∷ []))
    ≡ action.Insert (codes "audit") (Const (int 10) ∷ Const (int 3000) ∷ Const (int 3500) ∷ []) ∷ []
a_raise_is_noted = refl

no_raise_is_not : follows (paid first_paid) (codes "p") raise (Update (slot 0) (int 10 ∷ int 3000 ∷ []) (slot 0) (int 10 ∷ int 3000 ∷ [])) ≡ []
no_raise_is_not = refl

-- keys
a_tree_gives_the_code : new_keys Coded first_paid None (key 7) ≡ Just (key 7)
a_tree_gives_the_code = refl

a_code_that_stands_is_taken : new_keys Coded first_paid None (slot 0) ≡ Taken
a_code_that_stands_is_taken = refl

a_row_keeps_its_code : new_keys Coded first_paid (Some (slot 0)) (slot 0) ≡ Just (slot 0)
a_row_keeps_its_code = refl

counting_begins_with_1 : new_keys Counted [] None [] ≡ Just (0 ∷ 0 ∷ 0 ∷ 0 ∷ 0 ∷ 0 ∷ 0 ∷ 1 ∷ [])
counting_begins_with_1 = refl

counting_goes_on : new_keys Counted ((0 ∷ 0 ∷ 0 ∷ 0 ∷ 0 ∷ 0 ∷ 0 ∷ 9 ∷ [], []) ∷ []) None [] ≡ Just (0 ∷ 0 ∷ 0 ∷ 0 ∷ 0 ∷ 0 ∷ 0 ∷ 10 ∷ [])
counting_goes_on = refl
