-- Worked examples of what waits for deferred rules, and of what it tells.
use Rattle.std.specs.Prelude.{◌≡◌, ℕ, refl, codes, true, false, [], ◌∷◌, Some, pos}
use Rattle.sb_value.specs.declared.value.Value.{Value}
use Rattle.sb_value.specs.declared.value.Value.TheVariants as value
use Rattle.sb_codec.specs.Tuples.{tuple_spelling}
use Rattle.sb_pred.specs.declared.predicate.Op.TheVariants.{Ge}
use Rattle.sb_pred.specs.declared.predicate.Term.TheVariants.{Const, New}
use Rattle.sb_pred.specs.Tree.{Compare}
use Rattle.sb_rule.specs.declared.change.Change.{Change}
use Rattle.sb_rule.specs.declared.change.Change.TheVariants.{Insert, Delete, Update}
use Rattle.sb_rule.specs.declared.rule.Mode.TheVariants.{Restrict}
use Rattle.sb_rule.specs.declared.rule.Rule.{Rule}
use Rattle.sb_rule.specs.declared.rule.Rule.TheVariants.{Check, Refers}
use Rattle.sb_rule.specs.declared.rule.Side.TheVariants.{Main, Mirror}
use Rattle.sb_relation.specs.Changes.{changed}
use Rattle.sb_relation.specs.Db.{Name, Key, Row, Rows, Attached, Db, int_column}
use Rattle.sb_fold.specs.Extensions.{Extensions}
use Rattle.sb_fold.specs.Finish.{first_failing}
use Rattle.sb_fold.specs.Fold.{queue_late}
use Rattle.sb_fold.specs.Outcome.{Queue, begun}
use Rattle.sb_deferred.specs.Complete.{is_waiting, tells_of}
use Rattle.sb_deferred.specs.Waiting.{nothing}

-- ---- departments, and the people in them
abbrev int : ℕ → Value
int n = value.Int (pos n)

abbrev slot : ℕ → Key
slot n = 0 ∷ 0 ∷ 0 ∷ 2 ∷ 0 ∷ n ∷ []

abbrev two : ℕ → ℕ → Row
two a b = int a ∷ int b ∷ []

abbrev named : Name → Rule → Attached
named name rule = record { name = name; rule = rule; buckets = 0 }

-- check c on emp id >= 5 deferred
abbrev c : Rule
c = Check (Compare Ge (New (codes "id")) (Const (int 5))) true

-- refers w on emp (dept) to dept (no) restrict deferred, and its mirror
abbrev w : Rule
w = Refers Main (codes "dept" ∷ []) (codes "dept") (codes "no" ∷ []) Restrict true

abbrev w_mirror : Rule
w_mirror = Refers Mirror (codes "no" ∷ []) (codes "emp") (codes "dept" ∷ []) Restrict true

abbrev company : Rows → Rows → Db
company parents children =
    (codes "dept", record { method = 1; schema = int_column (codes "no") ∷ int_column (codes "floor") ∷ []; key = []; rows = parents; attachments = named (codes "emp.w") w_mirror ∷ [] })
    ∷ (codes "emp", record { method = 1; schema = int_column (codes "id") ∷ int_column (codes "dept") ∷ []; key = []; rows = children; attachments = named (codes "c") c ∷ named (codes "w") w ∷ [] })
    ∷ []

-- department 7, and one person in it
abbrev before : Db
before = company ((slot 0, two 7 1) ∷ []) ((slot 0, two 6 7) ∷ [])

-- what waits after a change, where nothing waited
abbrev later : Db → Name → Change → Queue
later db name change = (queue_late name change (begun (changed db name change) nothing (record { durable = []; others = [] }) 0 [])).queue

abbrev none : Extensions
none = record { boxes = record { methods = []; attachments = [] }; methods = []; attachments = [] }

-- ---- a check
abbrev low : Change
low = Insert (slot 1) (two 4 7)

the_new_row_waits : is_waiting (later before (codes "emp") low) (codes "emp") (codes "c") (tuple_spelling (two 4 7)) ≡ true
the_new_row_waits = refl

which_tells_that_the_check_may_fail : tells_of (changed before (codes "emp") low) (later before (codes "emp") low) (codes "emp") (codes "c") c ≡ true
which_tells_that_the_check_may_fail = refl

and_without_it_nothing_would : tells_of (changed before (codes "emp") low) nothing (codes "emp") (codes "c") c ≡ false
and_without_it_nothing_would = refl

and_it_fails : first_failing none (changed before (codes "emp") low) (changed before (codes "emp") low) ≡ Some (codes "emp", codes "c")
and_it_fails = refl

-- ---- a child without a parent
abbrev orphan : Change
orphan = Insert (slot 1) (two 5 8)

its_values_wait : is_waiting (later before (codes "emp") orphan) (codes "emp") (codes "w") (tuple_spelling (int 8 ∷ [])) ≡ true
its_values_wait = refl

which_tells_that_the_refers_may_fail : tells_of (changed before (codes "emp") orphan) (later before (codes "emp") orphan) (codes "emp") (codes "w") w ≡ true
which_tells_that_the_refers_may_fail = refl

and_without_them_nothing_would : tells_of (changed before (codes "emp") orphan) nothing (codes "emp") (codes "w") w ≡ false
and_without_them_nothing_would = refl

-- ---- a parent that goes
abbrev closing : Change
closing = Delete (slot 0) (two 7 1)

its_number_waits_for_the_mirror : is_waiting (later before (codes "dept") closing) (codes "dept") (codes "emp.w") (tuple_spelling (int 7 ∷ [])) ≡ true
its_number_waits_for_the_mirror = refl

and_not_for_the_child : is_waiting (later before (codes "dept") closing) (codes "emp") (codes "w") (tuple_spelling (int 7 ∷ [])) ≡ false
and_not_for_the_child = refl

which_tells_of_the_child : tells_of (changed before (codes "dept") closing) (later before (codes "dept") closing) (codes "emp") (codes "w") w ≡ true
which_tells_of_the_child = refl

and_without_it_the_child_goes_unseen : tells_of (changed before (codes "dept") closing) nothing (codes "emp") (codes "w") w ≡ false
and_without_it_the_child_goes_unseen = refl

and_the_child_fails : first_failing none (changed before (codes "dept") closing) (changed before (codes "dept") closing) ≡ Some (codes "emp", codes "w")
and_the_child_fails = refl

-- ---- a parent that gets another number, and one that keeps it
moving : is_waiting (later before (codes "dept") (Update (slot 0) (two 7 1) (slot 0) (two 9 1))) (codes "dept") (codes "emp.w") (tuple_spelling (int 7 ∷ [])) ≡ true
moving = refl

nothing_fails_where_it_keeps_it : tells_of (changed before (codes "dept") (Update (slot 0) (two 7 1) (slot 0) (two 7 2))) nothing (codes "emp") (codes "w") w ≡ true
nothing_fails_where_it_keeps_it = refl

-- ---- a relation that refers to itself: refers b on staff (boss) to staff (id) restrict deferred
abbrev b : Rule
b = Refers Main (codes "boss" ∷ []) (codes "staff") (codes "id" ∷ []) Restrict true

abbrev b_mirror : Rule
b_mirror = Refers Mirror (codes "id" ∷ []) (codes "staff") (codes "boss" ∷ []) Restrict true

-- 1 is the boss of both
abbrev staff : Db
staff = (
  codes "staff",
  record {
    method = 1;
    schema = int_column (codes "id") ∷ int_column (codes "boss") ∷ [];
    key = [];
    rows = (slot 0, two 1 1) ∷ (slot 1, two 2 1) ∷ [];
    attachments = named (codes "b") b ∷ named (codes "staff.b") b_mirror ∷ [];
  },
)
    ∷ []

abbrev retiring : Change
retiring = Delete (slot 0) (two 1 1)

the_boss_waits_for_the_mirror : is_waiting (later staff (codes "staff") retiring) (codes "staff") (codes "staff.b") (tuple_spelling (int 1 ∷ [])) ≡ true
the_boss_waits_for_the_mirror = refl

which_tells_of_the_other : tells_of (changed staff (codes "staff") retiring) (later staff (codes "staff") retiring) (codes "staff") (codes "b") b ≡ true
which_tells_of_the_other = refl

and_without_it_the_other_goes_unseen : tells_of (changed staff (codes "staff") retiring) nothing (codes "staff") (codes "b") b ≡ false
and_without_it_the_other_goes_unseen = refl
