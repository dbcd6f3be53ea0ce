-- Worked examples of changes, of unique indexes, checks and triggers, of record keys and of buckets.
use Rattle.std.specs.Prelude.{◌≡◌, refl, ℕ, ◌-◌, ◌^◌, Bool, true, false, codes, List, [], ◌∷◌, replicate, map, Some, None, pos, negsuc}
use Rattle.std.specs.List.{range_with_len}
use Rattle.std.specs.Int.{to_be_bytes, w64}
use Rattle.sb_pred.specs.declared.predicate.Op.TheVariants.{Ge}
use Rattle.sb_pred.specs.declared.predicate.Term.TheVariants.{Const, New, Old}
use Rattle.sb_pred.specs.Tree.{Always, Compare}
use Rattle.sb_codec.specs.Tuples.{tuple_spelling}
use Rattle.sb_rule.specs.declared.rule.Side.TheVariants.{Main, Mirror}
use Rattle.sb_rule.specs.declared.rule.Event.{Event}
use Rattle.sb_rule.specs.declared.rule.Event.TheVariants as event
use Rattle.sb_rule.specs.declared.rule.Rule.{Rule}
use Rattle.sb_rule.specs.declared.rule.Rule.TheVariants.{TreeIndex, HashIndex, JoinIndex, Check, Trigger}
use Rattle.sb_rule.specs.declared.action.Action.{Action}
use Rattle.sb_rule.specs.declared.action.Action.TheVariants as action
use Rattle.sb_rule.specs.declared.change.Change.{Change}
use Rattle.sb_rule.specs.declared.change.Change.TheVariants.{Insert, Delete, Update}
use Rattle.sb_relation.specs.Buckets.{next_buckets, standing_buckets}
use Rattle.sb_relation.specs.Changes.{changed_rows, changed}
use Rattle.sb_relation.specs.Db.{Key, Rows, Db}
use Rattle.sb_relation.specs.Images.{image, page_image, entries_only, no_image, stats_sums}
use Rattle.sb_relation.specs.Keys.{NewKeys, AnyOf, Just, NoGreater, Picked, Counted, new_keys}
use Rattle.sb_relation.specs.Rules.{admits, follows, late_actions, late_checks, holds, entry_fails}
use Rattle.sb_relation.proofs.Samples.{int, slot, two, people, company}

-- ---- changes
an_update_under_another_key : changed_rows ((slot 0, two 1 7) ∷ (slot 2, two 2 7) ∷ []) (Update (slot 0) (two 1 7) (slot 3) (two 1 8)) ≡ (slot 2, two 2 7) ∷ (slot 3, two 1 8) ∷ []
an_update_under_another_key = refl

an_update_under_its_own_key : changed_rows ((slot 0, two 1 7) ∷ (slot 2, two 2 7) ∷ []) (Update (slot 0) (two 1 7) (slot 0) (two 1 8)) ≡ (slot 0, two 1 8) ∷ (slot 2, two 2 7) ∷ []
an_update_under_its_own_key = refl

rows_stay_in_order : changed_rows ((slot 1, two 1 7) ∷ []) (Insert (slot 0) (two 2 7)) ≡ (slot 0, two 2 7) ∷ (slot 1, two 1 7) ∷ []
rows_stay_in_order = refl

others_stay : changed (company ((slot 0, two 7 1) ∷ []) ((slot 0, two 1 7) ∷ [])) (codes "emp") (Delete (slot 0) (two 1 7)) ≡ company ((slot 0, two 7 1) ∷ []) []
others_stay = refl

-- ---- unique indexes
abbrev two_sevens : Db
two_sevens = company [] ((slot 0, two 1 7) ∷ (slot 1, two 2 7) ∷ [])

abbrev by_dept : Bool → Rule
by_dept unique = TreeIndex (codes "dept" ∷ []) unique

the_second_of_two : admits None two_sevens (codes "emp") (by_dept true) (Insert (slot 1) (two 2 7)) ≡ false
the_second_of_two = refl

two_where_it_isn't_unique : admits None two_sevens (codes "emp") (by_dept false) (Insert (slot 1) (two 2 7)) ≡ true
two_where_it_isn't_unique = refl

one_that_goes : admits None two_sevens (codes "emp") (by_dept true) (Delete (slot 2) (two 3 7)) ≡ true
one_that_goes = refl

two_aren't_unique : holds None two_sevens (codes "emp") (by_dept true) ≡ false
two_aren't_unique = refl

they_needn't_be : holds None two_sevens (codes "emp") (by_dept false) ≡ true
they_needn't_be = refl

other_columns_are_unique : holds None two_sevens (codes "emp") (TreeIndex (codes "id" ∷ codes "dept" ∷ []) true) ≡ true
other_columns_are_unique = refl

-- ---- checks
abbrev positive : Bool → Rule
positive deferred = Check (Compare Ge (New (codes "dept")) (Const (int 1))) deferred

abbrev with_zero : Db
with_zero = company [] ((slot 0, two 1 0) ∷ (slot 1, two 2 7) ∷ [])

a_row_that_fails : admits None with_zero (codes "emp") (positive false) (Insert (slot 0) (two 1 0)) ≡ false
a_row_that_fails = refl

a_row_that_waits : admits None with_zero (codes "emp") (positive true) (Insert (slot 0) (two 1 0)) ≡ true
a_row_that_waits = refl

an_update_that_fails : admits None with_zero (codes "emp") (positive false) (Update (slot 0) (two 1 5) (slot 0) (two 1 0)) ≡ false
an_update_that_fails = refl

a_row_that_fails_may_go : admits None with_zero (codes "emp") (positive false) (Delete (slot 0) (two 1 0)) ≡ true
a_row_that_fails_may_go = refl

its_new_row_waits : late_checks with_zero (codes "emp") (positive true) (Update (slot 0) (two 1 5) (slot 0) (two 1 0)) ≡ tuple_spelling (two 1 0) ∷ []
its_new_row_waits = refl

nothing_waits_that_was_tested : late_checks with_zero (codes "emp") (positive false) (Insert (slot 0) (two 1 0)) ≡ []
nothing_waits_that_was_tested = refl

not_all_pass : holds None with_zero (codes "emp") (positive false) ≡ false
not_all_pass = refl

all_pass : holds None two_sevens (codes "emp") (positive true) ≡ true
all_pass = refl

the_entry_of_a_row_that_fails : entry_fails with_zero (codes "emp") (positive true) (tuple_spelling (two 1 0)) ≡ true
the_entry_of_a_row_that_fails = refl

the_entry_of_a_row_that_passes : entry_fails with_zero (codes "emp") (positive true) (tuple_spelling (two 2 7)) ≡ false
the_entry_of_a_row_that_passes = refl

-- ---- triggers
abbrev note : Action
note = action.Insert (codes "dept") (New (codes "id") ∷ Old (codes "dept") ∷ [])

abbrev on_update : Bool → Rule
on_update deferred = Trigger event.Update (Compare Ge (New (codes "dept")) (Const (int 5))) note deferred

abbrev noted : List Action
noted = action.Insert (codes "dept") (Const (int 1) ∷ Const (int 7) ∷ []) ∷ []

it_follows_at_once : follows two_sevens (codes "emp") (on_update false) (Update (slot 0) (two 1 7) (slot 0) (two 1 8)) ≡ noted
it_follows_at_once = refl

or_it_doesn't : follows two_sevens (codes "emp") (on_update true) (Update (slot 0) (two 1 7) (slot 0) (two 1 8)) ≡ []
or_it_doesn't = refl

it_waits : late_actions two_sevens (codes "emp") (on_update true) (Update (slot 0) (two 1 7) (slot 0) (two 1 8)) ≡ noted
it_waits = refl

or_it_doesn't_wait : late_actions two_sevens (codes "emp") (on_update false) (Update (slot 0) (two 1 7) (slot 0) (two 1 8)) ≡ []
or_it_doesn't_wait = refl

its_predicate_fails : follows two_sevens (codes "emp") (on_update false) (Update (slot 0) (two 1 7) (slot 0) (two 1 4)) ≡ []
its_predicate_fails = refl

another_event : follows two_sevens (codes "emp") (on_update false) (Insert (slot 0) (two 1 7)) ≡ []
another_event = refl

abbrev after_each : Event → Change → List Action
after_each on c = follows two_sevens (codes "emp") (Trigger on Always (action.Delete (codes "dept") []) false) c

deletes_are_deletes : after_each event.Delete (Delete (slot 0) (two 1 7)) ≡ action.Delete (codes "dept") [] ∷ []
deletes_are_deletes = refl

inserts_aren't_deletes : after_each event.Delete (Insert (slot 0) (two 1 7)) ≡ []
inserts_aren't_deletes = refl

inserts_are_inserts : after_each event.Insert (Insert (slot 0) (two 1 7)) ≡ action.Delete (codes "dept") [] ∷ []
inserts_are_inserts = refl

-- ---- record keys
abbrev may_get : NewKeys → Key → Bool
may_get (AnyOf may) key = may key
may_get _ key = false

abbrev one_row : Rows
one_row = (slot 0, two 1 7) ∷ []

a_free_key_may_be_picked : may_get (new_keys Picked one_row None []) (slot 1) ≡ true
a_free_key_may_be_picked = refl

a_key_that_stands_may_not : may_get (new_keys Picked one_row None []) (slot 0) ≡ false
a_key_that_stands_may_not = refl

a_row's_own_key_may : may_get (new_keys Picked one_row (Some (slot 0)) []) (slot 0) ≡ true
a_row's_own_key_may = refl

two_hundred_bytes_may : may_get (new_keys Picked one_row None []) (replicate 200 1) ≡ true
two_hundred_bytes_may = refl

one_more_may_not : may_get (new_keys Picked one_row None []) (replicate 201 1) ≡ false
one_more_may_not = refl

the_last_number : new_keys Counted ((to_be_bytes w64 (2 ^ 64 - 2), []) ∷ []) None [] ≡ Just (to_be_bytes w64 (2 ^ 64 - 1))
the_last_number = refl

none_is_greater : new_keys Counted ((to_be_bytes w64 (2 ^ 64 - 1), []) ∷ []) None [] ≡ NoGreater
none_is_greater = refl

a_counted_key_stays : new_keys Counted one_row (Some (slot 0)) [] ≡ Just (slot 0)
a_counted_key_stays = refl

-- ---- buckets
abbrev many : ℕ → Rows
many n = map (λ i. (slot i, two i i)) (range_with_len 0 n)

abbrev by_hash : Rule
by_hash = HashIndex (codes "id" ∷ [])

at_32_rows : next_buckets by_hash (Insert (slot 31) (two 31 31)) (many 32) 4 ≡ 4
at_32_rows = refl

at_33_rows : next_buckets by_hash (Insert (slot 32) (two 32 32)) (many 33) 4 ≡ 5
at_33_rows = refl

none_comes_with_an_update : next_buckets by_hash (Update (slot 32) (two 32 32) (slot 32) (two 33 33)) (many 33) 4 ≡ 4
none_comes_with_an_update = refl

none_goes : next_buckets by_hash (Delete (slot 0) (two 0 0)) [] 5 ≡ 5
none_goes = refl

few_rows_that_stand : standing_buckets by_hash (many 32) ≡ 4
few_rows_that_stand = refl

rows_that_stand_count : standing_buckets by_hash (many 41) ≡ 6
rows_that_stand_count = refl

a_tree_has_none : standing_buckets (by_dept true) (many 41) ≡ 0
a_tree_has_none = refl

abbrev hashed : ℕ → ℕ → Db
hashed rows buckets = (codes "emp", people (record { name = codes "h"; rule = by_hash; buckets = buckets } ∷ []) (many rows)) ∷ []

the_33rd_row_brings_one : changed (hashed 32 4) (codes "emp") (Insert (slot 32) (two 32 32)) ≡ hashed 33 5
the_33rd_row_brings_one = refl

-- ---- images
the_least_and_the_greatest_bucket : stats_sums (pos 10) (pos 5) (pos 9 ∷ pos 10 ∷ pos 14 ∷ pos 15 ∷ pos 84 ∷ pos 85 ∷ pos 1000 ∷ negsuc 3 ∷ [])
    ≡ pos 8 ∷ pos 1213 ∷ pos 4 ∷ pos 1 ∷ pos 0 ∷ pos 0 ∷ pos 0 ∷ pos 0 ∷ pos 0 ∷ pos 0 ∷ pos 0 ∷ pos 0 ∷ pos 0 ∷ pos 0 ∷ pos 0 ∷ pos 0 ∷ pos 1 ∷ pos 2 ∷ []
the_least_and_the_greatest_bucket = refl

a_hash_index_has_each_row : image None two_sevens (codes "emp") (HashIndex (codes "dept" ∷ []))
    ≡ entries_only ((128 ∷ 0 ∷ 0 ∷ 0 ∷ 0 ∷ 0 ∷ 0 ∷ 7 ∷ [], slot 0) ∷ (128 ∷ 0 ∷ 0 ∷ 0 ∷ 0 ∷ 0 ∷ 0 ∷ 7 ∷ [], slot 1) ∷ [])
a_hash_index_has_each_row = refl

by_the_code_and_then_by_the_row : image None (company [] ((slot 0, two 1 9) ∷ (slot 1, two 2 7) ∷ (slot 2, two 3 9) ∷ [])) (codes "emp") (by_dept false)
    ≡ entries_only ((128 ∷ 0 ∷ 0 ∷ 0 ∷ 0 ∷ 0 ∷ 0 ∷ 7 ∷ [], slot 1) ∷ (128 ∷ 0 ∷ 0 ∷ 0 ∷ 0 ∷ 0 ∷ 0 ∷ 9 ∷ [], slot 0) ∷ (128 ∷ 0 ∷ 0 ∷ 0 ∷ 0 ∷ 0 ∷ 0 ∷ 9 ∷ [], slot 2) ∷ [])
by_the_code_and_then_by_the_row = refl

-- the first key is that of the relation on which the join index stands
abbrev pairs : Db
pairs = company ((slot 5, two 7 1) ∷ []) ((slot 0, two 1 7) ∷ (slot 1, two 7 9) ∷ [])

its_own_key_comes_first : image None pairs (codes "emp") (JoinIndex Main (codes "dept" ∷ []) (codes "dept") (codes "no" ∷ [])) ≡ entries_only ((slot 0, slot 5) ∷ [])
its_own_key_comes_first = refl

the_mirror_has_none : image None pairs (codes "dept") (JoinIndex Mirror (codes "no" ∷ []) (codes "emp") (codes "dept" ∷ [])) ≡ no_image
the_mirror_has_none = refl

and_works_on_those_of_the_main_one : page_image None pairs (codes "dept") (JoinIndex Mirror (codes "no" ∷ []) (codes "emp") (codes "dept" ∷ [])) ≡ entries_only ((slot 0, slot 5) ∷ [])
and_works_on_those_of_the_main_one = refl
