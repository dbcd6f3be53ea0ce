-- Worked examples of hashes, of buckets, and of what operations cost.
use Rattle.std.specs.Prelude.{◌≡◌, refl, ℕ, ◌+◌, ◌-◌, ◌*◌, ◌^◌, codes, List, [], ◌∷◌, ◌++◌, true, false, length, map, pos, Some, None}
use Rattle.std.specs.List.{range_with_len}
use Rattle.sb_pred.specs.Tree.{Always}
use Rattle.sb_rule.specs.declared.action.Action.TheVariants as action
use Rattle.sb_rule.specs.declared.change.Change.{Change}
use Rattle.sb_rule.specs.declared.change.Change.TheVariants.{Insert, Delete, Update}
use Rattle.sb_rule.specs.declared.rule.Event.TheVariants as event
use Rattle.sb_rule.specs.declared.rule.Mode.TheVariants.{Restrict, Cascade}
use Rattle.sb_rule.specs.declared.rule.Side.TheVariants.{Main, Mirror}
use Rattle.sb_rule.specs.declared.rule.Rule.{Rule}
use Rattle.sb_rule.specs.declared.rule.Rule.TheVariants.{HashIndex, Stats, Check, Refers, Trigger, Foreign}
use Rattle.sb_relation.specs.Db.{Attached, schema_at}
use Rattle.sb_fold.specs.Costs.{digits, tree_cost, operations, hash_of, whole_round, bucket_number, next_split, partners, method_cost, rule_cost, change_cost, prepare_cost, descriptors_of, descriptor_cost, if_durable, create_cost, free_cost}
use Rattle.sb_fold.specs.Extensions.{Extensions, is_durable_method}
use Rattle.sb_fold.proofs.Samples.{two, rows, named, relation, alone, index, pairs, pairs_mirror, both, none, guests}

-- ---- trees
-- the powers of two have one digit more than the numbers below them
numbers : map digits (0 ∷ 1 ∷ 2 ∷ 3 ∷ 4 ∷ 7 ∷ 8 ∷ 255 ∷ 256 ∷ (2 ^ 64 - 1) ∷ 2 ^ 64 ∷ []) ≡ 0 ∷ 1 ∷ 2 ∷ 2 ∷ 3 ∷ 3 ∷ 4 ∷ 8 ∷ 9 ∷ 64 ∷ 65 ∷ []
numbers = refl

trees : map tree_cost (0 ∷ 1 ∷ 2 ∷ 3 ∷ 6 ∷ 7 ∷ (2 ^ 64 - 2) ∷ (2 ^ 64 - 1) ∷ []) ≡ 9 ∷ 14 ∷ 14 ∷ 19 ∷ 19 ∷ 24 ∷ 324 ∷ 329 ∷ []
trees = refl

-- a row that comes, one that goes, one that turns
abbrev changes : List Change
changes = Insert (9 ∷ []) (two 0 9) ∷ Delete (0 ∷ []) (two 0 0) ∷ Update (0 ∷ []) (two 0 0) (9 ∷ []) (two 0 9) ∷ []

removals_and_insertions : map operations changes ≡ 1 ∷ 1 ∷ 2 ∷ []
removals_and_insertions = refl

-- ---- hashes
the_hash_of_nothing : hash_of [] ≡ 0xcbf29ce484222325
the_hash_of_nothing = refl

the_hash_of_a_letter : hash_of (codes "a") ≡ 0xaf63dc4c8601ec8c
the_hash_of_a_letter = refl

the_hash_of_a_word : hash_of (codes "foobar") ≡ 0x85944171f73967e8
the_hash_of_a_word = refl

-- ---- buckets
rounds : map whole_round (4 ∷ 7 ∷ 8 ∷ 15 ∷ 16 ∷ 31 ∷ 32 ∷ []) ≡ 4 ∷ 4 ∷ 8 ∷ 8 ∷ 16 ∷ 16 ∷ 32 ∷ []
rounds = refl

splits : map next_split (4 ∷ 5 ∷ 7 ∷ 8 ∷ 9 ∷ []) ≡ 0 ∷ 1 ∷ 3 ∷ 0 ∷ 1 ∷ []
splits = refl

-- of five buckets the first alone was split
five_buckets : map (bucket_number 5) (range_with_len 0 9) ≡ 0 ∷ 1 ∷ 2 ∷ 3 ∷ 4 ∷ 1 ∷ 2 ∷ 3 ∷ 0 ∷ []
five_buckets = refl

-- ---- attachments of one relation, over the rows before the change
-- so many rows with each of the changes
abbrev rule_costs : Extensions → Rule → ℕ → ℕ → List ℕ
rule_costs ext rule buckets n = map (rule_cost ext (alone 1 [] n) (codes "r") rule buckets) changes

an_index_over_two_rows : rule_costs none index 0 2 ≡ 14 ∷ 14 ∷ 28 ∷ []
an_index_over_two_rows = refl

an_index_over_three_rows : rule_costs none index 0 3 ≡ 19 ∷ 19 ∷ 38 ∷ []
an_index_over_three_rows = refl

an_index_over_no_relation : rule_cost none [] (codes "r") index 0 (Insert (9 ∷ []) (two 0 9)) ≡ 9
an_index_over_no_relation = refl

sums_are_one_page : rule_costs none (Stats (codes "b") (pos 0) (pos 1)) 0 3 ≡ 1 ∷ 1 ∷ 1 ∷ []
sums_are_one_page = refl

-- 10000 for a bucket, 1000 for each byte of its desc, 100 for a column, 10 for a row and the kind of the change
a_guest's_attachment : rule_costs guests (Foreign 1000 (5 ∷ 5 ∷ [])) 4 3 ≡ 42231 ∷ 42232 ∷ 42233 ∷ []
a_guest's_attachment = refl

another_guest's : rule_costs guests (Foreign 1001 []) 0 3 ≡ 5 ∷ 5 ∷ 5 ∷ []
another_guest's = refl

one_that_isn't_there : rule_costs none (Foreign 1000 (5 ∷ [])) 0 3 ≡ 0 ∷ 0 ∷ 0 ∷ []
one_that_isn't_there = refl

abbrev without_pages : List Rule
without_pages =
    Check Always false
    ∷ Refers Main (codes "b" ∷ []) (codes "r") (codes "b" ∷ []) Cascade false
    ∷ Refers Mirror (codes "b" ∷ []) (codes "r") (codes "b" ∷ []) Restrict true
    ∷ Trigger event.Insert Always (action.Delete (codes "r") []) false
    ∷ []

these_have_no_pages : map (λ rule. rule_cost none (alone 1 [] 3) (codes "r") rule 0 (Insert (9 ∷ []) (two 0 9))) without_pages ≡ 0 ∷ 0 ∷ 0 ∷ 0 ∷ []
these_have_no_pages = refl

-- ---- a hash index, whose rows are those with 0, 1, .. in b
abbrev hash : Rule
hash = HashIndex (codes "b" ∷ [])

abbrev hash_cost : ℕ → ℕ → Change → ℕ
hash_cost n buckets c = rule_cost none (alone 1 [] n) (codes "r") hash buckets c

-- the 32nd row splits nothing; the 33rd splits the first of 4 buckets, which has 8 of the first 32 numbers and also 103, but not 100
up_to_8_rows_a_bucket : hash_cost 31 4 (Insert (31 ∷ []) (two 0 31)) ≡ 20
up_to_8_rows_a_bucket = refl

a_bucket_is_split : hash_cost 32 4 (Insert (200 ∷ []) (two 0 100)) ≡ 20 + 4 * 8
a_bucket_is_split = refl

with_the_new_row : hash_cost 32 4 (Insert (200 ∷ []) (two 0 103)) ≡ 20 + 4 * 9
with_the_new_row = refl

-- of 5 buckets the second is split, which has 10 of the first 40 numbers and also 100
the_second_is_split : hash_cost 40 5 (Insert (200 ∷ []) (two 0 100)) ≡ 20 + 4 * 11
the_second_is_split = refl

-- a row that goes or turns splits none
none_is_split : map (hash_cost 40 4) (Delete (0 ∷ []) (two 0 0) ∷ Update (0 ∷ []) (two 0 0) (9 ∷ []) (two 0 9) ∷ []) ≡ 20 ∷ 20 ∷ []
none_is_split = refl

-- ---- joins: the one row of l joins three of s, the other one; four pairs
joined_rows : map (partners both (codes "l") (codes "b" ∷ []) (codes "s") (codes "c" ∷ [])) (None ∷ Some (two 7 9) ∷ Some (two 9 7) ∷ Some (two 9 8) ∷ []) ≡ 0 ∷ 0 ∷ 3 ∷ 1 ∷ []
joined_rows = refl

abbrev left_costs : List Change → List ℕ
left_costs = map (rule_cost none both (codes "l") pairs 0)

abbrev right_costs : List Change → List ℕ
right_costs = map (rule_cost none both (codes "s") pairs_mirror 0)

-- three pairs come, up to seven: 24 each; one comes, up to five: 19; none comes
pairs_come : left_costs (Insert (3 ∷ []) (two 3 7) ∷ Insert (3 ∷ []) (two 3 8) ∷ Insert (3 ∷ []) (two 7 9) ∷ []) ≡ 72 ∷ 19 ∷ 0 ∷ []
pairs_come = refl

-- three of four go, or one
pairs_go : left_costs (Delete (1 ∷ []) (two 1 7) ∷ Delete (2 ∷ []) (two 2 8) ∷ []) ≡ 57 ∷ 19 ∷ []
pairs_go = refl

-- one goes and three come, up to seven; three go and one comes, up to five
pairs_go_and_come : left_costs (Update (2 ∷ []) (two 2 8) (2 ∷ []) (two 2 7) ∷ Update (1 ∷ []) (two 1 7) (1 ∷ []) (two 1 8) ∷ []) ≡ 96 ∷ 76 ∷ []
pairs_go_and_come = refl

-- rows of s join one row of l each
pairs_of_the_other_side : right_costs (Insert (9 ∷ []) (two 7 9) ∷ Insert (9 ∷ []) (two 9 7) ∷ Delete (1 ∷ []) (two 7 1) ∷ Update (4 ∷ []) (two 8 4) (4 ∷ []) (two 7 4) ∷ []) ≡ 19 ∷ 0 ∷ 19 ∷ 38 ∷ []
pairs_of_the_other_side = refl

-- ---- storage methods
abbrev method_costs : Extensions → ℕ → ℕ → List ℕ
method_costs ext method n = map (method_cost ext (relation method [] (rows n))) changes

a_heap : method_costs none 1 3 ≡ 10 ∷ 10 ∷ 10 ∷ []
a_heap = refl

a_tree : method_costs none 2 2 ++ method_costs none 2 3 ≡ 14 ∷ 14 ∷ 28 ∷ 19 ∷ 19 ∷ 38 ∷ []
a_tree = refl

-- 100 for a row and the kind of the change
a_guest's_method : method_costs guests 1000 3 ≡ 301 ∷ 302 ∷ 303 ∷ []
a_guest's_method = refl

which_outlive_the_run : map (is_durable_method guests) (1 ∷ 2 ∷ 3 ∷ 1000 ∷ 1001 ∷ 1002 ∷ []) ≡ true ∷ true ∷ false ∷ true ∷ false ∷ true ∷ []
which_outlive_the_run = refl

-- codes below 1000 are ours, whatever a guest says
abbrev brief : Extensions
brief = record guests {
  boxes = record {
    methods = record { code = 999; durable = false; fits = λ schema key. true } ∷ record { code = 1000; durable = false; fits = λ schema key. true } ∷ [];
    attachments = [];
  };
}

the_least_code_of_a_guest : map (is_durable_method brief) (999 ∷ 1000 ∷ []) ≡ true ∷ false ∷ []
the_least_code_of_a_guest = refl

-- ---- changes of a relation with all its attachments
abbrev change_costs : Extensions → ℕ → List Attached → ℕ → List ℕ
change_costs ext method attachments n = map (change_cost ext (alone method attachments n) (codes "r") (relation method attachments (rows n))) changes

-- a heap 10, an index over three rows 19 for each operation, sums 1
a_heap_with_two : change_costs none 1 (named index 0 ∷ named (Stats (codes "b") (pos 0) (pos 1)) 0 ∷ []) 3 ≡ 30 ∷ 30 ∷ 49 ∷ []
a_heap_with_two = refl

-- 28 for the tree's update over two rows and as much for the index
a_tree_with_one : change_costs none 2 (named index 0 ∷ []) 2 ≡ 28 ∷ 28 ∷ 56 ∷ []
a_tree_with_one = refl

-- each index has its own buckets: of 5 none is split yet; of 4 the first, which has 8 of the first 32 numbers and not 100
its_own_buckets : change_cost none (alone 1 (named hash 5 ∷ named hash 4 ∷ []) 32) (codes "r") (relation 1 (named hash 5 ∷ named hash 4 ∷ []) (rows 32)) (Insert (200 ∷ []) (two 0 100)) ≡ 10 + 20 + (20 + 4 * 8)
its_own_buckets = refl

-- what ends with the run costs nothing, with its attachments
a_temp_relation : change_costs none 3 (named index 0 ∷ []) 3 ≡ 0 ∷ 0 ∷ 0 ∷ []
a_temp_relation = refl

a_guest_that_ends_with_the_run : change_costs guests 1001 (named index 0 ∷ []) 3 ≡ 0 ∷ 0 ∷ 0 ∷ []
a_guest_that_ends_with_the_run = refl

-- ---- whole instances
abbrev rules : List Rule
rules = index ∷ hash ∷ pairs ∷ pairs_mirror ∷ Stats (codes "b") (pos 0) (pos 1) ∷ Foreign 1000 [] ∷ without_pages

-- two for each that has pages, and one to prepare it, but 20 of a hash index, and of a guest what it says itself
prepared : map (prepare_cost guests (schema_at both (codes "l"))) rules ≡ 3 ∷ 22 ∷ 3 ∷ 0 ∷ 3 ∷ (2 + (7 + length (schema_at both (codes "l")))) ∷ 0 ∷ 0 ∷ 0 ∷ 0 ∷ []
prepared = refl

none_prepares : prepare_cost none [] (Foreign 1000 []) ≡ 2
none_prepares = refl

described : map descriptors_of rules ≡ 1 ∷ 1 ∷ 2 ∷ 2 ∷ 1 ∷ 1 ∷ 1 ∷ 2 ∷ 2 ∷ 1 ∷ []
described = refl

-- among l and s, not t; where t stands alone; where none stands
a_descriptor : map (descriptor_cost none) (both ∷ alone 3 [] 1 ∷ [] ∷ []) ≡ 28 ∷ 18 ∷ 18 ∷ []
a_descriptor = refl

among_relations_of_guests : map (descriptor_cost guests) (alone 1000 [] 1 ∷ alone 1001 [] 1 ∷ []) ≡ 28 ∷ 18 ∷ []
among_relations_of_guests = refl

where_they_outlive_the_run : map (λ name. if_durable none both name 5) (codes "l" ∷ codes "t" ∷ codes "q" ∷ []) ≡ 5 ∷ 0 ∷ 5 ∷ []
where_they_outlive_the_run = refl

-- 3 and a descriptor, of a guest 2 and what it says itself
new_relations : map (create_cost guests both) (1 ∷ 2 ∷ 3 ∷ 1000 ∷ 1001 ∷ []) ≡ 31 ∷ 31 ∷ 0 ∷ 33 ∷ 0 ∷ []
new_relations = refl

-- those that have pages
freed : map free_cost ([] ∷ (0 ∷ []) ∷ (5 ∷ 0 ∷ 1 ∷ []) ∷ []) ≡ 0 ∷ 0 ∷ 66 ∷ []
freed = refl
