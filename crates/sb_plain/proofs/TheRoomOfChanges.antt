-- The points that commands reach, what is spent there and what is needed.
use Rattle.std.specs.Prelude.{◌≡◌, refl, ℕ, ◌+◌, ◌*◌, codes, List, [], ◌∷◌, map, take, true, false, Some, None}
use Rattle.std.specs.List.{last_or, range_with_len}
use Rattle.sb_pred.specs.Tree.{Always}
use Rattle.sb_rule.specs.declared.rule.Rule.TheVariants.{TreeIndex, HashIndex, Check}
use Rattle.sb_relation.specs.Db.{int_column}
use Rattle.sb_fold.specs.Costs.{tree_cost}
use Rattle.sb_fold.specs.Need.{need}
use Rattle.sb_fold.specs.Outcome.{Reached}
use Rattle.sb_plain.specs.declared.command.Command.{Command}
use Rattle.sb_plain.specs.declared.command.Command.TheVariants as command
use Rattle.sb_plain.specs.Licences.{table_pages, may_want_room, may_want_memory}
use Rattle.sb_plain.specs.State.{State}
use Rattle.sb_plain.specs.State.{spent_in}
use Rattle.sb_plain.specs.Step.{step}
use Rattle.sb_plain.proofs.ATriggerWhoseInsertIsVetoed.{script}
use Rattle.sb_plain.proofs.Scripts.{Asked, ask, after, start, no_extensions, int, slot}

abbrev points_of : State → Command → List (List ℕ) → List Reached
points_of s c picks = (step no_extensions s c picks).points

abbrev spent_at : List Reached → List ℕ
spent_at points = map (λ p. p.spent) points

abbrev needs_at : List Reached → List ℕ
needs_at points = map (need no_extensions true) points

-- ---- a row of a, with an index, whose trigger inserts a row of b
abbrev both : State
both = after start (take 5 script)

abbrev insert : List Reached
insert = points_of both (command.Insert (codes "a") (int 9 ∷ [])) (slot 2 0 ∷ slot 3 0 ∷ [])

-- 1 for the command; 10 for a heap's change and 9 for a tree index's; 10 for a heap's change
spent : spent_at insert ≡ 20 ∷ 30 ∷ []
spent = refl

-- 3, and for each relation 2 and its bounds: a heap of a row 5, its index 5, a heap of no row 3 and then 5
needed : needs_at insert ≡ 20 ∷ 22 ∷ []
needed = refl

-- a refused insert reached both points, too, and inside a transaction it is paid for
abbrev inside : State
inside = (step no_extensions both command.Begin []).state

a_refused_insert_is_paid : spent_in (step no_extensions inside (command.Insert (codes "a") (int 10 ∷ [])) (slot 2 0 ∷ slot 3 0 ∷ [])).state ≡ 30
a_refused_insert_is_paid = refl

so_is_a_scan : spent_in (step no_extensions inside (command.Scan (codes "a") None None) []).state ≡ 1
so_is_a_scan = refl

-- ---- attaching over three rows, detaching and dropping
abbrev heap : List Asked
heap =
    ask (command.Create (codes "t") 1 (int_column (codes "a") ∷ []) []) [] [] []
    ∷ ask (command.Insert (codes "t") (int 1 ∷ [])) [] (slot 2 0 ∷ []) []
    ∷ ask (command.Insert (codes "t") (int 2 ∷ [])) [] (slot 2 1 ∷ []) []
    ∷ ask (command.Insert (codes "t") (int 3 ∷ [])) [] (slot 2 2 ∷ []) []
    ∷ []

abbrev filled : State
filled = after start heap

abbrev indexed : Command
indexed = command.Attach (codes "t") (codes "i") (TreeIndex (codes "a" ∷ []) false)

a_new_relation : spent_at (points_of start (command.Create (codes "t") 1 (int_column (codes "a") ∷ []) []) []) ≡ (1 + 3 + 2 * tree_cost 0) ∷ []
a_new_relation = refl

and_its_need : needs_at (points_of start (command.Create (codes "t") 1 (int_column (codes "a") ∷ []) []) []) ≡ (3 + 2 + 3) ∷ []
and_its_need = refl

-- the instance is prepared and its relation's descriptor written; then each row is an insertion into a tree of those before it
each_row_is_built : spent_at (points_of filled indexed []) ≡ 32 ∷ 41 ∷ 55 ∷ 69 ∷ []
each_row_is_built = refl

-- 3 and 2 for the catalogue, 9 for the heap, and the index over none of the rows, over one, two and three
an_index_grows : needs_at (points_of filled indexed []) ≡ 17 ∷ 19 ∷ 21 ∷ 23 ∷ []
an_index_grows = refl

abbrev begun_with_index : State
begun_with_index = (step no_extensions (step no_extensions filled indexed []).state command.Begin []).state

abbrev detached : State
detached = (step no_extensions begun_with_index (command.Detach (codes "t") (codes "i")) []).state

-- a descriptor is written
a_detach : spent_at (points_of begun_with_index (command.Detach (codes "t") (codes "i")) []) ≡ (1 + 28) ∷ []
a_detach = refl

-- its pages are held aside until the commit: 3, 2, 11 for the rows that are then there, and 9
a_row_behind_a_detach : needs_at (points_of detached (command.Insert (codes "t") (int 4 ∷ [])) (slot 2 3 ∷ [])) ≡ (3 + 2 + 11 + 9) ∷ []
a_row_behind_a_detach = refl

a_drop : spent_at (points_of begun_with_index (command.Drop (codes "t")) []) ≡ (1 + 28) ∷ []
a_drop = refl

-- 33 for each instance that is freed, by the commit that frees it
a_commit_frees_an_index : (step no_extensions detached command.Commit []).spent ≡ (1 + 28) + (1 + 33)
a_commit_frees_an_index = refl

a_commit_frees_a_relation : (step no_extensions (step no_extensions begun_with_index (command.Drop (codes "t")) []).state command.Commit []).spent ≡ (1 + 28) + (1 + 66)
a_commit_frees_a_relation = refl

a_drop_of_its_own_frees_at_once : (step no_extensions (step no_extensions filled indexed []).state (command.Drop (codes "t")) []).spent ≡ 1 + 28 + 66
a_drop_of_its_own_frees_at_once = refl

-- over 34 rows a hash index is prepared, and one bucket of 8 rows is split once
abbrev hashed : State
hashed = after start (ask (command.Create (codes "h") 1 (int_column (codes "k") ∷ []) []) [] [] [] ∷ map (λ i. ask (command.Insert (codes "h") (int i ∷ [])) [] (slot 2 i ∷ []) []) (range_with_len 0 34))

a_hash_index_over_34_rows : last_or None (spent_at (points_of hashed (command.Attach (codes "h") (codes "x") (HashIndex (codes "k" ∷ []))) [])) ≡ Some (1 + 22 + 28 + 34 * 20 + 4 * 8)
a_hash_index_over_34_rows = refl

-- ---- which commands may want room and memory
-- an entry that waits wants memory at the commit, and no room
abbrev tested_late : State
tested_late = after (step no_extensions (step no_extensions filled (command.Attach (codes "t") (codes "c") (Check Always true)) []).state command.Begin []).state
    (ask (command.Insert (codes "t") (int 1 ∷ [])) [] (slot 2 3 ∷ []) [] ∷ [])

an_entry_wants_memory : may_want_memory tested_late command.Commit ≡ true
an_entry_wants_memory = refl

an_entry_wants_no_room : may_want_room tested_late command.Commit ≡ false
an_entry_wants_no_room = refl

a_commit_that_frees : may_want_room detached command.Commit ≡ true
a_commit_that_frees = refl

a_commit_that_doesn't : may_want_room begun_with_index command.Commit ≡ false
a_commit_that_doesn't = refl

a_scan_wants_no_room : may_want_room filled (command.Scan (codes "t") None None) ≡ false
a_scan_wants_no_room = refl

an_insert_wants_room : may_want_room filled (command.Insert (codes "t") []) ≡ true
an_insert_wants_room = refl

nor_memory : may_want_memory begun_with_index command.Commit ≡ false
nor_memory = refl

but_one_that_frees_does : may_want_memory detached command.Commit ≡ true
but_one_that_frees_does = refl

an_abort_wants_none : may_want_memory detached command.Abort ≡ false
an_abort_wants_none = refl

a_rollback_to_nowhere : may_want_memory detached (command.Rollback (codes "s")) ≡ true
a_rollback_to_nowhere = refl

a_rollback_to_a_point : may_want_memory (step no_extensions detached (command.Savepoint (codes "s")) []).state (command.Rollback (codes "s")) ≡ false
a_rollback_to_a_point = refl

-- ---- a store of 64 pages
one_page_says_whose_each_is : table_pages (record { pages = 64; log = 2097152 }) ≡ 1
one_page_says_whose_each_is = refl

two_pages_do : map (λ pages. table_pages (record { pages = pages; log = 2097152 })) (2048 ∷ 2049 ∷ 65536 ∷ []) ≡ 1 ∷ 2 ∷ 32 ∷ []
two_pages_do = refl
