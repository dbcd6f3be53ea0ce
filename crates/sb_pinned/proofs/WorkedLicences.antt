-- Want of room: the numbers at which it may be answered, and the commands that may want room and memory.
use Rattle.std.proofs.Common.{◌≡◌, ℕ, zero, suc, ◌<◌, true, false, List, [], ◌∷◌, map, refl, sym, subst, true≢false, arith, Some, None}
use Rattle.std.specs.Prelude.{codes, replicate, Any}
use Rattle.std.specs.List.{slice_index_or}
use Rattle.sb_pred.specs.declared.predicate.Term.TheVariants.{Const}
use Rattle.sb_rule.specs.declared.action.Action.{Action}
use Rattle.sb_rule.specs.declared.action.Action.TheVariants as action
use Rattle.sb_rule.specs.declared.change.Change.TheVariants.{Insert, Delete}
use Rattle.sb_rule.specs.declared.rule.Rule.TheVariants.{TreeIndex}
use Rattle.sb_relation.specs.Db.{Name, Rows, Db}
use Rattle.sb_fold.specs.declared.refusal.Room.{Room}
use Rattle.sb_fold.specs.declared.refusal.Room.TheVariants.{Data, Temp, Log, Gates}
use Rattle.sb_fold.specs.Need.{need}
use Rattle.sb_fold.specs.Outcome.{Reached, Entry, Gone, Queue}
use Rattle.sb_plain.specs.declared.command.Command.{Command}
use Rattle.sb_plain.specs.declared.command.Command.TheVariants as command
use Rattle.sb_plain.specs.Licences.{Sizes, IsFull, IsSpent, IsForced, LacksRoom, may_want_room, may_want_memory}
use Rattle.sb_plain.specs.State.{State, no_queue}
use Rattle.sb_pinned.proofs.Samples.{int, one, two, number, key, a, b, t, numbers, tree, temp}
use Rattle.sb_pinned.proofs.Scripts.{none, over}

-- ---- one point
of_index : {X : Type 0} (P : X → Type 0) (x : X) (k : ℕ) (y : X) → k < 1 → slice_index_or (x ∷ []) k y ≡ y → P y → P x
of_index P x zero y lt e p = subst P (sym e) p
of_index P x (suc k) y lt e p = absurd (omega (arith, lt))

of_one : {X : Type 0} (P : X → Type 0) (x : X) → Any P (x ∷ []) → P x
of_one P x found = of_index P x found.0 found.1 found.2 found.3 found.4

-- ---- a transaction in which so much was spent, with so many pages held aside, and a row that is inserted
abbrev w : Name
w = codes "w"

-- t outlives the run and w ends with it
abbrev with_rows : Rows → Rows → Db
with_rows ts ws = (t, tree [] ts) ∷ (w, temp [] ws) ∷ []

abbrev aside : ℕ → ℕ → Gone
aside durable others = record { durable = durable ∷ []; others = others ∷ [] }

abbrev open_with : ℕ → Gone → Queue → State
open_with spent gone queue = record (over (with_rows [] [])) {
  transaction = Some (record { db = with_rows [] []; queue = queue; points = []; gone = gone; spent = spent });
}

-- It costs 1, as each command does. Of what outlives the run 3, and for t 2 and 3 make 8 pages; of the others 3, and for w 2 and 5 make 10; beside those held aside.
abbrev insert : Command
insert = command.Insert w (two 1 1)

abbrev point : ℕ → Gone → Reached
point spent gone = record {
  before = with_rows [] [];
  after = with_rows [] ((number 1, two 1 1) ∷ []);
  change = Some (w, Insert (number 1) (two 1 1));
  aside = gone;
  spent = spent;
}

abbrev sizes : ℕ → ℕ → Sizes
sizes pages log = record { pages = pages; log = log }

-- so many pages are held aside and so much is spent before; a store of these sizes may answer so
abbrev Lacks : ℕ → ℕ → ℕ → Sizes → Room → Type 0
Lacks durable others spent store room = LacksRoom none store (open_with spent (aside durable others) no_queue) insert room

-- ---- pages of the store: one for the table, 8 and those held aside
pages_may_be_wanting_at_64 : Lacks 55 0 0 (sizes 64 0) (Data 64 64)
pages_may_be_wanting_at_64 =
    let needed : need none true (point 1 (aside 55 0)) ≡ 63 = refl in
    record { wants = refl; picks = []; lacks = (refl, refl, (0, point 1 (aside 55 0), omega arith, refl, omega (arith, needed))) }

-- those of relations that end with the run don't count
not_where_63_are_needed : Lacks 54 1000 0 (sizes 64 0) (Data 64 64) → ⊥
not_where_63_are_needed lacks =
    let needed : need none true (point 1 (aside 54 1000)) ≡ 62 = refl in
    omega (arith, needed, of_one (IsFull none true 1 64) (point 1 (aside 54 1000)) lacks.lacks.2)

not_before_all_pages_are_used : Lacks 55 0 0 (sizes 64 0) (Data 63 64) → ⊥
not_before_all_pages_are_used lacks = omega (arith, lacks.lacks.0)

not_of_another_number_of_pages : Lacks 55 0 0 (sizes 64 0) (Data 63 63) → ⊥
not_of_another_number_of_pages lacks = omega (arith, lacks.lacks.1)

-- 2,049 pages have two of the table
pages_may_be_wanting_at_2049 : Lacks 2039 0 0 (sizes 2049 0) (Data 2049 2049)
pages_may_be_wanting_at_2049 =
    let needed : need none true (point 1 (aside 2039 0)) ≡ 2047 = refl in
    record { wants = refl; picks = []; lacks = (refl, refl, (0, point 1 (aside 2039 0), omega arith, refl, omega (arith, needed))) }

not_where_2048_are_needed : Lacks 2038 0 0 (sizes 2049 0) (Data 2049 2049) → ⊥
not_where_2048_are_needed lacks =
    let needed : need none true (point 1 (aside 2038 0)) ≡ 2046 = refl in
    omega (arith, needed, of_one (IsFull none true 2 2049) (point 1 (aside 2038 0)) lacks.lacks.2)

-- ---- pages of relations that end with the run: 16,384 in all, and none for a table
pages_in_memory_may_be_wanting : Lacks 0 16374 0 (sizes 64 0) (Temp 16384 16384)
pages_in_memory_may_be_wanting =
    let needed : need none false (point 1 (aside 0 16374)) ≡ 16384 = refl in
    record { wants = refl; picks = []; lacks = (refl, refl, (0, point 1 (aside 0 16374), omega arith, refl, omega (arith, needed))) }

not_where_16383_are_needed : Lacks 20000 16373 0 (sizes 64 0) (Temp 16384 16384) → ⊥
not_where_16383_are_needed lacks =
    let needed : need none false (point 1 (aside 20000 16373)) ≡ 16383 = refl in
    omega (arith, needed, of_one (IsFull none false 0 16384) (point 1 (aside 20000 16373)) lacks.lacks.2)

not_before_all_in_memory_are_used : Lacks 0 16374 0 (sizes 64 0) (Temp 16383 16384) → ⊥
not_before_all_in_memory_are_used lacks = omega (arith, lacks.lacks.0)

not_of_another_number_in_memory : Lacks 0 16374 0 (sizes 64 0) (Temp 64 64) → ⊥
not_of_another_number_in_memory lacks = omega (arith, lacks.lacks.1)

-- ---- bytes of the log: twice 12,400 for each page that was edited, and 2,048
the_log_may_be_wanting_at_1 : Lacks 0 0 0 (sizes 64 28895) (Log 28000 896 28895)
the_log_may_be_wanting_at_1 = let spent : IsSpent 28895 1 = omega arith in record { wants = refl; picks = []; lacks = (omega arith, refl, spent) }

not_with_a_byte_more_at_1 : Lacks 0 0 0 (sizes 64 28896) (Log 28896 1 28896) → ⊥
not_with_a_byte_more_at_1 lacks = let spent : IsSpent 28896 1 = lacks.lacks.2 in omega (arith, spent)

the_log_may_be_wanting_at_85 : Lacks 0 0 84 (sizes 64 2112095) (Log 2112095 1 2112095)
the_log_may_be_wanting_at_85 = let spent : IsSpent 2112095 85 = omega arith in record { wants = refl; picks = []; lacks = (omega arith, refl, spent) }

not_with_a_byte_more_at_85 : Lacks 0 0 84 (sizes 64 2112096) (Log 2112096 1 2112096) → ⊥
not_with_a_byte_more_at_85 lacks = let spent : IsSpent 2112096 85 = lacks.lacks.2 in omega (arith, spent)

not_where_it_would_go_in : Lacks 0 0 0 (sizes 64 28895) (Log 28000 895 28895) → ⊥
not_where_it_would_go_in lacks = omega (arith, lacks.lacks.0)

not_of_another_log : Lacks 0 0 0 (sizes 64 28895) (Log 28895 1 28894) → ⊥
not_of_another_log lacks = omega (arith, lacks.lacks.1)

-- what the work itself edits counts: an insertion into a tree without rows is 9 more
abbrev TreeLacks : ℕ → Type 0
TreeLacks log = LacksRoom none (sizes 64 log) (open_with 0 (aside 0 0) no_queue) (command.Insert t (two 1 1)) (Log log 1 log)

the_log_may_be_wanting_for_its_work : TreeLacks 252095
the_log_may_be_wanting_for_its_work = let spent : IsSpent 252095 10 = omega arith in record { wants = refl; picks = []; lacks = (omega arith, refl, spent) }

not_with_a_byte_more_for_its_work : TreeLacks 252096 → ⊥
not_with_a_byte_more_for_its_work lacks = let spent : IsSpent 252096 10 = lacks.lacks.2 in omega (arith, spent)

-- ---- gates: all but two are used, and more than 10,000 pages were edited
gates_may_be_wanting : Lacks 0 0 10000 (sizes 64 0) (Gates 65535 65536)
gates_may_be_wanting = let spent : IsForced 10001 = omega arith in record { wants = refl; picks = []; lacks = (omega arith, refl, spent) }

not_with_10000_pages : Lacks 0 0 9999 (sizes 64 0) (Gates 65535 65536) → ⊥
not_with_10000_pages lacks = let spent : IsForced 10000 = lacks.lacks.2 in omega (arith, spent)

not_with_65534_gates : Lacks 0 0 10000 (sizes 64 0) (Gates 65534 65536) → ⊥
not_with_65534_gates lacks = omega (arith, lacks.lacks.0)

not_of_another_number_of_gates : Lacks 0 0 10000 (sizes 64 0) (Gates 65535 65535) → ⊥
not_of_another_number_of_gates lacks = omega (arith, lacks.lacks.1)

-- ---- one of several points is enough
abbrev two_rows : Db
two_rows = (t, tree [] ((key 1, two 1 1) ∷ (key 2, two 2 2) ∷ [])) ∷ []

-- 3, 2 and 7 for the rows, and an index over no row, one and two
abbrev built_at : ℕ → ℕ → Reached
built_at n spent = record { before = two_rows; after = two_rows; change = None; aside = record { durable = n ∷ []; others = [] }; spent = spent }

the_last_point_is_enough : LacksRoom none (sizes 20 0) (over two_rows) (command.Attach t (codes "i") (TreeIndex (b ∷ []) false)) (Data 20 20)
the_last_point_is_enough =
    let needed : need none true (built_at 7 55) ≡ 19 = refl in
    record { wants = refl; picks = []; lacks = (refl, refl, (2, built_at 7 55, omega arith, refl, omega (arith, needed))) }

-- both rows go, one after the other: the first change is between the most pages
abbrev first_gone : Reached
first_gone = record {
  before = two_rows;
  after = (t, tree [] ((key 2, two 2 2) ∷ [])) ∷ [];
  change = Some (t, Delete (key 1) (two 1 1));
  aside = record { durable = []; others = [] };
  spent = 15;
}

the_first_point_is_enough : LacksRoom none (sizes 13 0) (over two_rows) (command.Act (action.Delete t [])) (Data 13 13)
the_first_point_is_enough =
    let needed : need none true first_gone ≡ 12 = refl in
    record { wants = refl; picks = []; lacks = (refl, refl, (0, first_gone, omega arith, refl, omega (arith, needed))) }

-- ---- commands that may want room
abbrev waiting : List Action → List Entry → Queue
waiting actions entries = record { actions = actions; entries = entries }

abbrev later : Action
later = action.Insert w (Const (int 1) ∷ Const (int 1) ∷ [])

abbrev entry : Entry
entry = record { relation = t; name = codes "c"; entry = [] }

-- a commit does the work that waits
a_commit_may_want_room_for_what_waits : LacksRoom none (sizes 64 28895) (open_with 0 (aside 0 0) (waiting (later ∷ []) [])) command.Commit (Log 28895 1 28895)
a_commit_may_want_room_for_what_waits = let spent : IsSpent 28895 1 = omega arith in record { wants = refl; picks = []; lacks = (omega arith, refl, spent) }

-- one that only frees reaches no point, and spends 33 for the instance that it frees
a_commit_may_want_the_log_for_what_is_gone : LacksRoom none (sizes 64 847295) (open_with 0 (aside 3 0) no_queue) command.Commit (Log 847295 1 847295)
a_commit_may_want_the_log_for_what_is_gone = let spent : IsSpent 847295 34 = omega arith in record { wants = refl; picks = []; lacks = (omega arith, refl, spent) }

not_with_a_byte_more_for_what_is_gone : LacksRoom none (sizes 64 847296) (open_with 0 (aside 3 0) no_queue) command.Commit (Log 847296 1 847296) → ⊥
not_with_a_byte_more_for_what_is_gone lacks = let spent : IsSpent 847296 34 = lacks.lacks.2 in omega (arith, spent)

-- and nothing for one that ends with the run
not_for_what_ends_with_the_run : LacksRoom none (sizes 64 28896) (open_with 0 (aside 0 3) no_queue) command.Commit (Log 28896 1 28896) → ⊥
not_for_what_ends_with_the_run lacks = let spent : IsSpent 28896 1 = lacks.lacks.2 in omega (arith, spent)

a_commit_may_want_gates_for_what_is_gone : LacksRoom none (sizes 64 0) (open_with 9967 (aside 3 0) no_queue) command.Commit (Gates 65535 65536)
a_commit_may_want_gates_for_what_is_gone = let spent : IsForced 10001 = omega arith in record { wants = refl; picks = []; lacks = (omega arith, refl, spent) }

not_with_a_page_less_for_what_is_gone : LacksRoom none (sizes 64 0) (open_with 9966 (aside 3 0) no_queue) command.Commit (Gates 65535 65536) → ⊥
not_with_a_page_less_for_what_is_gone lacks = let spent : IsForced 10000 = lacks.lacks.2 in omega (arith, spent)

a_scan_lacks_no_room : LacksRoom none (sizes 64 0) (open_with 0 (aside 55 0) no_queue) (command.Scan t None None) (Data 64 64) → ⊥
a_scan_lacks_no_room lacks = true≢false (sym lacks.wants)

abbrev changing : List Command
changing =
    command.Create (codes "u") 1 numbers []
    ∷ command.Drop t
    ∷ command.Attach t (codes "i") (TreeIndex (a ∷ []) false)
    ∷ command.Detach t (codes "i")
    ∷ command.Insert t (two 1 1)
    ∷ command.Delete t (key 1)
    ∷ command.Update t (key 1) (two 1 1)
    ∷ command.Act (action.Delete t [])
    ∷ command.Act (action.Set t a (Const (int 1)) [])
    ∷ command.Act (action.Add t a (Const (int 1)) [])
    ∷ []

abbrev others : List Command
others =
    command.Register true 99
    ∷ command.Retire true 99
    ∷ command.Begin
    ∷ command.Abort
    ∷ command.Savepoint (codes "s")
    ∷ command.Rollback (codes "s")
    ∷ command.Get t (key 1)
    ∷ command.Scan t None None
    ∷ command.Lookup t (codes "i") (one 1)
    ∷ command.Range t (codes "i") (one 1) (one 1)
    ∷ command.Entries t (codes "i")
    ∷ command.Show t
    ∷ command.Tables
    ∷ command.Checkpoint
    ∷ []

what_changes_a_database_may_want_room : map (may_want_room (over two_rows)) changing ≡ replicate 10 true
what_changes_a_database_may_want_room = refl

all_others_want_none : map (may_want_room (over two_rows)) others ≡ replicate 14 false
all_others_want_none = refl

-- nothing; an entry; an action; pages of each kind
abbrev commits : List State
commits =
    open_with 0 (record { durable = []; others = [] }) no_queue
    ∷ open_with 0 (record { durable = []; others = [] }) (waiting [] (entry ∷ []))
    ∷ open_with 0 (record { durable = []; others = [] }) (waiting (later ∷ []) [])
    ∷ open_with 0 (record { durable = 3 ∷ []; others = [] }) no_queue
    ∷ open_with 0 (record { durable = []; others = 3 ∷ [] }) no_queue
    ∷ []

commits_that_may_want_room : map (λ s. may_want_room s command.Commit) commits ≡ false ∷ false ∷ true ∷ true ∷ true ∷ []
commits_that_may_want_room = refl

-- ---- commands that may want memory
commits_that_may_want_memory : map (λ s. may_want_memory s command.Commit) commits ≡ false ∷ true ∷ true ∷ true ∷ true ∷ []
commits_that_may_want_memory = refl

all_changes_may_want_memory : map (may_want_memory (over two_rows)) changing ≡ replicate 10 true
all_changes_may_want_memory = refl

-- there is no point to go back to
all_others_but_an_abort_may_want_memory :
    map (may_want_memory (over two_rows)) others
    ≡ true ∷ true ∷ true ∷ false ∷ true ∷ true ∷ true ∷ true ∷ true ∷ true ∷ true ∷ true ∷ true ∷ true ∷ []
all_others_but_an_abort_may_want_memory = refl
