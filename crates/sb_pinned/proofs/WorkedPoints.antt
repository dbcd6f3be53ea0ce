-- The points that work reaches, with the database before and after each, what is held aside and what was spent.
use Rattle.std.specs.Prelude.{◌≡◌, refl, ℕ, ◌+◌, ◌-◌, length, false, codes, List, [], ◌∷◌, Option, Some, None}
use Rattle.sb_pred.specs.declared.predicate.Op.TheVariants.{Lt}
use Rattle.sb_pred.specs.declared.predicate.Term.TheVariants.{Const, New}
use Rattle.sb_pred.specs.Tree.{Always, Compare, Fails}
use Rattle.sb_rule.specs.declared.action.Action.TheVariants as action
use Rattle.sb_rule.specs.declared.change.Change.{Change}
use Rattle.sb_rule.specs.declared.change.Change.TheVariants.{Insert, Delete, Update}
use Rattle.sb_rule.specs.declared.rule.Event.TheVariants as event
use Rattle.sb_rule.specs.declared.rule.Mode.TheVariants.{Restrict}
use Rattle.sb_rule.specs.declared.rule.Side.TheVariants.{Main, Mirror}
use Rattle.sb_rule.specs.declared.rule.Rule.{Rule}
use Rattle.sb_rule.specs.declared.rule.Rule.TheVariants.{TreeIndex, HashIndex, JoinIndex, Check, Refers, Trigger, Foreign}
use Rattle.sb_relation.specs.Db.{Name, Rows, Attached, Relation, Db}
use Rattle.sb_fold.specs.declared.refusal.Refusal.TheVariants.{Veto}
use Rattle.sb_fold.specs.Bounds.{method_bound}
use Rattle.sb_fold.specs.Building.{build, detach, drop_relation}
use Rattle.sb_fold.specs.Extensions.{Extensions}
use Rattle.sb_fold.specs.Fold.{first_change}
use Rattle.sb_fold.specs.Outcome.{Gone, Reached, Outcome, Gives, Stopped, NoStep, Work, begun, trail_of}
use Rattle.sb_fold.specs.Wishes.{Put, Remove, Replace}
use Rattle.sb_plain.specs.declared.command.Command.{Command}
use Rattle.sb_plain.specs.declared.command.Command.TheVariants as command
use Rattle.sb_plain.specs.State.{State, no_queue, spent_in}
use Rattle.sb_plain.specs.Step.{step}
use Rattle.sb_pinned.proofs.Samples.{int, two, number, key, a, b, l, r, t, named, heap, tree, temp}
use Rattle.sb_pinned.proofs.Scripts.{ask, after, none, over, ok, no}

-- ---- work that begins when 5 is spent, with a page of what outlives the run and two others held aside
abbrev aside : Gone
aside = record { durable = 1 ∷ []; others = 2 ∷ [] }

abbrev points_of : {A : Type 0} → Work A → Db → List Reached
points_of work db = (trail_of (work (begun db no_queue aside 5 []))).points

abbrev gone_in : {A : Type 0} → Outcome A → Option Gone
gone_in (Gives x going) = Some going.gone
gone_in (Stopped r trail) = None
gone_in (NoStep trail) = None

abbrev gone_of : {A : Type 0} → Work A → Db → Option Gone
gone_of work db = gone_in (work (begun db no_queue aside 5 []))

-- ---- a change
abbrev rows_of_t : Rows → Db
rows_of_t rows = (t, tree [] rows) ∷ []

abbrev before : Db
before = rows_of_t ((key 1, two 1 1) ∷ [])

abbrev changing : Db → Change → ℕ → Reached
changing after c spent = record { before = before; after = after; change = Some (t, c); aside = aside; spent = spent }

-- an operation on a tree of one row costs 14, and an update is two
an_insert_reaches_the_point_of_its_change :
    points_of (first_change none t (Put (two 2 2))) before
    ≡ changing (rows_of_t ((key 1, two 1 1) ∷ (key 2, two 2 2) ∷ [])) (Insert (key 2) (two 2 2)) 19 ∷ []
an_insert_reaches_the_point_of_its_change = refl

a_delete_reaches_the_point_of_its_change : points_of (first_change none t (Remove (key 1))) before ≡ changing (rows_of_t []) (Delete (key 1) (two 1 1)) 19 ∷ []
a_delete_reaches_the_point_of_its_change = refl

an_update_reaches_the_point_of_its_change :
    points_of (first_change none t (Replace (key 1) (two 3 4))) before
    ≡ changing (rows_of_t ((key 3, two 3 4) ∷ [])) (Update (key 1) (two 1 1) (key 3) (two 3 4)) 33 ∷ []
an_update_reaches_the_point_of_its_change = refl

a_change_that_is_none_reaches_no_point : points_of (first_change none t (Remove (key 2))) before ≡ []
a_change_that_is_none_reaches_no_point = refl

-- ---- commands that don't come to their end
-- the check of t vetoes each row from 9 on; a row of t inserts one of r, a heap, which wants a pick
abbrev guarded : List Attached
guarded = named (codes "c") (Check (Compare Lt (New a) (Const (int 9))) false) ∷ named (codes "g") (Trigger event.Insert Always (action.Insert r (New a ∷ New b ∷ [])) false) ∷ []

abbrev with_rows : Rows → Db
with_rows found = (r, heap [] []) ∷ (t, tree guarded found) ∷ []

abbrev refusing : State
refusing = after (over (with_rows [])) (ask command.Begin [] ok ∷ [])

abbrev only_point : Rows → Change → Reached
only_point found c = record { before = with_rows []; after = with_rows found; change = Some (t, c); aside = record { durable = []; others = [] }; spent = 10 }

-- a change of an empty tree costs 9, and the command 1
abbrev refused_insert : Command
refused_insert = command.Insert t (two 9 0)

it_is_refused : (step none refusing refused_insert []).reply ≡ Some (no (Veto t (codes "c")))
it_is_refused = refl

a_refused_command_reached_its_point : (step none refusing refused_insert []).points ≡ only_point ((key 9, two 9 0) ∷ []) (Insert (key 9) (two 9 0)) ∷ []
a_refused_command_reached_its_point = refl

and_has_spent_it : spent_in (step none refusing refused_insert []).state ≡ 10
and_has_spent_it = refl

-- without a pick for the row of r there is no step, and the row of t was reached
abbrev unfinished_insert : Command
unfinished_insert = command.Insert t (two 8 0)

there_is_no_reply : (step none refusing unfinished_insert []).reply ≡ None
there_is_no_reply = refl

picks_that_give_no_step_reached_their_points : (step none refusing unfinished_insert []).points ≡ only_point ((key 8, two 8 0) ∷ []) (Insert (key 8) (two 8 0)) ∷ []
picks_that_give_no_step_reached_their_points = refl

-- ---- what goes
-- l has an index, is joined with r and refers to it; w ends with the run and has an index
abbrev joins : Rule
joins = JoinIndex Main (b ∷ []) r (b ∷ [])

abbrev refers : Rule
refers = Refers Main (b ∷ []) r (b ∷ []) Restrict false

abbrev index : Attached
index = named (codes "i") (TreeIndex (b ∷ []) false)

abbrev w : Name
w = codes "w"

abbrev right_rows : Rows
right_rows = (key 1, two 1 7) ∷ (key 2, two 2 7) ∷ (key 3, two 3 8) ∷ []

abbrev free_right : Relation
free_right = tree [] right_rows

abbrev right : Relation
right = tree (named (codes "l.j") (JoinIndex Mirror (b ∷ []) l (b ∷ [])) ∷ named (codes "l.f") (Refers Mirror (b ∷ []) l (b ∷ []) Restrict false) ∷ []) right_rows

abbrev left : List Attached → Relation
left attachments = tree attachments ((key 1, two 1 7) ∷ (key 2, two 2 8) ∷ [])

abbrev brief : List Attached → Relation
brief attachments = temp attachments ((number 1, two 1 1) ∷ [])

abbrev tied : Db
tied = (l, left (index ∷ named (codes "j") joins ∷ named (codes "f") refers ∷ [])) ∷ (r, right) ∷ (w, brief (index ∷ [])) ∷ []

-- a point at rest
abbrev resting : Db → Gone → ℕ → Reached
resting db held spent = record { before = db; after = db; change = None; aside = held; spent = spent }

abbrev lasting : List ℕ → Option Gone
lasting bounds = Some (record { durable = bounds; others = 2 ∷ [] })

abbrev ending : List ℕ → Option Gone
ending bounds = Some (record { durable = 1 ∷ []; others = bounds })

-- 28 for the descriptor of l and for each of the two of its mirrors; what is freed is charged at the commit
a_drop_is_at_the_database_before : points_of (drop_relation none l) tied ≡ resting tied aside (5 + 84) ∷ []
a_drop_is_at_the_database_before = refl

-- two rows have 7 pages at most, three pairs 9, and a reference none
a_drop_holds_all_pages_aside : gone_of (drop_relation none l) tied ≡ lasting (1 ∷ 7 ∷ 7 ∷ 9 ∷ 0 ∷ [])
a_drop_holds_all_pages_aside = refl

-- a join stands in two descriptors, and so does a reference, which has no pages; an index stands in one
a_detach_of_a_join : points_of (detach none l (codes "j")) tied ≡ resting tied aside (5 + 56) ∷ []
a_detach_of_a_join = refl

its_pages_are_held_aside : gone_of (detach none l (codes "j")) tied ≡ lasting (1 ∷ 9 ∷ [])
its_pages_are_held_aside = refl

a_detach_of_a_reference : points_of (detach none l (codes "f")) tied ≡ resting tied aside (5 + 56) ∷ []
a_detach_of_a_reference = refl

a_detach_of_an_index : points_of (detach none l (codes "i")) tied ≡ resting tied aside (5 + 28) ∷ []
a_detach_of_an_index = refl

-- what ends with the run costs nothing, and its pages are held aside among those of its kind
a_drop_of_what_ends_with_the_run : points_of (drop_relation none w) tied ≡ resting tied aside 5 ∷ []
a_drop_of_what_ends_with_the_run = refl

its_pages_are_held_aside_among_the_others : gone_of (drop_relation none w) tied ≡ ending (2 ∷ 5 ∷ 5 ∷ [])
its_pages_are_held_aside_among_the_others = refl

a_detach_of_what_ends_with_the_run : points_of (detach none w (codes "i")) tied ≡ resting tied aside 5 ∷ []
a_detach_of_what_ends_with_the_run = refl

its_pages_are_among_the_others_too : gone_of (detach none w (codes "i")) tied ≡ ending (2 ∷ 5 ∷ [])
its_pages_are_among_the_others_too = refl

-- ---- what is built
abbrev lasting_aside : ℕ → Gone
lasting_aside n = record { durable = 1 ∷ n ∷ []; others = 2 ∷ [] }

abbrev ending_aside : ℕ → Gone
ending_aside n = record { durable = 1 ∷ []; others = 2 ∷ n ∷ [] }

-- over none of the rows, then over one more at each point: 3 and a descriptor, then an operation on a tree of those that were built
an_index_is_built_row_by_row :
    points_of (build none l (codes "x") (TreeIndex (a ∷ []) false)) tied
    ≡ resting tied (lasting_aside 3) 36 ∷ resting tied (lasting_aside 5) 45 ∷ resting tied (lasting_aside 7) 59 ∷ []
an_index_is_built_row_by_row = refl

-- 22 and a descriptor, then 20 a row; two pages for each of four buckets
a_hash_index_is_built_row_by_row :
    points_of (build none l (codes "x") (HashIndex (a ∷ []))) tied
    ≡ resting tied (lasting_aside 11) 55 ∷ resting tied (lasting_aside 13) 75 ∷ resting tied (lasting_aside 15) 95 ∷ []
a_hash_index_is_built_row_by_row = refl

-- one that takes fewer pages for more rows: those before a row are the more
abbrev falling : Extensions
falling = record {
  boxes = record { methods = []; attachments = [] };
  methods = record { code = 2; bound = λ n. 1; prepare = 1; cost = λ rows c. 1 } ∷ [];
  attachments = record { code = 1000; bound = λ desc schema rows buckets. 9 - length rows; prepare = λ desc schema. 1; cost = λ desc schema rows buckets c. 1 } ∷ [];
}

the_pages_before_a_row_are_held_aside_where_they_are_more :
    points_of (build falling l (codes "x") (Foreign 1000 [])) tied
    ≡ resting tied (lasting_aside 9) 36 ∷ resting tied (lasting_aside 9) 37 ∷ resting tied (lasting_aside 8) 38 ∷ []
the_pages_before_a_row_are_held_aside_where_they_are_more = refl

-- a code below 1,000 is ours, whatever an extension says of its pages
a_tree_takes_the_pages_of_a_tree : method_bound falling (tree [] ((key 1, two 1 1) ∷ [])) ≡ 5
a_tree_takes_the_pages_of_a_tree = refl

-- what ends with the run is built for nothing, and beside the others
an_index_of_what_ends_with_the_run :
    points_of (build none w (codes "x") (TreeIndex (a ∷ []) false)) tied ≡ resting tied (ending_aside 3) 5 ∷ resting tied (ending_aside 5) 5 ∷ []
an_index_of_what_ends_with_the_run = refl

-- nothing is gone when an index was built
what_is_built_is_not_gone : gone_of (build none l (codes "x") (TreeIndex (a ∷ []) false)) tied ≡ lasting (1 ∷ [])
what_is_built_is_not_gone = refl

-- a build that is refused may have come as far as its last row
a_refused_build_reached_its_points :
    points_of (build none w (codes "x") (Check (Fails Always) false)) tied ≡ resting tied (ending_aside 0) 5 ∷ resting tied (ending_aside 0) 5 ∷ []
a_refused_build_reached_its_points = refl
