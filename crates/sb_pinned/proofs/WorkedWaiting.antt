-- What waits for a commit, what fails there, and what a rollback brings back.
use Rattle.std.specs.Prelude.{◌≡◌, refl, ℕ, true, false, codes, List, [], ◌∷◌, map, Option, Some, None, option_map}
use Rattle.sb_pred.specs.declared.predicate.Op.TheVariants.{Lt}
use Rattle.sb_pred.specs.declared.predicate.Term.TheVariants.{Const, New}
use Rattle.sb_pred.specs.Tree.{Compare}
use Rattle.sb_rule.specs.declared.rule.Mode.TheVariants.{Restrict}
use Rattle.sb_rule.specs.declared.rule.Side.TheVariants.{Main, Mirror}
use Rattle.sb_rule.specs.declared.rule.Rule.{Rule}
use Rattle.sb_rule.specs.declared.rule.Rule.TheVariants.{TreeIndex, Check, Refers}
use Rattle.sb_relation.specs.Db.{Name, Attached, Relation, Db}
use Rattle.sb_fold.specs.declared.refusal.Refusal.TheVariants.{Veto}
use Rattle.sb_fold.specs.Finish.{first_failing}
use Rattle.sb_fold.specs.Outcome.{Entry, Gone, with_waiting}
use Rattle.sb_plain.specs.declared.command.Command.TheVariants as command
use Rattle.sb_plain.specs.State.{State, points_of, spent_in}
use Rattle.sb_pinned.proofs.Samples.{int, two, number, a, b, l, r, t, named, heap, temp}
use Rattle.sb_pinned.proofs.Scripts.{Asked, ask, answers, replies_of, after, none, over, ok, keyed, no, rows}

-- ---- entries
abbrev entry : Name → Name → ℕ → Entry
entry relation name n = record { relation = relation; name = name; entry = n ∷ [] }

-- an entry that waits, or comes twice, waits once, where it first came
an_entry_waits_once : with_waiting (entry t a 1 ∷ []) (entry t a 2 ∷ entry t a 1 ∷ entry t a 2 ∷ entry t a 3 ∷ []) ≡ entry t a 1 ∷ entry t a 2 ∷ entry t a 3 ∷ []
an_entry_waits_once = refl

-- it is another one by its relation, by its attachment and by its bytes
entries_of_others_wait_beside_it : with_waiting (entry t a 1 ∷ []) (entry r a 1 ∷ entry t b 1 ∷ entry t a 2 ∷ []) ≡ entry t a 1 ∷ entry r a 1 ∷ entry t b 1 ∷ entry t a 2 ∷ []
entries_of_others_wait_beside_it = refl

-- ---- the first rule that fails
abbrev below : ℕ → Rule
below n = Check (Compare Lt (New a) (Const (int n))) true

-- a 5 in each row: below 9 it holds, below 3 it fails
abbrev five : List Attached → Relation
five attachments = temp attachments ((number 1, two 5 5) ∷ [])

abbrev holds : Name → Attached
holds name = named name (below 9)

abbrev fails : Name → Attached
fails name = named name (below 3)

abbrev failing : Db → Option (Name × Name)
failing db = first_failing none db db

the_first_of_a_relation_fails : failing ((r, five (holds (codes "p") ∷ fails (codes "y") ∷ fails (codes "x") ∷ [])) ∷ []) ≡ Some (r, codes "y")
the_first_of_a_relation_fails = refl

the_first_relation_fails : failing ((l, five (fails (codes "y") ∷ [])) ∷ (r, five (fails (codes "x") ∷ [])) ∷ []) ≡ Some (l, codes "y")
the_first_relation_fails = refl

a_later_relation_fails : failing ((l, five (holds (codes "y") ∷ [])) ∷ (r, five (fails (codes "x") ∷ [])) ∷ []) ≡ Some (r, codes "x")
a_later_relation_fails = refl

none_fails : failing ((l, five (holds (codes "y") ∷ [])) ∷ (r, five []) ∷ []) ≡ None
none_fails = refl

-- what isn't deferred was tested before
what_is_not_deferred_is_not_tested : failing ((r, five (named (codes "x") (Check (Compare Lt (New a) (Const (int 3))) false) ∷ [])) ∷ []) ≡ None
what_is_not_deferred_is_not_tested = refl

-- of a reference the main instance is named, though its mirror stands in an earlier relation
abbrev refers : Name → Rule
refers other = Refers Main (a ∷ []) other (a ∷ []) Restrict true

the_main_instance_of_a_reference_is_named :
    failing ((l, temp (named (codes "t.f") (Refers Mirror (a ∷ []) t (a ∷ []) Restrict true) ∷ []) []) ∷ (t, five (named (codes "f") (refers l) ∷ [])) ∷ [])
    ≡ Some (t, codes "f")
the_main_instance_of_a_reference_is_named = refl

-- a commit is refused so
abbrev committing : List Asked
committing =
    ask command.Begin [] ok
    ∷ ask (command.Insert t (two 5 5)) [] (keyed (number 1))
    ∷ ask (command.Insert r (two 5 5)) [] (keyed (number 1))
    ∷ ask command.Commit [] (no (Veto r (codes "y")))
    ∷ ask (command.Scan t None None) [] (rows [])
    ∷ []

a_commit_names_the_first_that_fails :
    answers (over ((r, temp (holds (codes "p") ∷ fails (codes "y") ∷ fails (codes "x") ∷ []) []) ∷ (t, temp (fails (codes "c") ∷ []) []) ∷ [])) committing
    ≡ replies_of committing
a_commit_names_the_first_that_fails = refl

-- ---- rollback
-- t with two indexes, over no rows: each has 3 pages at most
abbrev indexed : Db
indexed = (t, heap (named (codes "i") (TreeIndex (a ∷ []) false) ∷ named (codes "j") (TreeIndex (b ∷ []) false) ∷ []) []) ∷ []

abbrev detaching : List Asked
detaching =
    ask command.Begin [] ok
    ∷ ask (command.Detach t (codes "i")) [] ok
    ∷ ask (command.Savepoint (codes "s")) [] ok
    ∷ ask (command.Detach t (codes "j")) [] ok
    ∷ ask (command.Savepoint (codes "u")) [] ok
    ∷ []

abbrev gone_of : State → Option Gone
gone_of s = option_map (λ x. x.gone) s.transaction

abbrev db_of : State → Option Db
db_of s = option_map (λ x. x.db) s.transaction

abbrev pages : List ℕ → Option Gone
pages bounds = Some (record { durable = bounds; others = [] })

abbrev detached : State
detached = after (over indexed) detaching

both_are_gone : gone_of detached ≡ pages (3 ∷ 3 ∷ [])
both_are_gone = refl

abbrev back : State
back = after detached (ask (command.Rollback (codes "s")) [] ok ∷ [])

one_is_gone_again : gone_of back ≡ pages (3 ∷ [])
one_is_gone_again = refl

the_other_is_there_again : db_of back ≡ Some ((t, heap (named (codes "j") (TreeIndex (b ∷ []) false) ∷ []) []) ∷ [])
the_other_is_there_again = refl

the_point_stays_and_the_later_one_goes : map (λ x. x.name) (points_of back) ≡ codes "s" ∷ []
the_point_stays_and_the_later_one_goes = refl

-- 1 for each command, and 28 for a descriptor at each detach
what_was_spent_stays_spent : map spent_in (detached ∷ back ∷ []) ≡ 60 ∷ 61 ∷ []
what_was_spent_stays_spent = refl
