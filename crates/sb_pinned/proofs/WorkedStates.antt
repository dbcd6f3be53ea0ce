-- Which commands have a place inside a transaction and outside of one, what commands cost, and which commits and codes they leave.
use Rattle.std.specs.Prelude.{◌≡◌, refl, ℕ, true, false, codes, List, [], ◌∷◌, map, replicate, Some, None}
use Rattle.sb_value.specs.declared.value.Value.TheVariants.{Text}
use Rattle.sb_rule.specs.declared.action.Action.{Action}
use Rattle.sb_rule.specs.declared.action.Action.TheVariants as action
use Rattle.sb_rule.specs.declared.rule.Rule.TheVariants.{TreeIndex}
use Rattle.sb_relation.specs.Db.{Name, Row, Rows, Db}
use Rattle.sb_fold.specs.declared.refusal.Refusal.TheVariants as refusal
use Rattle.sb_fold.specs.Outcome.{Entry}
use Rattle.sb_plain.specs.declared.command.Command.{Command}
use Rattle.sb_plain.specs.declared.command.Command.TheVariants as command
use Rattle.sb_plain.specs.Refusing.{refused}
use Rattle.sb_plain.specs.State.{Codes, State, none_gone, spent_in}
use Rattle.sb_plain.specs.Step.{step}
use Rattle.sb_pinned.proofs.Samples.{one, two, number, a, t, z, numbers, temp}
use Rattle.sb_pinned.proofs.Scripts.{Asked, ask, answers, replies_of, after, none, over, ok, keyed, no, rows}

abbrev db : Db
db = (t, temp [] ((number 1, two 1 1) ∷ (number 2, two 2 2) ∷ (number 3, two 3 3) ∷ [])) ∷ []

abbrev open_with : List Action → List Entry → State
open_with actions entries = record (over db) {
  transaction = Some (record { db = db; queue = record { actions = actions; entries = entries }; points = []; gone = none_gone; spent = 7 });
}

abbrev inside : State
inside = open_with [] []

abbrev s : Name
s = codes "s"

-- ---- places
abbrev of_transactions : List Command
of_transactions = command.Commit ∷ command.Abort ∷ command.Savepoint s ∷ command.Rollback s ∷ []

abbrev of_the_kernel : List Command
of_the_kernel = command.Begin ∷ command.Checkpoint ∷ command.Register true 99 ∷ command.Retire true 99 ∷ []

they_have_no_place_outside : map (refused none (over db)) of_transactions ≡ replicate 4 (Some refusal.State)
they_have_no_place_outside = refl

they_have_a_place_inside : map (refused none inside) of_transactions ≡ None ∷ None ∷ None ∷ Some (refusal.NoName s) ∷ []
they_have_a_place_inside = refl

these_have_no_place_inside : map (refused none inside) of_the_kernel ≡ replicate 4 (Some refusal.State)
these_have_no_place_inside = refl

these_have_a_place_outside : map (refused none (over db)) of_the_kernel ≡ None ∷ None ∷ Some (refusal.NoExtension 99) ∷ Some (refusal.NoExtension 99) ∷ []
these_have_a_place_outside = refl

-- a drop has none behind actions that wait, and entries are no actions; other commands have one
abbrev waiting : List State
waiting = inside ∷ open_with [] (record { relation = t; name = s; entry = [] } ∷ []) ∷ open_with (action.Delete t [] ∷ []) [] ∷ []

a_drop_has_no_place_behind_actions : map (λ state. refused none state (command.Drop t)) waiting ≡ None ∷ None ∷ Some refusal.State ∷ []
a_drop_has_no_place_behind_actions = refl

all_others_have_one :
    map (refused none (open_with (action.Delete t [] ∷ []) []))
    (command.Create (codes "u") 1 numbers [] ∷ command.Attach t s (TreeIndex (a ∷ []) false) ∷ command.Insert t (two 1 1) ∷ command.Scan t None None ∷ command.Tables ∷ [])
    ≡ replicate 5 None
all_others_have_one = refl

-- ---- each command of a transaction costs 1, whether it reads, is refused or is about the transaction
abbrev cheap : List Command
cheap =
    command.Scan t None None
    ∷ command.Tables
    ∷ command.Savepoint s
    ∷ command.Scan z None None
    ∷ command.Begin
    ∷ command.Insert t (one 1)
    ∷ command.Insert t (two 4 4)
    ∷ []

each_command_costs_1 : map (λ c. spent_in (step none inside c []).state) cheap ≡ replicate 7 8
each_command_costs_1 = refl

a_begin_costs_nothing : spent_in (step none (over db) command.Begin []).state ≡ 0
a_begin_costs_nothing = refl

-- ---- rows that don't fit, and rows that are read
abbrev text : Row
text = Text (codes "x") ∷ Text (codes "y") ∷ []

abbrev reading : List Asked
reading =
    ask (command.Insert t (one 1)) [] (no refusal.Mistyped)
    ∷ ask (command.Insert t text) [] (no refusal.Mistyped)
    ∷ ask (command.Update t (number 1) (one 1)) [] (no refusal.Mistyped)
    ∷ ask (command.Update t (number 1) text) [] (no refusal.Mistyped)
    ∷ ask (command.Scan t None (Some 2)) [] (rows ((number 1, two 1 1) ∷ (number 2, two 2 2) ∷ []))
    ∷ ask (command.Scan t (Some (number 1)) (Some 1)) [] (rows ((number 2, two 2 2) ∷ []))
    ∷ ask (command.Scan t (Some (number 2)) None) [] (rows ((number 3, two 3 3) ∷ []))
    ∷ ask (command.Get t (number 2)) [] (rows ((number 2, two 2 2) ∷ []))
    ∷ ask (command.Get t (number 4)) [] (no (refusal.NoRecord t))
    ∷ []

rows_are_read : answers (over db) reading ≡ replies_of reading
rows_are_read = refl

-- ---- commits
abbrev with_rows : Rows → Db
with_rows found = (t, temp [] found) ∷ []

-- a command outside of a transaction is a commit where it changes something, and one that is refused is none; a commit is one, an abort is none
abbrev committing : List Asked
committing =
    ask (command.Create t 3 numbers []) [] ok
    ∷ ask (command.Insert t (two 1 1)) [] (keyed (number 1))
    ∷ ask (command.Insert t (one 1)) [] (no refusal.Mistyped)
    ∷ ask (command.Scan z None None) [] (no (refusal.NoRelation z))
    ∷ ask command.Tables [] ok
    ∷ ask command.Begin [] ok
    ∷ ask (command.Insert t (two 2 2)) [] (keyed (number 2))
    ∷ ask command.Abort [] ok
    ∷ ask command.Begin [] ok
    ∷ ask (command.Insert t (two 3 3)) [] (keyed (number 2))
    ∷ ask (command.Insert t (two 4 4)) [] (keyed (number 3))
    ∷ ask command.Commit [] ok
    ∷ []

each_commit_stands_behind_the_others :
    (after (over []) committing).commits
    ≡ [] ∷ with_rows [] ∷ with_rows ((number 1, two 1 1) ∷ []) ∷ with_rows ((number 1, two 1 1) ∷ (number 2, two 3 3) ∷ (number 3, two 4 4) ∷ []) ∷ []
each_commit_stands_behind_the_others = refl

-- ---- codes go from one list to the end of the other
abbrev codes_of : List ℕ → List ℕ → Codes
codes_of methods attachments = record { methods = methods; attachments = attachments }

abbrev with_codes : Codes → Codes → State
with_codes live spare = record (over []) { live = live; spare = spare }

abbrev moved : State
moved = with_codes (codes_of (1 ∷ 2 ∷ []) (5 ∷ 6 ∷ 7 ∷ [])) (codes_of (1000 ∷ 1001 ∷ []) (1000 ∷ []))

a_spare_code_is_registered :
    map (λ c. (step none moved c []).state) (command.Register true 1000 ∷ command.Register false 1000 ∷ [])
    ≡ with_codes (codes_of (1 ∷ 2 ∷ 1000 ∷ []) (5 ∷ 6 ∷ 7 ∷ [])) (codes_of (1001 ∷ []) (1000 ∷ []))
    ∷ with_codes (codes_of (1 ∷ 2 ∷ []) (5 ∷ 6 ∷ 7 ∷ 1000 ∷ [])) (codes_of (1000 ∷ 1001 ∷ []) [])
    ∷ []
a_spare_code_is_registered = refl

a_live_code_is_retired :
    map (λ c. (step none moved c []).state) (command.Retire true 1 ∷ command.Retire false 6 ∷ [])
    ≡ with_codes (codes_of (2 ∷ []) (5 ∷ 6 ∷ 7 ∷ [])) (codes_of (1000 ∷ 1001 ∷ 1 ∷ []) (1000 ∷ []))
    ∷ with_codes (codes_of (1 ∷ 2 ∷ []) (5 ∷ 7 ∷ [])) (codes_of (1000 ∷ 1001 ∷ []) (1000 ∷ 6 ∷ []))
    ∷ []
a_live_code_is_retired = refl

-- a code of the other list isn't meant
codes_of_the_other_list : map (refused none moved) (command.Register true 1 ∷ command.Retire true 1000 ∷ command.Register false 1001 ∷ command.Retire true 5 ∷ []) ≡ Some (refusal.NoExtension 1) ∷ Some (refusal.NoExtension 1000) ∷ Some (refusal.NoExtension 1001) ∷ Some (refusal.NoExtension 5) ∷ []
codes_of_the_other_list = refl
