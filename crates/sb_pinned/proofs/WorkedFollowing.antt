-- In which order that comes which follows from a change, and that which waits for the commit.
use Rattle.std.specs.Prelude.{◌≡◌, refl, ℕ, Bool, true, false, codes, List, [], ◌∷◌, Some, None}
use Rattle.sb_pred.specs.declared.predicate.Term.TheVariants.{Const, New}
use Rattle.sb_pred.specs.Tree.{Always}
use Rattle.sb_rule.specs.declared.action.Action.{Action}
use Rattle.sb_rule.specs.declared.action.Action.TheVariants as action
use Rattle.sb_rule.specs.declared.change.Change.TheVariants.{Insert}
use Rattle.sb_rule.specs.declared.rule.Event.TheVariants as event
use Rattle.sb_rule.specs.declared.rule.Rule.{Rule}
use Rattle.sb_rule.specs.declared.rule.Rule.TheVariants.{Trigger}
use Rattle.sb_relation.specs.Db.{Name, Db}
use Rattle.sb_fold.specs.Fold.{following, waiting_actions}
use Rattle.sb_plain.specs.declared.command.Command.TheVariants as command
use Rattle.sb_plain.specs.declared.reply.Reply.TheVariants.{Done}
use Rattle.sb_pinned.proofs.Samples.{int, two, slot, number, a, b, l, r, t, named, heap, temp}
use Rattle.sb_pinned.proofs.Scripts.{Asked, ask, answers, replies_of, over, keyed, rows}

-- a row with a number of its own and the new row's a is inserted
abbrev writes : Name → ℕ → Bool → Rule
writes relation n deferred = Trigger event.Insert Always (action.Insert relation (Const (int n) ∷ New a ∷ [])) deferred

abbrev written : Name → ℕ → ℕ → Action
written relation n m = action.Insert relation (Const (int n) ∷ Const (int m) ∷ [])

-- ---- two triggers of t, y before x: call order isn't that of names
abbrev twice : Bool → Db
twice deferred = (r, heap [] []) ∷ (t, heap (named (codes "y") (writes r 1 deferred) ∷ named (codes "x") (writes r 2 deferred) ∷ []) []) ∷ []

what_follows_is_in_call_order : following (twice false) t (Insert (slot 0) (two 7 0)) ≡ written r 1 7 ∷ written r 2 7 ∷ []
what_follows_is_in_call_order = refl

what_waits_is_in_call_order : waiting_actions (twice true) t (Insert (slot 0) (two 7 0)) ≡ written r 1 7 ∷ written r 2 7 ∷ []
what_waits_is_in_call_order = refl

-- the first to act picks the first key
abbrev inserting : List Asked
inserting =
    ask (command.Insert t (two 7 0)) (slot 0 ∷ slot 5 ∷ slot 6 ∷ []) (Done (Some (slot 0)) (slot 5 ∷ slot 6 ∷ []))
    ∷ ask (command.Scan r None None) [] (rows ((slot 5, two 1 7) ∷ (slot 6, two 2 7) ∷ []))
    ∷ []

actions_pick_in_call_order : answers (over (twice false)) inserting ≡ replies_of inserting
actions_pick_in_call_order = refl

deferred_actions_pick_in_call_order : answers (over (twice true)) inserting ≡ replies_of inserting
deferred_actions_pick_in_call_order = refl

-- ---- what waits and what follows
-- a row of t inserts one of r at once, and each of them has one of l inserted at the commit
abbrev chain : Db
chain =
    (l, temp [] [])
    ∷ (r, temp (named (codes "late") (writes l 2 true) ∷ []) [])
    ∷ (t, temp (named (codes "now") (writes r 9 false) ∷ named (codes "late") (writes l 1 true) ∷ []) [])
    ∷ []

-- what waits of the row of t came before what followed from it
abbrev chained : List Asked
chained =
    ask (command.Insert t (two 5 0)) [] (keyed (number 1))
    ∷ ask (command.Scan r None None) [] (rows ((number 1, two 9 5) ∷ []))
    ∷ ask (command.Scan l None None) [] (rows ((number 1, two 1 5) ∷ (number 2, two 2 9) ∷ []))
    ∷ []

a_change_puts_off_before_its_followers_do : answers (over chain) chained ≡ replies_of chained
a_change_puts_off_before_its_followers_do = refl

-- ---- each action goes to its end before the next one begins
-- a row of t inserts two of r, each of which inserts one of l
abbrev nested : Db
nested =
    (l, temp [] [])
    ∷ (r, temp (named (codes "now") (Trigger event.Insert Always (action.Insert l (New a ∷ New b ∷ [])) false) ∷ []) [])
    ∷ (t, temp (named (codes "one") (writes r 1 false) ∷ named (codes "two") (writes r 2 false) ∷ named (codes "three") (writes l 3 false) ∷ []) [])
    ∷ []

abbrev each_to_its_end : List Asked
each_to_its_end =
    ask (command.Insert t (two 5 0)) [] (keyed (number 1))
    ∷ ask (command.Scan l None None) [] (rows ((number 1, two 1 5) ∷ (number 2, two 2 5) ∷ (number 3, two 3 5) ∷ []))
    ∷ []

an_action_goes_to_its_end_before_the_next : answers (over nested) each_to_its_end ≡ replies_of each_to_its_end
an_action_goes_to_its_end_before_the_next = refl
