-- Which triggers a change is an event of.
use Rattle.std.specs.Prelude.{◌≡◌, refl, ℕ, Bool, true, false, codes, List, [], ◌∷◌, map, None}
use Rattle.sb_pred.specs.declared.predicate.Term.TheVariants.{Const}
use Rattle.sb_pred.specs.Tree.{Always}
use Rattle.sb_rule.specs.declared.action.Action.TheVariants as action
use Rattle.sb_rule.specs.declared.change.Change.{Change}
use Rattle.sb_rule.specs.declared.change.Change.TheVariants.{Insert, Delete, Update}
use Rattle.sb_rule.specs.declared.rule.Event.{Event}
use Rattle.sb_rule.specs.declared.rule.Event.TheVariants as event
use Rattle.sb_rule.specs.declared.rule.Rule.{Rule}
use Rattle.sb_rule.specs.declared.rule.Rule.TheVariants.{Trigger}
use Rattle.sb_relation.specs.Db.{Db}
use Rattle.sb_relation.specs.Rules.{is_event}
use Rattle.sb_plain.specs.declared.command.Command.TheVariants as command
use Rattle.sb_pinned.proofs.Samples.{int, two, number, r, t, named, temp}
use Rattle.sb_pinned.proofs.Scripts.{Asked, ask, answers, replies_of, over, ok, keyed, rows}

abbrev events : List Event
events = event.Insert ∷ event.Delete ∷ event.Update ∷ []

-- the row comes, gets another value under its key, and goes
abbrev those_of : Change → List Bool
those_of c = map (λ on. is_event on c) events

an_insert_is_no_other_event : those_of (Insert (number 1) (two 1 1)) ≡ true ∷ false ∷ false ∷ []
an_insert_is_no_other_event = refl

a_delete_is_no_other_event : those_of (Delete (number 1) (two 1 1)) ≡ false ∷ true ∷ false ∷ []
a_delete_is_no_other_event = refl

-- whether the key stays or not
an_update_is_no_other_event : map those_of (Update (number 1) (two 1 1) (number 1) (two 1 2) ∷ Update (number 1) (two 1 1) (number 2) (two 2 2) ∷ []) ≡ (false ∷ false ∷ true ∷ []) ∷ (false ∷ false ∷ true ∷ []) ∷ []
an_update_is_no_other_event = refl

-- ---- three triggers of t, each of which writes a number of its own into r
abbrev writes : Event → ℕ → Bool → Rule
writes on n deferred = Trigger on Always (action.Insert r (Const (int n) ∷ Const (int 0) ∷ [])) deferred

abbrev watched : Bool → Db
watched deferred =
    (r, temp [] [])
    ∷ (
      t,
      temp
          (named (codes "i") (writes event.Insert 1 deferred)
          ∷ named (codes "d") (writes event.Delete 2 deferred)
          ∷ named (codes "u") (writes event.Update 3 deferred)
          ∷ [])
          [],
    )
    ∷ []

abbrev changing : List Asked
changing =
    ask (command.Insert t (two 5 0)) [] (keyed (number 1))
    ∷ ask (command.Update t (number 1) (two 6 0)) [] (keyed (number 1))
    ∷ ask (command.Delete t (number 1)) [] ok
    ∷ ask (command.Scan r None None) [] (rows ((number 1, two 1 0) ∷ (number 2, two 3 0) ∷ (number 3, two 2 0) ∷ []))
    ∷ []

each_trigger_acts_at_its_event : answers (over (watched false)) changing ≡ replies_of changing
each_trigger_acts_at_its_event = refl

each_deferred_trigger_acts_at_its_event : answers (over (watched true)) changing ≡ replies_of changing
each_deferred_trigger_acts_at_its_event = refl
