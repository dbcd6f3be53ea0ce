-- What is done before a commit.
use Rattle.std.specs.Prelude.{ℕ, zero, suc, ◌+◌, Bool, false, not, ◌&&◌, List, [], ◌∷◌, Option, Some, None}
use Rattle.std.specs.List.{find}
use Rattle.sb_rule.specs.declared.action.Action.{Action}
use Rattle.sb_rule.specs.declared.rule.Side.TheVariants.{Main}
use Rattle.sb_rule.specs.declared.rule.Rule.{Rule}
use Rattle.sb_rule.specs.declared.rule.Rule.TheVariants.{Check, Refers}
use Rattle.sb_relation.specs.Db.{Name, Attached, Db}
use Rattle.sb_relation.specs.Rules.{holds}
use Rattle.sb_fold.specs.declared.refusal.Refusal.TheVariants.{Veto, DeferLimit}
use Rattle.sb_fold.specs.Costs.{free_cost}
use Rattle.sb_fold.specs.Extensions.{Extensions, box_of}
use Rattle.sb_fold.specs.Fold.{Changes, act, first_change}
use Rattle.sb_fold.specs.Outcome.{Going, Work, made, refuse, change_to, ◌>>=◌}

-- ---- the actions that wait
abbrev pub with_actions : List Action → Going → Going
with_actions actions going = record going { queue = record going.queue { actions = actions } }

-- the first of them to its end, at depth 1; those that it makes wait behind the others
abbrev pub drain_next : Changes → Work (Unit {0}) → List Action → Work (Unit {0})
drain_next changes rest [] = made tt
drain_next changes rest (a ∷ actions) = change_to (with_actions actions) >>= λ _. act changes a >>= λ _. rest

-- one more would be too many, whatever it does
abbrev pub unless_waiting : List Action → Work (Unit {0})
unless_waiting [] = made tt
unless_waiting (a ∷ actions) = refuse DeferLimit

-- in order, at most so many
abbrev pub drain : Extensions → ℕ → Work (Unit {0})
drain ext zero = λ going. unless_waiting going.queue.actions going
drain ext (suc most) = λ going. drain_next (first_change ext) (drain ext most) going.queue.actions going

-- ---- the rules that wait
-- a check or the main side of a refers that is deferred
abbrev pub is_tested_late : Rule → Bool
is_tested_late (Check pred deferred) = deferred
is_tested_late (Refers Main columns other others mode deferred) = deferred
is_tested_late _ = false

abbrev pub fails_late : Extensions → Db → Name → Attached → Bool
fails_late ext db name a = is_tested_late a.rule && not (holds (box_of ext a.rule) db name a.rule)

-- the first that doesn't hold, by the names of the relations and in call order
abbrev pub first_failing : Extensions → Db → Db → Option (Name × Name)
first_failing ext db [] = None
first_failing ext db ((name, r) ∷ others) = elim (find (fails_late ext db name) r.attachments) [
  | None ↦ first_failing ext db others
  | Some a ↦ Some (name, a.name)
]

abbrev pub unless_failing : Option (Name × Name) → Work (Unit {0})
unless_failing None = made tt
unless_failing (Some (relation, name)) = refuse (Veto relation name)

-- at most 1,000 actions; then each deferred rule is to hold of its whole relation
abbrev pub finish : Extensions → Work (Unit {0})
finish ext = drain ext 1000 >>= λ _. (λ going. unless_failing (first_failing ext going.db going.db) going)

-- ---- the pages that go
-- a commit gives back the pages of the instances that were dropped or detached
abbrev pub freed : Going → Going
freed going = record going { trail = record going.trail { spent = going.trail.spent + free_cost going.gone.durable } }
