-- What holds of work and its picks, whatever they are.
use Rattle.std.specs.Prelude.{◌≡◌, ℕ, List, ◌++◌}
use Rattle.sb_rule.specs.declared.action.Action.{Action}
use Rattle.sb_rule.specs.declared.rule.Rule.{Rule}
use Rattle.sb_relation.specs.Db.{Name, Key}
use Rattle.sb_fold.specs.Building.{build}
use Rattle.sb_fold.specs.Extensions.{Extensions}
use Rattle.sb_fold.specs.Finish.{finish}
use Rattle.sb_fold.specs.Fold.{act, first_change, change_within}
use Rattle.sb_fold.specs.Outcome.{Going, Outcome, Gives, Stopped, NoStep, Work, with_picks}
use Rattle.sb_fold.specs.Wishes.{Wish}

-- a fact of what work made
abbrev pub OfMade : {A : Type 0} → (Going → Type 0) → Outcome A → Type 0
OfMade P (Gives x going) = P going
OfMade P (Stopped r trail) = Unit {0}
OfMade P (NoStep trail) = Unit {0}

-- picks at the end
abbrev pub more : List Key → Going → Going
more picks going = with_picks going (going.picks ++ picks)

-- what comes with more picks: the same, and they are left; where there was no step, anything
abbrev pub WithMore : {A : Type 0} → List Key → Outcome A → Outcome A → Type 0
WithMore picks (Gives x going) other = other ≡ Gives x (more picks going)
WithMore picks (Stopped r trail) other = other ≡ Stopped r trail
WithMore picks (NoStep trail) other = Unit {0}

-- the picks that were used, and behind them those that are left, are the picks that were given; more of them at the end change nothing
pub record IsOrderly {A : Type 0} (work : Work A) : Type 0 where
  pub uses : (going : Going) → OfMade (λ left. left.used ++ left.picks ≡ going.used ++ going.picks) (work going)
  pub passes : (picks : List Key) (going : Going) → WithMore picks (work going) (work (more picks going))

-- of a change with so many levels left, and all that follows from it
abbrev pub ChangesAreOrderly : Type 0
ChangesAreOrderly = (ext : Extensions) (levels : ℕ) (name : Name) (wish : Wish) → IsOrderly (change_within ext levels name wish)

abbrev pub ActionsAreOrderly : Type 0
ActionsAreOrderly = (ext : Extensions) (a : Action) → IsOrderly (act (first_change ext) a)

abbrev pub FinishIsOrderly : Type 0
FinishIsOrderly = (ext : Extensions) → IsOrderly (finish ext)

abbrev pub BuildIsOrderly : Type 0
BuildIsOrderly = (ext : Extensions) (relation name : Name) (rule : Rule) → IsOrderly (build ext relation name rule)
