-- Worked examples of the actions that wait for a commit.
use Rattle.std.specs.Prelude.{◌≡◌, refl, false, codes, List, [], ◌∷◌, ◌++◌, replicate, Option, Some, None}
use Rattle.sb_pred.specs.declared.predicate.Term.TheVariants.{Const}
use Rattle.sb_pred.specs.Tree.{Always, Fails}
use Rattle.sb_rule.specs.declared.action.Action.{Action}
use Rattle.sb_rule.specs.declared.action.Action.TheVariants.{Insert, Delete}
use Rattle.sb_rule.specs.declared.rule.Rule.TheVariants.{Check}
use Rattle.sb_relation.specs.Db.{Db}
use Rattle.sb_fold.specs.declared.refusal.Refusal.{Refusal}
use Rattle.sb_fold.specs.declared.refusal.Refusal.TheVariants.{DeferLimit, Veto}
use Rattle.sb_fold.specs.Finish.{drain, finish}
use Rattle.sb_fold.specs.Outcome.{Going, Outcome, Gives, Stopped, NoStep, Trail, begun}
use Rattle.sb_fold.proofs.Samples.{int, named, alone, none}

-- r is empty, and its check vetoes every row
abbrev guarded : Db
guarded = alone 2 (named (Check (Fails Always) false) 0 ∷ []) 0

-- nothing is left to delete; the insert is vetoed
abbrev harmless : Action
harmless = Delete (codes "r") []

abbrev vetoed : Action
vetoed = Insert (codes "r") (Const (int 1) ∷ Const (int 1) ∷ [])

abbrev waiting : List Action → Going
waiting actions = begun guarded (record { actions = actions; entries = [] }) (record { durable = []; others = [] }) 0 []

abbrev untouched : Trail
untouched = record { spent = 0; points = [] }

abbrev refusal_of : {A : Type 0} → Outcome A → Option Refusal
refusal_of (Gives x going) = None
refusal_of (Stopped r trail) = Some r
refusal_of (NoStep trail) = None

-- ---- a bound of two
two_are_done : drain none 2 (waiting (harmless ∷ harmless ∷ [])) ≡ Gives tt (waiting [])
two_are_done = refl

-- the third isn't begun: it reaches no point, and what it would be refused for doesn't come
a_third_is_too_many : drain none 2 (waiting (harmless ∷ harmless ∷ vetoed ∷ [])) ≡ Stopped DeferLimit untouched
a_third_is_too_many = refl

also_on_a_relation_that_isn't_there : drain none 2 (waiting (harmless ∷ harmless ∷ Delete (codes "q") [] ∷ Insert (codes "q") [] ∷ [])) ≡ Stopped DeferLimit untouched
also_on_a_relation_that_isn't_there = refl

-- an earlier refusal comes first
a_second_is_vetoed : refusal_of (drain none 2 (waiting (harmless ∷ vetoed ∷ harmless ∷ []))) ≡ Some (Veto (codes "r") (codes "i"))
a_second_is_vetoed = refl

-- ---- a commit's own bound
a_thousand_are_done : finish none (waiting (replicate 1000 harmless)) ≡ Gives tt (waiting [])
a_thousand_are_done = refl

one_more_is_too_many : finish none (waiting (replicate 1000 harmless ++ vetoed ∷ [])) ≡ Stopped DeferLimit untouched
one_more_is_too_many = refl
