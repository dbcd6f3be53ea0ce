-- What rows, and what follows from them, leave sound.
use Rattle.std.specs.Prelude.{ℕ}
use Rattle.sb_rule.specs.declared.action.Action.{Action}
use Rattle.sb_relation.specs.Db.{Name, schema_at}
use Rattle.sb_fold.specs.Extensions.{Extensions}
use Rattle.sb_fold.specs.Finish.{finish}
use Rattle.sb_fold.specs.Fold.{act, change_within}
use Rattle.sb_fold.specs.Laws.{OfMade}
use Rattle.sb_fold.specs.Outcome.{Going}
use Rattle.sb_fold.specs.Wishes.{Wish}
use Rattle.sb_lawful_rows.specs.Work.{IsWishOf, MayAct}
use Rattle.sb_sound_rows.specs.Work.{IsSoundWork, IsReady}

-- a change of a row of any relation and all that follows from it, with so many levels left
abbrev pub ChangesEndSound : Type 0
ChangesEndSound =
    (ext : Extensions) (levels : ℕ) (name : Name) (wish : Wish) (g : Going) → IsSoundWork ext g → IsWishOf (schema_at g.db name) wish
    → OfMade (IsSoundWork ext) (change_within ext levels name wish g)

-- an action to its end
abbrev pub ActionsEndSound : Type 0
ActionsEndSound =
    (ext : Extensions) (levels : ℕ) (a : Action) (g : Going) → IsSoundWork ext g → MayAct g.db a
    → OfMade (IsSoundWork ext) (act (change_within ext levels) a g)

-- what waits, before a commit
abbrev pub FinishEndsSound : Type 0
FinishEndsSound = (ext : Extensions) (g : Going) → IsSoundWork ext g → OfMade (IsReady ext) (finish ext g)
