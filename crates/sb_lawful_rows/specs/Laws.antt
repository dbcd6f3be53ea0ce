-- What rows, and what follows from them, leave lawful.
use Rattle.std.specs.Prelude.{◌≡◌, ℕ, List, Some, None}
use Rattle.sb_rule.specs.declared.action.Action.{Action}
use Rattle.sb_relation.specs.Db.{Name, Key, schema_at}
use Rattle.sb_fold.specs.declared.refusal.Refusal.{Refusal}
use Rattle.sb_fold.specs.Extensions.{Extensions}
use Rattle.sb_fold.specs.Finish.{finish}
use Rattle.sb_fold.specs.Fold.{act, change_within}
use Rattle.sb_fold.specs.Outcome.{Going}
use Rattle.sb_fold.specs.Wishes.{Wish}
use Rattle.sb_plain.specs.declared.command.Command.{Command}
use Rattle.sb_plain.specs.declared.command.Command.TheVariants as command
use Rattle.sb_plain.specs.declared.reply.Reply.TheVariants.{Refused}
use Rattle.sb_plain.specs.Lawful.{IsLawful}
use Rattle.sb_plain.specs.State.{State, view}
use Rattle.sb_plain.specs.Step.{step, work_of}
use Rattle.sb_lawful_rows.specs.States.{IsRowCommand, IsBuildingCommand, HasLawfulDatabases, IsLawfulTurn}
use Rattle.sb_lawful_rows.specs.Work.{IsWishOf, MayAct, IsLawfulWork, EndsLawful}

-- ---- work
-- a change of a row of any relation and all that follows from it, with so many levels left
abbrev pub ChangesEndLawful : Type 0
ChangesEndLawful =
    (ext : Extensions) (levels : ℕ) (name : Name) (wish : Wish) (g : Going) → IsLawfulWork ext g → IsWishOf (schema_at g.db name) wish
    → EndsLawful ext (change_within ext levels name wish g)

-- an action to its end
abbrev pub ActionsEndLawful : Type 0
ActionsEndLawful =
    (ext : Extensions) (levels : ℕ) (a : Action) (g : Going) → IsLawfulWork ext g → MayAct g.db a → EndsLawful ext (act (change_within ext levels) a g)

-- what waits, before a commit
abbrev pub FinishEndsLawful : Type 0
FinishEndsLawful = (ext : Extensions) (g : Going) → IsLawfulWork ext g → EndsLawful ext (finish ext g)

-- ---- steps
-- a command on rows, in a transaction or as one of its own
abbrev pub RowsStepLawful : Type 0
RowsStepLawful =
    (ext : Extensions) (s : State) (c : Command) (picks : List Key) → IsRowCommand c → HasLawfulDatabases ext s → IsLawfulTurn ext (step ext s c picks)

-- a commit, whatever waits for it
abbrev pub CommitsStepLawful : Type 0
CommitsStepLawful = (ext : Extensions) (s : State) (picks : List Key) → HasLawfulDatabases ext s → IsLawfulTurn ext (step ext s command.Commit picks)

-- a command that works on no database, as one that reads, and those of transactions and savepoints
abbrev pub OthersStepLawful : Type 0
OthersStepLawful =
    (ext : Extensions) (s : State) (c : Command) (picks : List Key) → (c ≡ command.Commit → ⊥) → work_of ext c ≡ None
    → HasLawfulDatabases ext s → IsLawfulTurn ext (step ext s c picks)

-- any command that is refused
abbrev pub RefusedLeaveLawful : Type 0
RefusedLeaveLawful =
    (ext : Extensions) (s : State) (c : Command) (picks : List Key) (r : Refusal) → (step ext s c picks).reply ≡ Some (Refused r)
    → HasLawfulDatabases ext s → HasLawfulDatabases ext (step ext s c picks).state

-- a command that builds leaves what triggers put into rows and what may wait; so all is lawful where the database is that is seen then
abbrev pub BuildingLeavesLawful : Type 0
BuildingLeavesLawful =
    (ext : Extensions) (s : State) (c : Command) (picks : List Key) → IsBuildingCommand c → IsLawful ext (view (step ext s c picks).state)
    → HasLawfulDatabases ext s → HasLawfulDatabases ext (step ext s c picks).state
