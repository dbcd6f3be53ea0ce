-- States whose databases are lawful.
use Rattle.std.specs.Prelude.{[], All, Option, Some, None}
use Rattle.sb_fold.specs.Extensions.{Extensions}
use Rattle.sb_plain.specs.declared.command.Command.{Command}
use Rattle.sb_plain.specs.declared.command.Command.TheVariants as command
use Rattle.sb_plain.specs.State.{Transaction, State}
use Rattle.sb_plain.specs.Step.{Turn}
use Rattle.sb_codec.specs.Tuples.{IsTuple}
use Rattle.sb_lawful_rows.specs.Storable.{PutsStorable, RulePutsStorable}
use Rattle.sb_lawful_rows.specs.Work.{IsLawfulWith, IsLawfulPoint}

-- a command on rows, whose values can be stored
abbrev pub IsRowCommand : Command → Type 0
IsRowCommand (command.Insert relation values) = IsTuple values
IsRowCommand (command.Delete relation at) = Unit {0}
IsRowCommand (command.Update relation at values) = IsTuple values
IsRowCommand (command.Act act) = PutsStorable act
IsRowCommand _ = ⊥

-- a command that makes or drops a relation, or attaches or detaches a rule; what a rule that comes puts into rows can be stored
abbrev pub IsBuildingCommand : Command → Type 0
IsBuildingCommand (command.Create relation method schema key) = Unit {0}
IsBuildingCommand (command.Drop relation) = Unit {0}
IsBuildingCommand (command.Attach relation name rule) = RulePutsStorable rule
IsBuildingCommand (command.Detach relation name) = Unit {0}
IsBuildingCommand _ = ⊥

-- the database of a transaction, and those of its savepoints, each with what waits there
pub record HasLawfulPoints (ext : Extensions) (t : Transaction) : Type 0 where
  pub stands : IsLawfulWith ext t.db t.queue.actions
  pub points : All (λ p. IsLawfulWith ext p.db p.queue.actions) t.points

abbrev pub MayBeOpen : Extensions → Option Transaction → Type 0
MayBeOpen ext None = Unit {0}
MayBeOpen ext (Some t) = HasLawfulPoints ext t

-- each commit, and an open transaction
pub record HasLawfulDatabases (ext : Extensions) (s : State) : Type 0 where
  pub commits : All (λ db. IsLawfulWith ext db []) s.commits
  pub open_one : MayBeOpen ext s.transaction

-- the state that a command leaves, and the points that it reached on the way
pub record IsLawfulTurn (ext : Extensions) (turn : Turn) : Type 0 where
  pub state : HasLawfulDatabases ext turn.state
  pub points : All (IsLawfulPoint ext) turn.points
