-- Each step of a sound state by a command that a line can write leaves a sound state.
use Rattle.std.specs.Prelude.{List}
use Rattle.sb_relation.specs.Db.{Key}
use Rattle.sb_fold.specs.Extensions.{Extensions}
use Rattle.sb_plain.specs.declared.command.Command.{Command}
use Rattle.sb_plain.specs.Lawful.{IsLawfulState}
use Rattle.sb_plain.specs.State.{Codes, State, downed}
use Rattle.sb_plain.specs.Step.{step}
use Rattle.sb_lawful.specs.Laws.{databases}
use Rattle.sb_said.specs.LawfulStepsLaws.{AreAlikeOn, beginning}
use Rattle.sb_said.specs.Laws.{IsLawfulWithin}
use Rattle.sb_said.specs.Written.{IsWritten}

-- A lawful state in all of whose databases columns are limited. All rules of its commits hold, and those of the open database and of the savepoints,
-- but for what is deferred.
pub record IsSoundWithin (ext : Extensions) (s : State) : Type 0 where
  pub within : IsLawfulWithin ext s
  pub sound : IsLawfulState ext s

-- each step of such a state by a command that is written leaves such a state
abbrev pub WrittenStepsLeaveSound : Type 0
WrittenStepsLeaveSound =
    (ext : Extensions) (s : State) (c : Command) (picks : List Key) → IsWritten c → IsSoundWithin ext s → IsSoundWithin ext (step ext s c picks).state

-- the empty database is the only commit: that is such a state, with any codes
abbrev pub NothingIsSound : Type 0
NothingIsSound = (ext : Extensions) (live spare : Codes) → IsSoundWithin ext (beginning live spare)

-- a state that is such with extensions is so with any others, of which those are the same that its databases name
abbrev pub AlikeAreSound : Type 0
AlikeAreSound = (ext other : Extensions) (s : State) → AreAlikeOn (databases s) ext other → IsSoundWithin ext s → IsSoundWithin other s

-- and when a fault or damage has ended the kernel
abbrev pub DownIsSound : Type 0
DownIsSound = (ext : Extensions) (s : State) → IsSoundWithin ext s → IsSoundWithin ext (downed s)
