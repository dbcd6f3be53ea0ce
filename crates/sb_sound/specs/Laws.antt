-- Each step of a sound state leaves a sound state.
use Rattle.std.specs.Prelude.{All, List}
use Rattle.sb_relation.specs.Db.{Key}
use Rattle.sb_fold.specs.Extensions.{Extensions}
use Rattle.sb_plain.specs.declared.command.Command.{Command}
use Rattle.sb_plain.specs.Lawful.{IsLawfulState}
use Rattle.sb_plain.specs.State.{Codes, State, downed}
use Rattle.sb_plain.specs.Step.{step}
use Rattle.sb_lawful.specs.Laws.{databases}
use Rattle.sb_lawful_steps.specs.Laws.{IsSaid, IsLawfulAlong, Said, passed, beginning, AreAlikeOn}

-- Each database of the state is lawful, its triggers and what waits there put into rows what can be stored, and its names have no dot. All rules
-- of the commits hold, and those of the open database and of the savepoints, but for what is deferred.
pub record IsSoundAlong (ext : Extensions) (s : State) : Type 0 where
  pub along : IsLawfulAlong ext s
  pub sound : IsLawfulState ext s

-- each step of such a state leaves one
abbrev pub StepsLeaveSound : Type 0
StepsLeaveSound =
    (ext : Extensions) (s : State) (c : Command) (picks : List Key) → IsSaid c → IsSoundAlong ext s → IsSoundAlong ext (step ext s c picks).state

-- commands of the language lead from such a state through such states alone
abbrev pub PlaysStaySound : Type 0
PlaysStaySound =
    (ext : Extensions) (s : State) (play : List Said) → All (λ said. IsSaid said.0) play → IsSoundAlong ext s
    → All (IsSoundAlong ext) (passed ext s play)

-- so they do from the empty database, with any codes
abbrev pub PlaysFromNothingSound : Type 0
PlaysFromNothingSound =
    (ext : Extensions) (live spare : Codes) (play : List Said) → All (λ said. IsSaid said.0) play
    → All (IsSoundAlong ext) (passed ext (beginning live spare) play)

-- a state that is sound with extensions is so with any others, of which those are the same that its databases name
abbrev pub AlikeAreSound : Type 0
AlikeAreSound = (ext other : Extensions) (s : State) → AreAlikeOn (databases s) ext other → IsSoundAlong ext s → IsSoundAlong other s

-- and when a fault or damage has ended the kernel
abbrev pub DownIsSound : Type 0
DownIsSound = (ext : Extensions) (s : State) → IsSoundAlong ext s → IsSoundAlong ext (downed s)
