-- Lines say commands that are written, and each step of these leaves a lawful state.
use Rattle.std.specs.Prelude.{ℕ, List, All}
use Rattle.sb_relation.specs.Db.{Name, Key, Db, schema_at}
use Rattle.sb_fold.specs.Extensions.{Extensions}
use Rattle.sb_plain.specs.declared.command.Command.{Command}
use Rattle.sb_plain.specs.State.{Codes, State, downed}
use Rattle.sb_plain.specs.Step.{step}
use Rattle.sb_grammar.specs.Columns.{Item, IsCommand}
use Rattle.sb_lines.specs.Lines.{AreItems, AreFirstItems}
use Rattle.sb_lawful.specs.Laws.{databases, IsWellNamed}
use Rattle.sb_lawful_steps.specs.Laws.{IsLawfulAlong, AreAlikeOn, beginning}
use Rattle.sb_said.specs.Written.{IsLimited, IsWritten, IsWrittenItem}

-- ---- lines
-- a command that a line spells is written
abbrev pub LinesAreWritten : Type 0
LinesAreWritten = (line : List ℕ) (c : Command) → IsCommand line c → IsWritten c

-- so is what each of some lines says
abbrev pub ItemsAreWritten : Type 0
ItemsAreWritten = (lines : List (List ℕ)) (items : List Item) → AreItems lines items → All IsWrittenItem items

abbrev pub FirstItemsAreWritten : Type 0
FirstItemsAreWritten = (lines : List (List ℕ)) (items : List Item) → AreFirstItems lines items → All IsWrittenItem items

-- ---- states
-- the columns of all relations are limited
abbrev pub HasLimits : Db → Type 0
HasLimits db = (relation : Name) → All IsLimited (schema_at db relation)

-- a lawful state, as the law of steps asks for it, in all of whose databases columns are limited
pub record IsLawfulWithin (ext : Extensions) (s : State) : Type 0 where
  pub along : IsLawfulAlong ext s
  pub limits : All HasLimits (databases s)

-- each step of such a state by a command that is written leaves such a state
abbrev pub WrittenStepsLeaveLawful : Type 0
WrittenStepsLeaveLawful =
    (ext : Extensions) (s : State) (c : Command) (picks : List Key) → IsWritten c → IsLawfulWithin ext s → IsLawfulWithin ext (step ext s c picks).state

-- all databases of such a state are lawful and well named
abbrev pub DatabasesAreLawful : Type 0
DatabasesAreLawful = (ext : Extensions) (s : State) → IsLawfulWithin ext s → All (IsWellNamed ext) (databases s)

-- the empty database is the only commit: that is such a state, with any codes
abbrev pub NothingIsLawful : Type 0
NothingIsLawful = (ext : Extensions) (live spare : Codes) → IsLawfulWithin ext (beginning live spare)

-- a state that is such with the ones is so with any others, of which those are the same that its databases name
abbrev pub AlikeAreLawful : Type 0
AlikeAreLawful = (ext other : Extensions) (s : State) → AreAlikeOn (databases s) ext other → IsLawfulWithin ext s → IsLawfulWithin other s

-- such a state is one when a fault or damage has ended the kernel
abbrev pub DownIsLawful : Type 0
DownIsLawful = (ext : Extensions) (s : State) → IsLawfulWithin ext s → IsLawfulWithin ext (downed s)
