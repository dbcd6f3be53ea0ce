-- What a line can say.
use Rattle.std.specs.Prelude.{◌≡◌, ◌≤◌, false, List, length, All, IsUtf8, FitsSigned}
use Rattle.std.specs.Int.{w64}
use Rattle.sb_value.specs.declared.schema.Column.{Column}
use Rattle.sb_value.specs.declared.value.Value.{Value}
use Rattle.sb_value.specs.declared.value.Value.TheVariants.{Int, Text}
use Rattle.sb_pred.specs.declared.predicate.Term.{Term}
use Rattle.sb_pred.specs.declared.predicate.Term.TheVariants.{Const, New, Old}
use Rattle.sb_rule.specs.declared.action.Action.{Action}
use Rattle.sb_rule.specs.declared.action.Action.TheVariants as action
use Rattle.sb_rule.specs.declared.rule.Rule.{Rule}
use Rattle.sb_rule.specs.declared.rule.Rule.TheVariants.{Trigger}
use Rattle.sb_plain.specs.declared.command.Command.{Command}
use Rattle.sb_plain.specs.declared.command.Command.TheVariants as command
use Rattle.sb_plain.specs.Printing.{is_mirror}
use Rattle.sb_grammar.specs.Columns.{Item, Says, Bad}
use Rattle.sb_lawful.specs.Laws.{IsDotless}

-- ---- values
-- a number of 64 bits, or a text in UTF-8 of any length
abbrev pub IsWrittenValue : Value → Type 0
IsWrittenValue (Int n) = FitsSigned w64 n
IsWrittenValue (Text s) = IsUtf8 s

-- 1 to 16 such values
pub record IsWrittenRow (values : List Value) : Type 0 where
  pub some : 1 ≤ length values
  pub few : length values ≤ 16
  pub each : All IsWrittenValue values

-- a term that is itself a value is such a value
abbrev pub HasWrittenValue : Term → Type 0
HasWrittenValue (Const v) = IsWrittenValue v
HasWrittenValue (New name) = Unit {0}
HasWrittenValue (Old name) = Unit {0}

-- ---- actions
-- The values that an action puts into rows are such values, and a new row has 1 to 16 of them.
abbrev pub PutsWritten : Action → Type 0
PutsWritten (action.Insert relation terms) = (1 ≤ length terms) × (length terms ≤ 16) × All HasWrittenValue terms
PutsWritten (action.Delete relation pairs) = Unit {0}
PutsWritten (action.Set relation column term pairs) = HasWrittenValue term
PutsWritten (action.Add relation column term pairs) = Unit {0}

-- so it is with the action of a trigger
abbrev pub RulePutsWritten : Rule → Type 0
RulePutsWritten (Trigger on pred act deferred) = PutsWritten act
RulePutsWritten _ = Unit {0}

-- an action that is a command of its own is no insert, which has a command for itself
abbrev pub IsWrittenAction : Action → Type 0
IsWrittenAction (action.Insert relation terms) = ⊥
IsWrittenAction (action.Delete relation pairs) = Unit {0}
IsWrittenAction (action.Set relation column term pairs) = HasWrittenValue term
IsWrittenAction (action.Add relation column term pairs) = Unit {0}

-- ---- commands
-- a column whose texts have at most 255 bytes
abbrev pub IsLimited : Column → Type 0
IsLimited c = c.limit ≤ 255

-- A command as a line can write it: the name of what it makes or detaches has no dot, its new columns are limited, a rule that it attaches is no mirror,
-- and what it puts into rows, or lets a trigger put there, is written. Of all other commands nothing is asked.
abbrev pub IsWritten : Command → Type 0
IsWritten (command.Create relation method schema key) = IsDotless relation × All IsLimited schema
IsWritten (command.Attach relation name rule) = IsDotless name × (is_mirror rule ≡ false) × RulePutsWritten rule
IsWritten (command.Detach relation name) = IsDotless name
IsWritten (command.Insert relation values) = IsWrittenRow values
IsWritten (command.Update relation at values) = IsWrittenRow values
IsWritten (command.Act act) = IsWrittenAction act
IsWritten _ = Unit {0}

-- a line says such a command, or is bad
abbrev pub IsWrittenItem : Item → Type 0
IsWrittenItem (Says c) = IsWritten c
IsWrittenItem (Bad column) = Unit {0}
