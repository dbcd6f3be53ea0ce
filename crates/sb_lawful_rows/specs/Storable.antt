-- Which actions put into rows what can be stored.
use Rattle.std.specs.Prelude.{◌≤◌, length, All}
use Rattle.sb_value.specs.Spelling.{IsStorable}
use Rattle.sb_pred.specs.declared.predicate.Term.{Term}
use Rattle.sb_pred.specs.declared.predicate.Term.TheVariants.{Const, New, Old}
use Rattle.sb_rule.specs.declared.action.Action.{Action}
use Rattle.sb_rule.specs.declared.action.Action.TheVariants as action
use Rattle.sb_rule.specs.declared.rule.Rule.{Rule}
use Rattle.sb_rule.specs.declared.rule.Rule.TheVariants.{Trigger}
use Rattle.sb_relation.specs.Db.{Db}

-- a term that is itself a value is one that can be stored
abbrev pub HasStorableValue : Term → Type 0
HasStorableValue (Const v) = IsStorable v
HasStorableValue (New name) = Unit {0}
HasStorableValue (Old name) = Unit {0}

-- The values that an action puts into rows can be stored, and a new row has 1 to 16 of them. Rows that go, and sums, put in nothing else.
abbrev pub PutsStorable : Action → Type 0
PutsStorable (action.Insert relation terms) = (1 ≤ length terms) × (length terms ≤ 16) × All HasStorableValue terms
PutsStorable (action.Delete relation pairs) = Unit {0}
PutsStorable (action.Set relation column term pairs) = HasStorableValue term
PutsStorable (action.Add relation column term pairs) = Unit {0}

-- so it is with the action of a trigger
abbrev pub RulePutsStorable : Rule → Type 0
RulePutsStorable (Trigger on pred act deferred) = PutsStorable act
RulePutsStorable _ = Unit {0}

-- and with those of all triggers of a database
abbrev pub TriggersPutStorable : Db → Type 0
TriggersPutStorable db = All (λ e. All (λ a. RulePutsStorable a.rule) e.1.attachments) db
