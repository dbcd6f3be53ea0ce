-- What the readers of the parts of a rule look for.
use Rattle.std.specs.Prelude.{◌≡◌, ℕ, Bool, List, ◌∷◌, ◌++◌, length, All, ℤ, FitsSigned}
use Rattle.std.specs.Int.{w64}
use Rattle.sb_pred.specs.Reading.{IsSmall}
use Rattle.sb_pred.specs.Spelling.{name_spelling, pred_spelling, IsStorableName, IsStorableTerm}
use Rattle.sb_pred.specs.declared.predicate.Term.{Term}
use Rattle.sb_pred.specs.Tree.{Tree}
use Rattle.sb_rule.specs.declared.action.Action.{Action}
use Rattle.sb_rule.specs.declared.rule.Side.{Side}
use Rattle.sb_rule.specs.declared.rule.Mode.{Mode}
use Rattle.sb_rule.specs.declared.rule.Event.{Event}
use Rattle.sb_rule.specs.declared.rule.Rule.{Rule}
use Rattle.sb_rule.specs.Rows.{Name}
use Rattle.sb_rule.specs.Spelling.{number_spelling, names_spelling, terms_spelling, pairs_spelling, tie_spelling, action_spelling, flag_byte, side_byte, mode_byte, event_byte, rule_code, IsShortList, IsStorablePair, IsStorableTie, IsStorableAction, IsWidth, IsStorableRule, IsWithinLimits}

-- so many items that each have a property
abbrev pub AreSoMany : {X : Type 0} → ℕ → (X → Type 0) → List X → Type 0
AreSoMany count HasIt items = (length items ≡ count) × All HasIt items

-- the columns of two relations, with their names between
abbrev pub Tie : Type 0
Tie = List Name × Name × List Name

-- the parts of an insert and of a delete, without the first byte
abbrev pub insert_parts : Name × List Term → List ℕ
insert_parts (relation, terms) = name_spelling relation ++ terms_spelling terms

abbrev pub IsInsert : Name × List Term → Type 0
IsInsert (relation, terms) = IsStorableName relation × IsShortList IsStorableTerm terms

abbrev pub delete_parts : Name × List (Name × Term) → List ℕ
delete_parts (relation, pairs) = name_spelling relation ++ pairs_spelling pairs

abbrev pub IsDelete : Name × List (Name × Term) → Type 0
IsDelete (relation, pairs) = IsStorableName relation × IsShortList IsStorablePair pairs

-- the parts of each rule in the order of their bytes
abbrev pub tree_parts : Bool × List Name → List ℕ
tree_parts (unique, columns) = flag_byte unique ∷ names_spelling columns

abbrev pub IsTree : Bool × List Name → Type 0
IsTree (unique, columns) = IsShortList IsStorableName columns

abbrev pub join_parts : Side × Tie → List ℕ
join_parts (side, tie) = side_byte side ∷ tie_spelling tie

abbrev pub IsJoin : Side × Tie → Type 0
IsJoin (side, tie) = IsStorableTie tie

abbrev pub stats_parts : Name × ℤ × ℤ → List ℕ
stats_parts (column, low, width) = name_spelling column ++ (number_spelling low ++ number_spelling width)

abbrev pub IsStats : Name × ℤ × ℤ → Type 0
IsStats (column, low, width) = IsStorableName column × FitsSigned w64 low × IsWidth width

abbrev pub check_parts : Bool × Tree → List ℕ
check_parts (deferred, pred) = flag_byte deferred ∷ pred_spelling pred

abbrev pub IsCheck : Bool × Tree → Type 0
IsCheck (deferred, pred) = IsSmall 32 pred

abbrev pub refers_parts : Side × Mode × Bool × Tie → List ℕ
refers_parts (side, mode, deferred, tie) = side_byte side ∷ mode_byte mode ∷ flag_byte deferred ∷ tie_spelling tie

abbrev pub IsRefers : Side × Mode × Bool × Tie → Type 0
IsRefers (side, mode, deferred, tie) = IsStorableTie tie

-- when a trigger acts, and what it does then
abbrev pub Reaction : Type 0
Reaction = Tree × Action

abbrev pub reaction_parts : Reaction → List ℕ
reaction_parts (pred, action) = pred_spelling pred ++ action_spelling action

abbrev pub IsReaction : Reaction → Type 0
IsReaction (pred, action) = IsSmall 32 pred × IsStorableAction action

abbrev pub trigger_parts : Event × Bool × Reaction → List ℕ
trigger_parts (event, deferred, reaction) = event_byte event ∷ flag_byte deferred ∷ reaction_parts reaction

abbrev pub IsTrigger : Event × Bool × Reaction → Type 0
IsTrigger (event, deferred, reaction) = IsReaction reaction

-- a rule of this code that can be stored
abbrev pub IsRuleOf : ℕ → Rule → Type 0
IsRuleOf code rule = (code ≡ rule_code rule) × IsStorableRule rule × IsWithinLimits rule
