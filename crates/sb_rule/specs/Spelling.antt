-- The spelling of a rule and its parts in stored bytes, and which of them have one.
use Rattle.std.specs.Prelude.{◌≡◌, ℕ, ◌≤◌, Bool, true, false, List, ◌∷◌, ◌++◌, length, All, ℤ, pos, ◌≤ℤ◌, FitsSigned}
use Rattle.std.specs.List.{flat_map}
use Rattle.std.specs.Int.{to_be_bytes, cast_unsigned, w64}
use Rattle.sb_pred.specs.declared.predicate.Term.{Term}
use Rattle.sb_pred.specs.Tree.{node_count}
use Rattle.sb_pred.specs.Spelling.{name_spelling, term_spelling, pred_spelling, IsShortTerm, IsShortPred, IsStorableName, IsStorableTerm, IsStorablePred}
use Rattle.sb_rule.specs.declared.action.Action.{Action}
use Rattle.sb_rule.specs.declared.action.Action.TheVariants as action
use Rattle.sb_rule.specs.declared.rule.Side.{Side}
use Rattle.sb_rule.specs.declared.rule.Side.TheVariants.{Main, Mirror}
use Rattle.sb_rule.specs.declared.rule.Mode.{Mode}
use Rattle.sb_rule.specs.declared.rule.Mode.TheVariants.{Restrict, Cascade}
use Rattle.sb_rule.specs.declared.rule.Event.{Event}
use Rattle.sb_rule.specs.declared.rule.Event.TheVariants as event
use Rattle.sb_rule.specs.declared.rule.Rule.{Rule}
use Rattle.sb_rule.specs.declared.rule.Rule.TheVariants.{TreeIndex, HashIndex, JoinIndex, Stats, Check, Refers, Trigger, Foreign}
use Rattle.sb_rule.specs.Rows.{Name}

-- a list: the number of its items in one byte, and the items
abbrev pub list_spelling : {X : Type 0} → (X → List ℕ) → List X → List ℕ
list_spelling spelling items = length items ∷ flat_map spelling items

-- a number of 64 bits: 8 bytes of two's complement, the highest first
unfoldable pub number_spelling : ℤ → List ℕ
number_spelling n = to_be_bytes w64 (cast_unsigned w64 n)

-- a column's name and the term that it equals
abbrev pub pair_spelling : Name × Term → List ℕ
pair_spelling (name, term) = name_spelling name ++ term_spelling term

abbrev pub names_spelling : List Name → List ℕ
names_spelling = list_spelling name_spelling

abbrev pub terms_spelling : List Term → List ℕ
terms_spelling = list_spelling term_spelling

abbrev pub pairs_spelling : List (Name × Term) → List ℕ
pairs_spelling = list_spelling pair_spelling

-- a relation, the column that gets a term, and the pairs that its rows match
abbrev pub assignment_spelling : Name × Name × Term × List (Name × Term) → List ℕ
assignment_spelling (relation, column, term, pairs) = name_spelling relation ++ (name_spelling column ++ (term_spelling term ++ pairs_spelling pairs))

-- a byte that says which action it is, and its parts
abbrev pub action_spelling : Action → List ℕ
action_spelling (action.Insert relation terms) = 1 ∷ name_spelling relation ++ terms_spelling terms
action_spelling (action.Delete relation pairs) = 2 ∷ name_spelling relation ++ pairs_spelling pairs
action_spelling (action.Set relation column term pairs) = 3 ∷ assignment_spelling (relation, column, term, pairs)
action_spelling (action.Add relation column term pairs) = 4 ∷ assignment_spelling (relation, column, term, pairs)

-- the bytes of flags and events
abbrev pub flag_byte : Bool → ℕ
flag_byte false = 0
flag_byte true = 1

abbrev pub side_byte : Side → ℕ
side_byte Main = 0
side_byte Mirror = 1

abbrev pub mode_byte : Mode → ℕ
mode_byte Restrict = 0
mode_byte Cascade = 1

abbrev pub event_byte : Event → ℕ
event_byte event.Insert = 1
event_byte event.Delete = 2
event_byte event.Update = 3

-- the columns of two relations, with the name of the other one between them
abbrev pub tie_spelling : List Name × Name × List Name → List ℕ
tie_spelling (columns, other, others) = names_spelling columns ++ (name_spelling other ++ names_spelling others)

-- the code under which a rule is stored
abbrev pub rule_code : Rule → ℕ
rule_code (TreeIndex columns unique) = 1
rule_code (HashIndex columns) = 2
rule_code (JoinIndex side columns other others) = 3
rule_code (Stats column low width) = 4
rule_code (Check pred deferred) = 5
rule_code (Refers side columns other others mode deferred) = 6
rule_code (Trigger event pred action deferred) = 7
rule_code (Foreign code desc) = code

-- the bytes of a rule, without its code
abbrev pub rule_spelling : Rule → List ℕ
rule_spelling (TreeIndex columns unique) = flag_byte unique ∷ names_spelling columns
rule_spelling (HashIndex columns) = names_spelling columns
rule_spelling (JoinIndex side columns other others) = side_byte side ∷ tie_spelling (columns, other, others)
rule_spelling (Stats column low width) = name_spelling column ++ (number_spelling low ++ number_spelling width)
rule_spelling (Check pred deferred) = flag_byte deferred ∷ pred_spelling pred
rule_spelling (Refers side columns other others mode deferred) = side_byte side ∷ mode_byte mode ∷ flag_byte deferred ∷ tie_spelling (columns, other, others)
rule_spelling (Trigger event pred action deferred) = event_byte event ∷ flag_byte deferred ∷ pred_spelling pred ++ action_spelling action
rule_spelling (Foreign code desc) = desc

-- a list of at most 255 items that each have a property
abbrev pub IsShortList : {X : Type 0} → (X → Type 0) → List X → Type 0
IsShortList HasIt items = (length items ≤ 255) × All HasIt items

-- at most 255 bytes
abbrev pub IsShortName : Name → Type 0
IsShortName name = length name ≤ 255

abbrev pub IsShortPair : Name × Term → Type 0
IsShortPair (name, term) = IsShortName name × IsShortTerm term

abbrev pub IsShortAssignment : Name × Name × Term × List (Name × Term) → Type 0
IsShortAssignment (relation, column, term, pairs) = IsShortName relation × IsShortName column × IsShortTerm term × IsShortList IsShortPair pairs

-- names and texts of at most 255 bytes, lists of at most 255 items
abbrev pub IsShortAction : Action → Type 0
IsShortAction (action.Insert relation terms) = IsShortName relation × IsShortList IsShortTerm terms
IsShortAction (action.Delete relation pairs) = IsShortName relation × IsShortList IsShortPair pairs
IsShortAction (action.Set relation column term pairs) = IsShortAssignment (relation, column, term, pairs)
IsShortAction (action.Add relation column term pairs) = IsShortAssignment (relation, column, term, pairs)

abbrev pub IsShortTie : List Name × Name × List Name → Type 0
IsShortTie (columns, other, others) = IsShortList IsShortName columns × IsShortName other × IsShortList IsShortName others

-- names and texts of at most 255 bytes, lists of at most 255 items, widths of at least 1
abbrev pub IsShortRule : Rule → Type 0
IsShortRule (TreeIndex columns unique) = IsShortList IsShortName columns
IsShortRule (HashIndex columns) = IsShortList IsShortName columns
IsShortRule (JoinIndex side columns other others) = IsShortTie (columns, other, others)
IsShortRule (Stats column low width) = IsShortName column × (pos 1 ≤ℤ width)
IsShortRule (Check pred deferred) = IsShortPred pred
IsShortRule (Refers side columns other others mode deferred) = IsShortTie (columns, other, others)
IsShortRule (Trigger event pred action deferred) = IsShortPred pred × IsShortAction action
IsShortRule (Foreign code desc) = Unit {0}

abbrev pub IsStorablePair : Name × Term → Type 0
IsStorablePair (name, term) = IsStorableName name × IsStorableTerm term

abbrev pub IsStorableAssignment : Name × Name × Term × List (Name × Term) → Type 0
IsStorableAssignment (relation, column, term, pairs) = IsStorableName relation × IsStorableName column × IsStorableTerm term × IsShortList IsStorablePair pairs

-- each name and text is in UTF-8 and of at most 255 bytes, each list of at most 255 items
abbrev pub IsStorableAction : Action → Type 0
IsStorableAction (action.Insert relation terms) = IsStorableName relation × IsShortList IsStorableTerm terms
IsStorableAction (action.Delete relation pairs) = IsStorableName relation × IsShortList IsStorablePair pairs
IsStorableAction (action.Set relation column term pairs) = IsStorableAssignment (relation, column, term, pairs)
IsStorableAction (action.Add relation column term pairs) = IsStorableAssignment (relation, column, term, pairs)

abbrev pub IsStorableTie : List Name × Name × List Name → Type 0
IsStorableTie (columns, other, others) = IsShortList IsStorableName columns × IsStorableName other × IsShortList IsStorableName others

-- a number of 64 bits from 1 on
abbrev pub IsWidth : ℤ → Type 0
IsWidth width = FitsSigned w64 width × (pos 1 ≤ℤ width)

-- each name, text, list, number and width of a rule can be stored
abbrev pub IsStorableRule : Rule → Type 0
IsStorableRule (TreeIndex columns unique) = IsShortList IsStorableName columns
IsStorableRule (HashIndex columns) = IsShortList IsStorableName columns
IsStorableRule (JoinIndex side columns other others) = IsStorableTie (columns, other, others)
IsStorableRule (Stats column low width) = IsStorableName column × FitsSigned w64 low × IsWidth width
IsStorableRule (Check pred deferred) = IsStorablePred pred
IsStorableRule (Refers side columns other others mode deferred) = IsStorableTie (columns, other, others)
IsStorableRule (Trigger event pred action deferred) = IsStorablePred pred × IsStorableAction action
IsStorableRule (Foreign code desc) = Unit {0}

-- predicates of at most 32 nodes, codes of foreign rules from 1,000 on
abbrev pub IsWithinLimits : Rule → Type 0
IsWithinLimits (Check pred deferred) = node_count pred ≤ 32
IsWithinLimits (Trigger event pred action deferred) = node_count pred ≤ 32
IsWithinLimits (Foreign code desc) = 1000 ≤ code
IsWithinLimits _ = Unit {0}

-- these bytes are the spelling of a rule of this code that can be stored
pub record SpellsRule (code : ℕ) (bytes : List ℕ) (rule : Rule) : Type 0 where
  pub coded : code ≡ rule_code rule
  pub spelled : bytes ≡ rule_spelling rule
  pub storable : IsStorableRule rule
  pub limited : IsWithinLimits rule
