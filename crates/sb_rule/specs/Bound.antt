-- An action with the values of a change in place of the columns that it names.
use Rattle.std.specs.Prelude.{List, map, All, Option, Some, None, IsSome, IfSome, is_some}
use Rattle.sb_value.specs.declared.value.Value.{Value}
use Rattle.sb_value.specs.declared.schema.Column.{Column}
use Rattle.sb_value.specs.Fits.{Fits}
use Rattle.sb_pred.specs.declared.predicate.Term.{Term}
use Rattle.sb_pred.specs.declared.predicate.Term.TheVariants.{Const, New, Old}
use Rattle.sb_pred.specs.Truth.{term_value}
use Rattle.sb_pred.specs.Typing.{term_kind}
use Rattle.sb_rule.specs.Rows.{Name, Row}
use Rattle.sb_rule.specs.declared.action.Action.{Action}
use Rattle.sb_rule.specs.declared.action.Action.TheVariants.{Insert, Delete, Set, Add}
use Rattle.sb_rule.specs.declared.change.Change.{Change}
use Rattle.sb_rule.specs.declared.change.Change.TheVariants as change

-- the row before a change, and the row after it
abbrev pub row_before : Change → Option Row
row_before (change.Insert key new) = None
row_before (change.Delete key old) = Some old
row_before (change.Update from old to new) = Some old

abbrev pub row_after : Change → Option Row
row_after (change.Insert key new) = Some new
row_after (change.Delete key old) = None
row_after (change.Update from old to new) = Some new

-- the value as a constant; without one, the term
abbrev pub constant_or : Term → Option Value → Term
constant_or t (Some v) = Const v
constant_or t None = t

-- the constant that a term stands for in a change; a term whose column isn't there stays
abbrev pub bound_term : List Column → Change → Term → Term
bound_term schema c t = constant_or t (term_value schema (row_before c) (row_after c) t)

abbrev pub bound_pair : List Column → Change → Name × Term → Name × Term
bound_pair schema c (name, t) = (name, bound_term schema c t)

-- an action whose terms are bound in a change
abbrev pub bound : List Column → Change → Action → Action
bound schema c (Insert relation terms) = Insert relation (map (bound_term schema c) terms)
bound schema c (Delete relation pairs) = Delete relation (map (bound_pair schema c) pairs)
bound schema c (Set relation column term pairs) = Set relation column (bound_term schema c term) (map (bound_pair schema c) pairs)
bound schema c (Add relation column term pairs) = Add relation column (bound_term schema c term) (map (bound_pair schema c) pairs)

-- each term of an action has a property
abbrev pub EachTerm : (Term → Type 0) → Action → Type 0
EachTerm HasIt (Insert relation terms) = All HasIt terms
EachTerm HasIt (Delete relation pairs) = All (λ pair. HasIt pair.1) pairs
EachTerm HasIt (Set relation column term pairs) = HasIt term × All (λ pair. HasIt pair.1) pairs
EachTerm HasIt (Add relation column term pairs) = HasIt term × All (λ pair. HasIt pair.1) pairs

-- the rows of a change fit the schema
pub record FitsSchema (schema : List Column) (c : Change) : Type 0 where
  pub before : IfSome (row_before c) (Fits schema)
  pub after : IfSome (row_after c) (Fits schema)

-- the column that a term names is there, and so is the row
abbrev pub IsThere : List Column → Change → Term → Type 0
IsThere schema c t = IsSome (term_kind schema (is_some (row_before c)) (is_some (row_after c)) t)

abbrev pub IsConstant : Term → Type 0
IsConstant (Const v) = Unit {0}
IsConstant (New name) = ⊥
IsConstant (Old name) = ⊥
