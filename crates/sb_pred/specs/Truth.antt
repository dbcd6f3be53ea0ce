-- When a predicate holds.
use Rattle.std.specs.Prelude.{◌≡◌, Bool, true, false, not, ◌&&◌, ◌||◌, List, Option, Some, None}
use Rattle.std.specs.Ordering.{is_eq, is_ne, is_lt, is_gt, is_le, is_ge}
use Rattle.std.specs.declared.cmp.Ordering.{Ordering}
use Rattle.sb_value.specs.declared.value.Value.{Value}
use Rattle.sb_value.specs.declared.schema.Column.{Column}
use Rattle.sb_value.specs.Order.{value_cmp}
use Rattle.sb_value.specs.Fits.{kind_of}
use Rattle.sb_pred.specs.declared.predicate.Op.{Op}
use Rattle.sb_pred.specs.declared.predicate.Op.TheVariants.{Eq, Ne, Lt, Le, Gt, Ge}
use Rattle.sb_pred.specs.declared.predicate.Term.{Term}
use Rattle.sb_pred.specs.declared.predicate.Term.TheVariants.{Const, New, Old}
use Rattle.sb_pred.specs.Tree.{Tree, Always, Compare, Both, Either, Fails}
use Rattle.sb_pred.specs.Columns.{column_value}

-- the orders that a sign allows
abbrev pub op_holds : Op → Ordering → Bool
op_holds Eq = is_eq
op_holds Ne = is_ne
op_holds Lt = is_lt
op_holds Le = is_le
op_holds Gt = is_gt
op_holds Ge = is_ge

-- a term's value over an old and a new row; none where it names a column that isn't there
abbrev pub term_value : List Column → Option (List Value) → Option (List Value) → Term → Option Value
term_value schema old new (Const v) = Some v
term_value schema old new (New name) = column_value schema new name
term_value schema old new (Old name) = column_value schema old name

-- whether two values stand in the order that a sign says
abbrev pub compares : Op → Option Value → Option Value → Bool
compares op (Some a) (Some b) = op_holds op (value_cmp a b)
compares op (Some a) None = false
compares op None b = false

-- whether a predicate holds of an old and a new row
abbrev pub truth : List Column → Option (List Value) → Option (List Value) → Tree → Bool
truth schema old new Always = true
truth schema old new (Compare op a b) = compares op (term_value schema old new a) (term_value schema old new b)
truth schema old new (Both p q) = truth schema old new p && truth schema old new q
truth schema old new (Either p q) = truth schema old new p || truth schema old new q
truth schema old new (Fails p) = not (truth schema old new p)

-- both values are there, and of one kind
abbrev pub HaveOneKind : Option Value → Option Value → Type 0
HaveOneKind (Some a) (Some b) = kind_of a ≡ kind_of b
HaveOneKind (Some a) None = ⊥
HaveOneKind None b = ⊥
