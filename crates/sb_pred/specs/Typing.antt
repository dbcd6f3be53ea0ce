-- Which predicates are well typed over a schema.
use Rattle.std.specs.Prelude.{Bool, true, false, cond, ◌&&◌, List, Option, Some, None}
use Rattle.sb_value.specs.declared.schema.Kind.{Kind}
use Rattle.sb_value.specs.declared.schema.Kind.TheVariants as kind
use Rattle.sb_value.specs.declared.schema.Column.{Column}
use Rattle.sb_value.specs.Fits.{kind_of}
use Rattle.sb_pred.specs.declared.predicate.Term.{Term}
use Rattle.sb_pred.specs.declared.predicate.Term.TheVariants.{Const, New, Old}
use Rattle.sb_pred.specs.Tree.{Tree, Always, Compare, Both, Either, Fails}
use Rattle.sb_pred.specs.Columns.{column_kind}

-- the kind of a term, where old and new rows are allowed or not; none where its column isn't there or isn't allowed
abbrev pub term_kind : List Column → Bool → Bool → Term → Option Kind
term_kind schema old new (Const v) = Some (kind_of v)
term_kind schema old new (New name) = cond new (column_kind schema name) None
term_kind schema old new (Old name) = cond old (column_kind schema name) None

-- whether both terms have a kind, and the same one
abbrev pub is_one_kind : Option Kind → Option Kind → Bool
is_one_kind (Some kind.Int) (Some kind.Int) = true
is_one_kind (Some kind.Text) (Some kind.Text) = true
is_one_kind _ _ = false

-- whether each comparison of a predicate is of two terms of one kind
abbrev pub is_well_typed : List Column → Bool → Bool → Tree → Bool
is_well_typed schema old new Always = true
is_well_typed schema old new (Compare op a b) = is_one_kind (term_kind schema old new a) (term_kind schema old new b)
is_well_typed schema old new (Both p q) = is_well_typed schema old new p && is_well_typed schema old new q
is_well_typed schema old new (Either p q) = is_well_typed schema old new p && is_well_typed schema old new q
is_well_typed schema old new (Fails p) = is_well_typed schema old new p
