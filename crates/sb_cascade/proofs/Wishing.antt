-- What actions that fit wish of rows.
use Rattle.std.proofs.Common.{◌≡◌, true, false, ◌&&◌, [], ◌∷◌, Some, None}
use Rattle.std.specs.Prelude.{IfSome}
use Rattle.std.proofs.lemmas.Bool.{and_parts}
use Rattle.sb_value.specs.declared.value.Value.TheVariants.{Int, Text}
use Rattle.sb_value.specs.declared.schema.Kind.TheVariants as kind
use Rattle.sb_value.specs.Fits.{Fits, kind_of}
use Rattle.sb_pred.specs.declared.predicate.Term.{Term}
use Rattle.sb_pred.specs.declared.predicate.Term.TheVariants.{Const, New, Old}
use Rattle.sb_pred.specs.Columns.{column_kind}
use Rattle.sb_pred.specs.Typing.{term_kind, is_one_kind}
use Rattle.sb_rule.specs.declared.action.Action.TheVariants as action
use Rattle.sb_relation.specs.Db.{Name, Key, Row, Db, schema_at}
use Rattle.sb_relation.specs.Fits.{first_missing, pairs_fit}
use Rattle.sb_fold.specs.Wishes.{const_of, set_wish, add_wish}
use Rattle.sb_cascade.specs.Fitting.{IsFittingWish}
use Rattle.sb_cascade.specs.FittingLaws.{InsertsFit, WishesFit}
use Rattle.sb_cascade.proofs.FittingColumns.{same_kind, values_fit, with_value_fits}

pub inserts-fit : InsertsFit
inserts-fit db relation terms fits = record { there = fits.there; fits = values_fit (schema_at db relation) terms fits.fits }

set_fits : (db : Db) (name column : Name) (t : Term) (key : Key) (row : Row) → first_missing db (name ∷ []) ≡ None
    → is_one_kind (column_kind (schema_at db name) column) (term_kind [] false false t) ≡ true → Fits (schema_at db name) row
    → IfSome (set_wish (schema_at db name) column (const_of t) key row) (IsFittingWish db name)
set_fits db name column (Const v) key row there alike fits =
    record { there = there; fits = with_value_fits (schema_at db name) column v row (same_kind (column_kind (schema_at db name) column) (kind_of v) alike) fits }
set_fits db name column (New c) key row there alike fits = tt
set_fits db name column (Old c) key row there alike fits = tt

add_fits : (db : Db) (name column : Name) (t : Term) (key : Key) → first_missing db (name ∷ []) ≡ None → is_one_kind (column_kind (schema_at db name) column) (Some kind.Int) ≡ true
    → IfSome (add_wish column (const_of t) key) (IsFittingWish db name)
add_fits db name column (Const (Int n)) key there alike = record { there = there; fits = same_kind (column_kind (schema_at db name) column) kind.Int alike }
add_fits db name column (Const (Text s)) key there alike = tt
add_fits db name column (New c) key there alike = tt
add_fits db name column (Old c) key there alike = tt

pub wishes-fit : WishesFit
wishes-fit db (action.Insert relation terms) key row fits is = tt
wishes-fit db (action.Delete relation pairs) key row fits is = record { there = fits.there; fits = tt }
wishes-fit db (action.Set relation column term pairs) key row fits is =
    set_fits db relation column term key row fits.there
    (and_parts (is_one_kind (column_kind (schema_at db relation) column) (term_kind [] false false term)) (pairs_fit (schema_at db relation) (term_kind [] false false) pairs) fits.fits).0 is
wishes-fit db (action.Add relation column term pairs) key row fits is =
    add_fits db relation column term key fits.there
    (and_parts (is_one_kind (column_kind (schema_at db relation) column) (Some kind.Int)) (is_one_kind (Some kind.Int) (term_kind [] false false term))
    (and_parts (is_one_kind (column_kind (schema_at db relation) column) (Some kind.Int) && is_one_kind (Some kind.Int) (term_kind [] false false term))
    (pairs_fit (schema_at db relation) (term_kind [] false false) pairs) fits.fits).0).0
