-- A row matches the action that deletes the rows with its values.
use Rattle.std.proofs.Common.{◌≡◌, true, List, [], ◌∷◌, map, Option, Some, refl, ap, ◌∙◌}
use Rattle.std.specs.Prelude.{zip}
use Rattle.std.specs.List.{cons_option}
use Rattle.std.proofs.lemmas.Bool.{and_parts, and_from}
use Rattle.sb_value.specs.declared.value.Value.{Value}
use Rattle.sb_value.specs.declared.schema.Column.{Column}
use Rattle.sb_value.specs.Equal.{tuple_eq, tuple_eq_equiv}
use Rattle.sb_value.specs.Fits.{Fits}
use Rattle.sb_pred.specs.declared.predicate.Term.{Term}
use Rattle.sb_pred.specs.declared.predicate.Term.TheVariants.{Const}
use Rattle.sb_pred.specs.Columns.{column_kind, column_value}
use Rattle.sb_pred.specs.Typing.{is_one_kind}
use Rattle.sb_relation.specs.Db.{Name, Row, values_in}
use Rattle.sb_relation.specs.Fits.{kinds_at, are_one_kind}
use Rattle.sb_relation.specs.Rules.{has_values}
use Rattle.sb_fold.specs.Wishes.{is_match}
use Rattle.sb_cascade.proofs.FittingColumns.{one_kind, IsValueOf, value_in}

abbrev pub pairs_with : List Name → List Value → List (Name × Term)
pairs_with names values = map (λ pair. (pair.0, Const pair.1)) (zip names values)

pub matches : (schema own : List Column) (row : Row) (columns others : List Name) → Fits schema row → are_one_kind (kinds_at schema columns) (kinds_at own others) ≡ true
    → is_match schema (pairs_with columns (values_in schema row columns)) row ≡ true
matches schema own row [] [] fits e = refl
matches schema own row [] (other ∷ others) fits e = absurd (cc)
matches schema own row (column ∷ columns) [] fits e = absurd (cc)
matches schema own row (column ∷ columns) (other ∷ others) fits e =
    let parts = and_parts (is_one_kind (column_kind schema column) (column_kind own other)) (are_one_kind (kinds_at schema columns) (kinds_at own others)) e in
    let one = one_kind (column_kind schema column) (column_kind own other) parts.0 in
    let found : IsValueOf one.0 (column_value schema (Some row) column) = value_in schema row column one.0 fits one.1 in
    let v : Value = found.value in
    let first : has_values schema (column ∷ []) (v ∷ []) row ≡ true = ap (λ (o : Option Value). tuple_eq (cons_option o []) (v ∷ [])) found.there ∙ tuple_eq_equiv.refl (v ∷ []) in
    ap (λ (o : Option Value). is_match schema (pairs_with (column ∷ columns) (cons_option o (values_in schema row columns))) row) found.there
    ∙ and_from (has_values schema (column ∷ []) (v ∷ []) row) (is_match schema (pairs_with columns (values_in schema row columns)) row) first (matches schema own row columns others fits parts.1)
