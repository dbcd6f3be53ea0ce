-- The values of a row under names.
use Rattle.std.proofs.Common.{◌≡◌, ℕ, ◌+◌, ◌<◌, List, [], ◌∷◌, ◌++◌, length, take, get_or, Option, Some, ap, sym, ◌∙◌, add-one}
use Rattle.std.specs.List.{filter_map, cons_option}
use Rattle.std.proofs.lemmas.List.Elements.{filter_map-append}
use Rattle.std.proofs.Math.Seq.{take-suc}
use Rattle.sb_value.specs.declared.value.Value.{Value}
use Rattle.sb_value.specs.declared.schema.Column.{Column}
use Rattle.sb_pred.specs.Columns.{column_value}
use Rattle.sb_relation.specs.Db.{Name, Row, values_in}

-- one name more, with the value under it where there is one
pub values_in-more : (schema : List Column) (row : Row) (names : List Name) (i : ℕ) (name : Name) (o : Option Value) → i < length names → name ≡ get_or names i name
    → column_value schema (Some row) name ≡ o → values_in schema row (take (i + 1) names) ≡ values_in schema row (take i names) ++ cons_option o []
values_in-more schema row names i name o within at is =
    let h : Name → Option Value = column_value schema (Some row) in
    ap (λ n. filter_map h (take n names)) (add-one i)
    ∙ ap (filter_map h) (take-suc names i name within ∙ ap (λ n. take i names ++ n ∷ []) (sym at))
    ∙ filter_map-append h (take i names) (name ∷ [])
    ∙ ap (λ p. filter_map h (take i names) ++ cons_option p []) is
