-- Constants of columns, of which each row that matches has the first one.
use Rattle.std.proofs.Common.{◌≡◌, Bool, true, false, List, [], ◌∷◌, Option, Some, None, IfSome, refl, sym, ap, subst, ◌∙◌}
use Rattle.std.specs.List.{cons_option}
use Rattle.std.specs.Str.{bytes_eq}
use Rattle.std.proofs.lemmas.Bool.{and_parts}
use Rattle.sb_value.specs.declared.value.Value.{Value}
use Rattle.sb_value.specs.declared.schema.Column.{Column}
use Rattle.sb_value.specs.Equal.{bytes_same, tuple_same}
use Rattle.sb_pred.specs.declared.predicate.Term.{Term}
use Rattle.sb_pred.specs.declared.predicate.Term.TheVariants.{Const, New, Old}
use Rattle.sb_pred.specs.Columns.{column_value}
use Rattle.sb_relation.specs.Db.{Name, Row, values_in}
use Rattle.sb_relation.specs.Rules.{has_values}
use Rattle.sb_fold.specs.Wishes.{const_of, is_match}
use Rattle.sb_standing.specs.Paths.{IsFixed}
use Rattle.sb_engine.specs.Matching.{const_at, const_or}

one_value : (found : Option Value) (v : Value) → cons_option found [] ≡ v ∷ [] → found ≡ Some v
one_value None v same = absurd (cc)
one_value (Some w) v same = cc

const_there : (schema : List Column) (row : Row) (pairs : List (Name × Term)) (name : Name) (value : Value) → is_match schema pairs row ≡ true → const_at pairs name ≡ Some value →
    column_value schema (Some row) name ≡ Some value
const_there schema row [] name value matches at = absurd (cc)
const_there schema row (pair ∷ pairs) name value matches at =
    let both = and_parts (has_values schema (pair.0 ∷ []) (const_of pair.1) row) (is_match schema pairs row) matches in
    by (bytes_eq pair.0 name) refl pair.1 both.0 at (const_there schema row pairs name value both.1)
  where
    by : (b : Bool) → bytes_eq pair.0 name ≡ b → (term : Term) → has_values schema (pair.0 ∷ []) (const_of term) row ≡ true → const_or b term (const_at pairs name) ≡ Some value →
        (const_at pairs name ≡ Some value → column_value schema (Some row) name ≡ Some value) → column_value schema (Some row) name ≡ Some value
    by true same (Const v) has at rest =
        let there = one_value (column_value schema (Some row) pair.0) v ((tuple_same (values_in schema row (pair.0 ∷ [])) (v ∷ [])).0 has) in
        ap (λ (n : Name). column_value schema (Some row) n) (sym ((bytes_same pair.0 name).0 same)) ∙ there ∙ at
    by true same (New other) has at rest = rest at
    by true same (Old other) has at rest = rest at
    by false same term has at rest = rest at

pub const_at-fixed : (own : List Column) (pairs : List (Name × Term)) (name : Name) (found : Option Value) → found ≡ const_at pairs name →
    IfSome found (λ value. (schema : List Column) → own ≡ schema → IsFixed (λ row. is_match own pairs row) schema name value)
const_at-fixed own pairs name None is = tt
const_at-fixed own pairs name (Some value) is = λ schema same row passes.
    subst (λ (s : List Column). column_value s (Some row) name ≡ Some value) same (const_there own row pairs name value passes (sym is))
