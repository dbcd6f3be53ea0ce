-- Values at the places of columns, where no value is left out.
use Rattle.std.proofs.Common.{◌≡◌, ◌≤◌, Bool, true, false, cond, List, [], ◌∷◌, length, Option, Some, None, IfSome, arith, refl, sym, ap, subst, ◌∙◌}
use Rattle.std.specs.List.{cons_option, filter_map}
use Rattle.std.specs.Str.{bytes_eq}
use Rattle.sb_value.specs.declared.value.Value.{Value}
use Rattle.sb_value.specs.declared.schema.Column.{Column}
use Rattle.sb_value.specs.Equal.{bytes_same, tuple_same}
use Rattle.sb_pred.specs.Columns.{column_value}
use Rattle.sb_relation.specs.Db.{Name, Row, values_in}
use Rattle.sb_relation.specs.Rules.{has_values}
use Rattle.sb_opened.specs.Paths.{IsFixed}
use Rattle.sb_asking.specs.Finds.{value_at}

length-filter_map : {A B : Type 0} (f : A → Option B) (xs : List A) → length (filter_map f xs) ≤ length xs
length-filter_map f [] = omega arith
length-filter_map {A} {B} f (x ∷ xs) = by (f x) (length-filter_map f xs)
  where
    by : (o : Option B) → length (filter_map f xs) ≤ length xs → length (cons_option o (filter_map f xs)) ≤ length (x ∷ xs)
    by None few = omega (arith, few)
    by (Some y) few = omega (arith, few)

-- where no value is left out, the first one is the first column's
first_value : (found : Option Value) (rest values : List Value) (v : Value) → length rest ≤ length values → cons_option found rest ≡ v ∷ values → (found ≡ Some v) × (rest ≡ values)
first_value None rest values v few same = absurd (omega (arith, few, ap length same))
first_value (Some w) rest values v few same = (cc, cc)

value_there : (schema : List Column) (row : Row) (columns : List Name) (values : List Value) (name : Name) (value : Value) → length columns ≡ length values → values_in schema row columns ≡ values →
    value_at columns values name ≡ Some value → column_value schema (Some row) name ≡ Some value
value_there schema row [] values name value many has at = absurd (cc)
value_there schema row (c ∷ columns) [] name value many has at = absurd (cc)
value_there schema row (c ∷ columns) (v ∷ values) name value many has at =
    let few = length-filter_map (λ (x : Name). column_value schema (Some row) x) columns in
    let first = first_value (column_value schema (Some row) c) (values_in schema row columns) values v (omega (arith, few, many)) has in
    by (bytes_eq c name) refl at first.0 (value_there schema row columns values name value (omega (arith, many)) first.1)
  where
    by : (b : Bool) → bytes_eq c name ≡ b → cond b (Some v) (value_at columns values name) ≡ Some value → column_value schema (Some row) c ≡ Some v →
        (value_at columns values name ≡ Some value → column_value schema (Some row) name ≡ Some value) → column_value schema (Some row) name ≡ Some value
    by true same at there rest = ap (λ (n : Name). column_value schema (Some row) n) (sym ((bytes_same c name).0 same)) ∙ there ∙ at
    by false same at there rest = rest at

pub value_at-fixed : (own : List Column) (columns : List Name) (values : List Value) (name : Name) (found : Option Value) → length columns ≡ length values → found ≡ value_at columns values name →
    IfSome found (λ value. (schema : List Column) → own ≡ schema → IsFixed (λ row. has_values own columns values row) schema name value)
value_at-fixed own columns values name None many is = tt
value_at-fixed own columns values name (Some value) many is = λ schema same row passes.
    subst (λ (s : List Column). column_value s (Some row) name ≡ Some value) same
    (value_there own row columns values name value many ((tuple_same (values_in own row columns) values).0 passes) (sym is))
