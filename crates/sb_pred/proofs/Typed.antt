-- What the terms of a well-typed comparison give over rows that fit.
use Rattle.std.proofs.Common.{◌≡◌, ℕ, suc, zero, true, cond, List, [], ◌∷◌, Option, Some, None, option_map, option_and_then, IfSome, IsTrue, is_some, refl, sym, ◌∙◌}
use Rattle.std.specs.List.{slice_get}
use Rattle.sb_value.specs.declared.value.Value.{Value}
use Rattle.sb_value.specs.declared.value.Value.TheVariants.{Int, Text}
use Rattle.sb_value.specs.declared.schema.Kind.{Kind}
use Rattle.sb_value.specs.declared.schema.Kind.TheVariants as kind
use Rattle.sb_value.specs.declared.schema.Column.{Column}
use Rattle.sb_value.specs.Fits.{kind_of, is_of_kind, first_misfit, Fits}
use Rattle.sb_pred.specs.declared.predicate.Op.{Op}
use Rattle.sb_pred.specs.declared.predicate.Term.{Term}
use Rattle.sb_pred.specs.declared.predicate.Term.TheVariants.{Const, New, Old}
use Rattle.sb_pred.specs.Columns.{place_of, column_kind, column_value}
use Rattle.sb_pred.specs.Tree.{Compare}
use Rattle.sb_value.proofs.FitsLemmas.{misfit_parts}
use Rattle.sb_pred.specs.Truth.{term_value, HaveOneKind}
use Rattle.sb_pred.specs.Typing.{term_kind, is_one_kind, is_well_typed}

-- there is a value, and it is of this kind
abbrev pub HasKind : Option Value → Kind → Type 0
HasKind None k = ⊥
HasKind (Some v) k = kind_of v ≡ k

kind_from_test : (k : Kind) (v : Value) → is_of_kind k v ≡ true → kind_of v ≡ k
kind_from_test kind.Int (Int n) e = refl
kind_from_test kind.Int (Text s) e = absurd (cc)
kind_from_test kind.Text (Int n) e = absurd (cc)
kind_from_test kind.Text (Text s) e = refl

-- a row that fits has a value of the column's kind at each column's place
value_at : (schema : List Column) (row : List Value) (i : ℕ) (k : Kind) → Fits schema row
    → option_map (λ c. c.kind) (slice_get schema i) ≡ Some k → HasKind (slice_get row i) k
value_at [] row i k f e = absurd (cc)
value_at (c ∷ cs) [] i k f e = absurd (cc)
value_at (c ∷ cs) (v ∷ vs) zero k f e =
    let here : (is_of_kind c.kind v ≡ true) × (first_misfit cs vs ≡ None) = misfit_parts (is_of_kind c.kind v) (first_misfit cs vs) f in
    let same : c.kind ≡ k = cc in
    kind_from_test c.kind v here.0 ∙ same
value_at (c ∷ cs) (v ∷ vs) (suc i) k f e =
    let here : (is_of_kind c.kind v ≡ true) × (first_misfit cs vs ≡ None) = misfit_parts (is_of_kind c.kind v) (first_misfit cs vs) f in
    value_at cs vs i k here.1 e

value_at_place : (schema : List Column) (row : List Value) (place : Option ℕ) (k : Kind) → Fits schema row
    → option_map (λ c. c.kind) (option_and_then (λ i. slice_get schema i) place) ≡ Some k
    → HasKind (option_and_then (λ i. slice_get row i) place) k
value_at_place schema row None k f e = absurd (cc)
value_at_place schema row (Some i) k f e = value_at schema row i k f e

value_in_column : (schema : List Column) (row : Option (List Value)) (name : List ℕ) (k : Kind) → IfSome row (Fits schema)
    → cond (is_some row) (column_kind schema name) None ≡ Some k → HasKind (column_value schema row name) k
value_in_column schema None name k f e = absurd (cc)
value_in_column schema (Some row) name k f e = value_at_place schema row (place_of schema name) k f e

value_of_term : (schema : List Column) (old new : Option (List Value)) (t : Term) (k : Kind) → IfSome old (Fits schema)
    → IfSome new (Fits schema)
    → term_kind schema (is_some old) (is_some new) t ≡ Some k → HasKind (term_value schema old new t) k
value_of_term schema old new (Const v) k f g e = cc
value_of_term schema old new (New name) k f g e = value_in_column schema new name k g e
value_of_term schema old new (Old name) k f g e = value_in_column schema old name k f e

one_kind : (a b : Option Kind) → IsTrue (is_one_kind a b) → (k : Kind) × (a ≡ Some k) × (b ≡ Some k)
one_kind (Some kind.Int) (Some kind.Int) h = (kind.Int, refl, refl)
one_kind (Some kind.Text) (Some kind.Text) h = (kind.Text, refl, refl)
one_kind (Some kind.Int) (Some kind.Text) h = absurd (cc)
one_kind (Some kind.Text) (Some kind.Int) h = absurd (cc)
one_kind (Some kind.Int) None h = absurd (cc)
one_kind (Some kind.Text) None h = absurd (cc)
one_kind None b h = absurd (cc)

both_of_kind : (a b : Option Value) (k : Kind) → HasKind a k → HasKind b k → HaveOneKind a b
both_of_kind (Some a) (Some b) k p q = p ∙ sym q
both_of_kind (Some a) None k p q = absurd q
both_of_kind None b k p q = absurd p

-- over rows that fit, both sides of a well-typed comparison have values of one kind
pub sides_have_values : (schema : List Column) (old new : Option (List Value)) (op : Op) (a b : Term) → IfSome old (Fits schema)
    → IfSome new (Fits schema)
    → IsTrue (is_well_typed schema (is_some old) (is_some new) (Compare op a b)) → HaveOneKind (term_value schema old new a) (term_value schema old new b)
sides_have_values schema old new op a b f g h =
    let same = one_kind (term_kind schema (is_some old) (is_some new) a) (term_kind schema (is_some old) (is_some new) b) h in
    both_of_kind (term_value schema old new a) (term_value schema old new b) same.0
    (value_of_term schema old new a same.0 f g same.1)
    (value_of_term schema old new b same.0 f g same.2)
