-- Kinds of columns, terms and values.
use Rattle.std.proofs.Common.{◌≡◌, ℕ, suc, Bool, true, false, cond, List, [], ◌∷◌, Option, Some, None, option_map, option_and_then, map, refl, sym, ap, ◌∙◌}
use Rattle.std.specs.Prelude.{pos, is_some}
use Rattle.std.specs.List.{flat_map, position, slice_get}
use Rattle.std.specs.Str.{bytes_eq}
use Rattle.std.proofs.lemmas.Bool.{and_parts}
use Rattle.sb_value.specs.declared.value.Value.{Value}
use Rattle.sb_value.specs.declared.value.Value.TheVariants.{Int, Text}
use Rattle.sb_value.specs.declared.schema.Kind.{Kind}
use Rattle.sb_value.specs.declared.schema.Kind.TheVariants as kind
use Rattle.sb_value.specs.declared.schema.Column.{Column}
use Rattle.sb_value.specs.Fits.{Fits, kind_of, is_of_kind, first_misfit}
use Rattle.sb_value.proofs.FitsLemmas.{misfit_parts, misfit_none}
use Rattle.sb_value.proofs.Searches.{position-cons}
use Rattle.sb_pred.specs.declared.predicate.Op.TheVariants.{Eq}
use Rattle.sb_pred.specs.declared.predicate.Term.{Term}
use Rattle.sb_pred.specs.declared.predicate.Term.TheVariants.{Const, New, Old}
use Rattle.sb_pred.specs.Columns.{column_kind, column_value}
use Rattle.sb_pred.specs.Truth.{term_value, HaveOneKind}
use Rattle.sb_pred.specs.Typing.{term_kind, is_one_kind}
use Rattle.sb_pred.proofs.Typed.{sides_have_values}
use Rattle.sb_rule.specs.declared.change.Change.{Change}
use Rattle.sb_rule.specs.Bound.{row_before, row_after, constant_or, bound_term, FitsSchema}
use Rattle.sb_relation.specs.Db.{Name, Row}
use Rattle.sb_relation.specs.Fits.{are_one_kind}
use Rattle.sb_fold.specs.Wishes.{with_value, const_of}

-- ---- one kind
pub one_kind : (a b : Option Kind) → is_one_kind a b ≡ true → (k : Kind) × (a ≡ Some k) × (b ≡ Some k)
one_kind (Some kind.Int) (Some kind.Int) h = (kind.Int, refl, refl)
one_kind (Some kind.Text) (Some kind.Text) h = (kind.Text, refl, refl)
one_kind (Some kind.Int) (Some kind.Text) h = absurd (cc)
one_kind (Some kind.Text) (Some kind.Int) h = absurd (cc)
one_kind (Some kind.Int) None h = absurd (cc)
one_kind (Some kind.Text) None h = absurd (cc)
one_kind None b h = absurd (cc)

pub of_itself : (k : Kind) → is_one_kind (Some k) (Some k) ≡ true
of_itself kind.Int = refl
of_itself kind.Text = refl

pub are_alike : (a b : Option Kind) (k : Kind) → a ≡ Some k → b ≡ Some k → is_one_kind a b ≡ true
are_alike a b k p q = (λ i. is_one_kind (p i) (q i)) ∙ of_itself k

pub same_kind : (a : Option Kind) (k : Kind) → is_one_kind a (Some k) ≡ true → a ≡ Some k
same_kind a k h = let one = one_kind a (Some k) h in one.1 ∙ sym one.2

-- ---- values of a kind
sample : Kind → Value
sample kind.Int = Int (pos 0)
sample kind.Text = Text []

kind_of-sample : (k : Kind) → kind_of (sample k) ≡ k
unfolding sample
kind_of-sample kind.Int = refl
kind_of-sample kind.Text = refl

-- there is a value, and it is of this kind
pub record IsValueOf (k : Kind) (o : Option Value) : Type 0 where
  pub value : Value
  pub there : o ≡ Some value
  pub kinded : kind_of value ≡ k

like_sample : (k : Kind) (o : Option Value) → HaveOneKind o (Some (sample k)) → IsValueOf k o
like_sample k (Some v) same = record { value = v; there = refl; kinded = same ∙ kind_of-sample k }
like_sample k None same = absurd same

-- over a change whose rows fit, a term of a kind has a value of it
pub value_of_term : (schema : List Column) (c : Change) (t : Term) (k : Kind) → FitsSchema schema c → term_kind schema (is_some (row_before c)) (is_some (row_after c)) t ≡ Some k
    → IsValueOf k (term_value schema (row_before c) (row_after c) t)
value_of_term schema c t k fits is =
    like_sample k (term_value schema (row_before c) (row_after c) t)
    (sides_have_values schema (row_before c) (row_after c) Eq t (Const (sample k)) fits.before fits.after
    (are_alike (term_kind schema (is_some (row_before c)) (is_some (row_after c)) t) (Some (kind_of (sample k))) k is (ap (λ (x : Kind). Some x) (kind_of-sample k))))

-- and so has a column of a row that fits
pub value_in : (schema : List Column) (row : Row) (name : Name) (k : Kind) → Fits schema row → column_kind schema name ≡ Some k → IsValueOf k (column_value schema (Some row) name)
value_in schema row name k fits is =
    like_sample k (column_value schema (Some row) name)
    (sides_have_values schema None (Some row) Eq (New name) (Const (sample k)) tt fits
    (are_alike (column_kind schema name) (Some (kind_of (sample k))) k is (ap (λ (x : Kind). Some x) (kind_of-sample k))))

-- ---- terms that are values
pub bound_kind : (schema : List Column) (c : Change) → FitsSchema schema c → (t : Term) (k : Kind) → term_kind schema (is_some (row_before c)) (is_some (row_after c)) t ≡ Some k
    → term_kind [] false false (bound_term schema c t) ≡ Some k
bound_kind schema c fits t k is =
    let found : IsValueOf k (term_value schema (row_before c) (row_after c) t) = value_of_term schema c t k fits is in
    ap (λ (o : Option Value). term_kind [] false false (constant_or t o)) found.there ∙ ap (λ (x : Kind). Some x) found.kinded

-- ---- rows
of_kind : (k : Kind) (v : Value) → Some k ≡ Some (kind_of v) → is_of_kind k v ≡ true
of_kind kind.Int (Int n) e = refl
of_kind kind.Text (Text s) e = refl
of_kind kind.Int (Text s) e = absurd (cc)
of_kind kind.Text (Int n) e = absurd (cc)

-- values of the columns' kinds are a row that fits
pub values_fit : (schema : List Column) (terms : List Term) → are_one_kind (map (λ c. Some c.kind) schema) (map (term_kind [] false false) terms) ≡ true → Fits schema (flat_map const_of terms)
values_fit [] [] e = refl
values_fit [] (t ∷ terms) e = absurd (cc)
values_fit (c ∷ cs) [] e = absurd (cc)
values_fit (c ∷ cs) (Const v ∷ terms) e =
    let parts = and_parts (is_one_kind (Some c.kind) (Some (kind_of v))) (are_one_kind (map (λ x. Some x.kind) cs) (map (term_kind [] false false) terms)) e in
    misfit_none (is_of_kind c.kind v) (first_misfit cs (flat_map const_of terms)) (of_kind c.kind v (same_kind (Some c.kind) (kind_of v) parts.0)) (values_fit cs terms parts.1)
values_fit (c ∷ cs) (New name ∷ terms) e =
    absurd (no_kind c.kind (and_parts (is_one_kind (Some c.kind) None) (are_one_kind (map (λ x. Some x.kind) cs) (map (term_kind [] false false) terms)) e).0)
  where
    no_kind : (k : Kind) → is_one_kind (Some k) None ≡ true → ⊥
    no_kind k h = let one = one_kind (Some k) None h in absurd (cc)
values_fit (c ∷ cs) (Old name ∷ terms) e =
    absurd (no_kind c.kind (and_parts (is_one_kind (Some c.kind) None) (are_one_kind (map (λ x. Some x.kind) cs) (map (term_kind [] false false) terms)) e).0)
  where
    no_kind : (k : Kind) → is_one_kind (Some k) None ≡ true → ⊥
    no_kind k h = let one = one_kind (Some k) None h in absurd (cc)

-- ---- a row with another value in a column
abbrev kind_at : List Column → Option ℕ → Option Kind
kind_at schema place = option_map (λ c. c.kind) (option_and_then (λ i. slice_get schema i) place)

kind_behind : (c : Column) (cs : List Column) (place : Option ℕ) → kind_at (c ∷ cs) (option_map suc place) ≡ kind_at cs place
kind_behind c cs None = refl
kind_behind c cs (Some i) = refl

pub with_value_fits : (schema : List Column) (column : Name) (v : Value) (row : Row) → column_kind schema column ≡ Some (kind_of v) → Fits schema row → Fits schema (with_value schema column v row)
with_value_fits [] column v row kinds fits = fits
with_value_fits (c ∷ cs) column v [] kinds fits = absurd (cc)
with_value_fits (c ∷ cs) column v (w ∷ row) kinds fits =
    of_test (bytes_eq c.name column) (ap (kind_at (c ∷ cs)) (sym (position-cons (λ x. bytes_eq x.name column) c cs)) ∙ kinds)
    (λ k. with_value_fits cs column v row k (misfit_parts (is_of_kind c.kind w) (first_misfit cs row) fits).1)
  where
    parts : (is_of_kind c.kind w ≡ true) × (first_misfit cs row ≡ None)
    parts = misfit_parts (is_of_kind c.kind w) (first_misfit cs row) fits

    of_test : (b : Bool) → kind_at (c ∷ cs) (cond b (Some 0) (option_map suc (position (λ x. bytes_eq x.name column) cs))) ≡ Some (kind_of v)
        → (column_kind cs column ≡ Some (kind_of v) → first_misfit cs (with_value cs column v row) ≡ None) → first_misfit (c ∷ cs) (cond b (v ∷ row) (w ∷ with_value cs column v row)) ≡ None
    of_test true its rest = misfit_none (is_of_kind c.kind v) (first_misfit cs row) (of_kind c.kind v its) parts.1
    of_test false its rest = misfit_none (is_of_kind c.kind w) (first_misfit cs (with_value cs column v row)) parts.0 (rest (sym (kind_behind c cs (position (λ x. bytes_eq x.name column) cs)) ∙ its))
