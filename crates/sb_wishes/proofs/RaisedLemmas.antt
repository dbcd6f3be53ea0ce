-- A row with another value in a column.
use Rattle.std.proofs.Common.{◌≡◌, ℕ, zero, suc, Bool, true, false, true≢false, List, [], ◌∷◌, Option, Some, None, option_map, refl, sym, ap, ◌∙◌, set}
use Rattle.std.specs.Prelude.{cond, option_and_then, ◌^◌, ℤ, pos, negsuc, ◌+ℤ◌, FitsSigned}
use Rattle.std.specs.Int.{w64}
use Rattle.std.specs.List.{position, slice_get}
use Rattle.std.specs.Str.{bytes_eq}
use Rattle.std.proofs.lemmas.Bool.{lt-ltb, ltb-true}
use Rattle.std.proofs.lemmas.Option.{same_Some}
use Rattle.sb_value.specs.declared.value.Value.{Value}
use Rattle.sb_value.specs.declared.value.Value.TheVariants.{Int, Text}
use Rattle.sb_value.specs.declared.schema.Kind.{Kind}
use Rattle.sb_value.specs.declared.schema.Kind.TheVariants as kind
use Rattle.sb_value.specs.declared.schema.Column.{Column}
use Rattle.sb_value.specs.Fits.{Fits, kind_of, is_of_kind, first_misfit}
use Rattle.sb_value.proofs.FitsLemmas.{misfit_parts, misfit_none}
use Rattle.sb_value.proofs.Searches.{position-cons}
use Rattle.sb_pred.specs.Columns.{place_of, column_kind, column_value}
use Rattle.sb_relation.specs.Db.{Name, Row}
use Rattle.sb_fold.specs.declared.refusal.Refusal.TheVariants.{Range}
use Rattle.sb_fold.specs.Outcome.{made, refuse}
use Rattle.sb_fold.specs.Wishes.{is_i64, raised, with_value}
use Rattle.sb_wishes.specs.Wished.{number_of}

-- ---- the row with a value at a place
abbrev set_at : Option ℕ → Row → Value → Row
set_at None row v = row
set_at (Some i) row v = set row i v

set_behind : (o : Option ℕ) (w : Value) (row : Row) (v : Value) → set_at (option_map suc o) (w ∷ row) v ≡ w ∷ set_at o row v
set_behind None w row v = refl
set_behind (Some i) w row v = refl

set_none : (o : Option ℕ) (v : Value) → set_at o [] v ≡ []
set_none None v = refl
set_none (Some zero) v = refl
set_none (Some (suc i)) v = refl

with_value-set : (schema : List Column) (column : Name) (v : Value) (row : Row) → with_value schema column v row ≡ set_at (place_of schema column) row v
with_value-set [] column v row = refl
with_value-set (c ∷ cs) column v [] = sym (set_none (place_of (c ∷ cs) column) v)
with_value-set (c ∷ cs) column v (w ∷ row) =
    of_test (bytes_eq c.name column) (with_value-set cs column v row) ∙ ap (λ (o : Option ℕ). set_at o (w ∷ row) v) (sym (position-cons (λ x. bytes_eq x.name column) c cs))
  where
    of_test : (b : Bool) → with_value cs column v row ≡ set_at (place_of cs column) row v → cond b (v ∷ row) (w ∷ with_value cs column v row) ≡ set_at (cond b (Some 0) (option_map suc (place_of cs column))) (w ∷ row) v
    of_test true rest = refl
    of_test false rest = ap (λ (l : Row). w ∷ l) rest ∙ sym (set_behind (place_of cs column) w row v)

pub with_value-at : (schema : List Column) (column : Name) (v : Value) (row new : Row) (o : Option ℕ) → o ≡ place_of schema column → new ≡ set_at o row v → new ≡ with_value schema column v row
with_value-at schema column v row new o is set = set ∙ ap (λ (p : Option ℕ). set_at p row v) is ∙ sym (with_value-set schema column v row)

-- it fits as before where the value is of the column's kind
of_its_kind : (v : Value) → is_of_kind (kind_of v) v ≡ true
of_its_kind (Int n) = refl
of_its_kind (Text s) = refl

abbrev kind_in : List Column → Option ℕ → Option Kind
kind_in schema place = option_map (λ c. c.kind) (option_and_then (λ i. slice_get schema i) place)

kind_behind : (c : Column) (cs : List Column) (place : Option ℕ) → kind_in (c ∷ cs) (option_map suc place) ≡ kind_in cs place
kind_behind c cs None = refl
kind_behind c cs (Some i) = refl

pub fits_with : (schema : List Column) (column : Name) (v : Value) (row : Row) → column_kind schema column ≡ Some (kind_of v) → first_misfit schema row ≡ None → first_misfit schema (with_value schema column v row) ≡ None
fits_with [] column v row kinds fits = fits
fits_with (c ∷ cs) column v [] kinds fits = absurd (cc)
fits_with (c ∷ cs) column v (w ∷ row) kinds fits = of_test (bytes_eq c.name column) (ap (kind_in (c ∷ cs)) (sym (position-cons (λ x. bytes_eq x.name column) c cs)) ∙ kinds) (λ k. fits_with cs column v row k (misfit_parts (is_of_kind c.kind w) (first_misfit cs row) fits).1)
  where
    parts : (is_of_kind c.kind w ≡ true) × (first_misfit cs row ≡ None)
    parts = misfit_parts (is_of_kind c.kind w) (first_misfit cs row) fits

    of_test : (b : Bool) → kind_in (c ∷ cs) (cond b (Some 0) (option_map suc (position (λ x. bytes_eq x.name column) cs))) ≡ Some (kind_of v)
        → (column_kind cs column ≡ Some (kind_of v) → first_misfit cs (with_value cs column v row) ≡ None) → first_misfit (c ∷ cs) (cond b (v ∷ row) (w ∷ with_value cs column v row)) ≡ None
    of_test true its rest = misfit_none (is_of_kind c.kind v) (first_misfit cs row) (ap (λ (k : Kind). is_of_kind k v) (same_Some _ _ its) ∙ of_its_kind v) parts.1
    of_test false its rest = misfit_none (is_of_kind c.kind w) (first_misfit cs (with_value cs column v row)) parts.0 (rest (sym (kind_behind c cs (position (λ x. bytes_eq x.name column) cs)) ∙ its))

-- ---- the number in a column
a_number : (k : Kind) (v : Value) → k ≡ kind.Int → is_of_kind k v ≡ true → (n : ℤ) × (v ≡ Int n)
a_number k (Int n) is kinded = (n, refl)
a_number k (Text s) is kinded = absurd (true≢false (sym kinded ∙ ap (λ (x : Kind). is_of_kind x (Text s)) is))

number_at : (schema : List Column) (row : Row) (i : ℕ) → first_misfit schema row ≡ None → option_map (λ c. c.kind) (slice_get schema i) ≡ Some kind.Int → (n : ℤ) × (slice_get row i ≡ Some (Int n))
number_at [] row i fits is = absurd (cc)
number_at (c ∷ cs) [] i fits is = absurd (cc)
number_at (c ∷ cs) (w ∷ row) zero fits is =
    let found = a_number c.kind w (same_Some _ _ is) (misfit_parts (is_of_kind c.kind w) (first_misfit cs row) fits).0 in
    (found.0, ap (λ (x : Value). Some x) found.1)
number_at (c ∷ cs) (w ∷ row) (suc i) fits is = number_at cs row i (misfit_parts (is_of_kind c.kind w) (first_misfit cs row) fits).1 is

number_found : (schema : List Column) (row : Row) (place : Option ℕ) → first_misfit schema row ≡ None → kind_in schema place ≡ Some kind.Int → (n : ℤ) × (option_and_then (λ i. slice_get row i) place ≡ Some (Int n))
number_found schema row None fits is = absurd (cc)
number_found schema row (Some i) fits is = number_at schema row i fits is

pub number_there : (schema : List Column) (row : Row) (column : Name) → Fits schema row → column_kind schema column ≡ Some kind.Int → (n : ℤ) × (column_value schema (Some row) column ≡ Some (Int n))
number_there schema row column fits is = number_found schema row (place_of schema column) fits is

pub number_is : (o : Option Value) (n : ℤ) → Some n ≡ number_of o → o ≡ Some (Int n)
number_is (Some (Int k)) n is = ap (λ (z : ℤ). Some (Int z)) (sym (same_Some n k is))
number_is (Some (Text s)) n is = absurd (cc)
number_is None n is = absurd (cc)

pub number_lacks : (schema : List Column) (row : Row) (column : Name) → Fits schema row → column_kind schema column ≡ Some kind.Int → None ≡ number_of (column_value schema (Some row) column) → ⊥
number_lacks schema row column fits is none =
    let found = number_there schema row column fits is in
    let e : ◌≡◌ {A = Option ℤ} None (Some found.0) = none ∙ ap number_of found.1 in
    cc

-- ---- the sum
is_i64-fits : (n : ℤ) → FitsSigned w64 n → is_i64 n ≡ true
is_i64-fits (pos n) fits = lt-ltb n (2 ^ 63) fits.sfits
is_i64-fits (negsuc n) fits = lt-ltb n (2 ^ 63) fits.sfits

fits-is_i64 : (n : ℤ) → is_i64 n ≡ true → FitsSigned w64 n
fits-is_i64 (pos n) e = record { sfits = ltb-true n (2 ^ 63) e }
fits-is_i64 (negsuc n) e = record { sfits = ltb-true n (2 ^ 63) e }

pub raised-sum : (name : Name) (schema : List Column) (column : Name) (by : ℤ) (row : Row) (o : Option Value) (n : ℤ) → o ≡ Some (Int n) → FitsSigned w64 (n +ℤ by)
    → raised name schema column by row o ≡ made (with_value schema column (Int (n +ℤ by)) row)
raised-sum name schema column by row o n is fits =
    ap (λ (p : Option Value). raised name schema column by row p) is
    ∙ ap (λ (b : Bool). cond b (made (with_value schema column (Int (n +ℤ by)) row)) (refuse {A = Row} (Range name))) (is_i64-fits (n +ℤ by) fits)

pub raised-range : (name : Name) (schema : List Column) (column : Name) (by : ℤ) (row : Row) (o : Option Value) (n : ℤ) → o ≡ Some (Int n) → (FitsSigned w64 (n +ℤ by) → ⊥)
    → raised name schema column by row o ≡ refuse (Range name)
raised-range name schema column by row o n is out =
    ap (λ (p : Option Value). raised name schema column by row p) is
    ∙ ap (λ (b : Bool). cond b (made (with_value schema column (Int (n +ℤ by)) row)) (refuse {A = Row} (Range name))) (no (is_i64 (n +ℤ by)) refl)
  where
    no : (b : Bool) → is_i64 (n +ℤ by) ≡ b → is_i64 (n +ℤ by) ≡ false
    no true e = absurd (out (fits-is_i64 (n +ℤ by) e))
    no false e = e
