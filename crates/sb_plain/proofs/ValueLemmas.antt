-- A row with another value in a column.
use Rattle.std.proofs.Common.{◌≡◌, ◌≤◌, ℕ, zero, suc, Bool, true, false, List, [], ◌∷◌, length, Option, Some, None, option_map, refl, sym, ap, subst, ◌∙◌}
use Rattle.std.specs.Prelude.{All, cond, option_and_then, ◌^◌, ℤ, pos, negsuc}
use Rattle.std.specs.List.{position, slice_get}
use Rattle.std.specs.Str.{bytes_eq}
use Rattle.std.proofs.lemmas.Bool.{ltb-true}
use Rattle.std.proofs.lemmas.List.Elements.{All-cons, All-head, All-tail}
use Rattle.std.proofs.lemmas.Option.{same_Some}
use Rattle.sb_value.specs.declared.value.Value.{Value}
use Rattle.sb_value.specs.declared.value.Value.TheVariants.{Int, Text}
use Rattle.sb_value.specs.declared.schema.Kind.{Kind}
use Rattle.sb_value.specs.declared.schema.Kind.TheVariants as kind
use Rattle.sb_value.specs.declared.schema.Column.{Column}
use Rattle.sb_value.specs.Fits.{kind_of, is_of_kind, first_misfit}
use Rattle.sb_value.specs.Spelling.{IsStorable}
use Rattle.sb_value.proofs.FitsLemmas.{misfit_parts, misfit_none}
use Rattle.sb_value.proofs.Searches.{position-cons}
use Rattle.sb_codec.specs.Tuples.{IsTuple}
use Rattle.sb_pred.specs.Columns.{place_of, column_kind, column_value}
use Rattle.sb_pred.specs.Typing.{is_one_kind}
use Rattle.sb_relation.specs.Db.{Name, Row}
use Rattle.sb_fold.specs.Wishes.{is_i64, with_value}

-- ---- kinds
of_its_kind : (v : Value) → is_of_kind (kind_of v) v ≡ true
of_its_kind (Int n) = refl
of_its_kind (Text s) = refl

pub same_kind : (k : Option Kind) (l : Kind) → is_one_kind k (Some l) ≡ true → k ≡ Some l
same_kind None l e = absurd (cc)
same_kind (Some kind.Int) kind.Int e = refl
same_kind (Some kind.Text) kind.Text e = refl
same_kind (Some kind.Int) kind.Text e = absurd (cc)
same_kind (Some kind.Text) kind.Int e = absurd (cc)

-- the kind behind the first column
abbrev kind_in : List Column → Option ℕ → Option Kind
kind_in schema place = option_map (λ c. c.kind) (option_and_then (λ i. slice_get schema i) place)

kind_behind : (c : Column) (cs : List Column) (place : Option ℕ) → kind_in (c ∷ cs) (option_map suc place) ≡ kind_in cs place
kind_behind c cs None = refl
kind_behind c cs (Some i) = refl

pub fits_with : (schema : List Column) (column : Name) (v : Value) (row : Row) → column_kind schema column ≡ Some (kind_of v) → first_misfit schema row ≡ None → first_misfit schema (with_value schema column v row) ≡ None
fits_with [] column v row kinds fits = fits
fits_with (c ∷ cs) column v [] kinds fits = absurd (cc)
fits_with (c ∷ cs) column v (w ∷ row) kinds fits = of_test (bytes_eq c.name column) (ap (kind_in (c ∷ cs)) (sym (position-cons (λ x. bytes_eq x.name column) c cs)) ∙ kinds) (λ k. fits_with cs column v row k (misfit_parts (is_of_kind c.kind w) (first_misfit cs row) fits).1)
  where
    parts : (is_of_kind c.kind w ≡ true) × (first_misfit cs row ≡ None)
    parts = misfit_parts (is_of_kind c.kind w) (first_misfit cs row) fits

    of_test : (b : Bool) → kind_in (c ∷ cs) (cond b (Some 0) (option_map suc (position (λ x. bytes_eq x.name column) cs))) ≡ Some (kind_of v)
        → (column_kind cs column ≡ Some (kind_of v) → first_misfit cs (with_value cs column v row) ≡ None) → first_misfit (c ∷ cs) (cond b (v ∷ row) (w ∷ with_value cs column v row)) ≡ None
    of_test true its rest = misfit_none (is_of_kind c.kind v) (first_misfit cs row) (ap (λ (k : Kind). is_of_kind k v) (same_Some _ _ its) ∙ of_its_kind v) parts.1
    of_test false its rest = misfit_none (is_of_kind c.kind w) (first_misfit cs (with_value cs column v row)) parts.0 (rest (sym (kind_behind c cs (position (λ x. bytes_eq x.name column) cs)) ∙ its))

-- a value of a row that fits is of its column's kind
its_kind : (k : Kind) (v : Value) → is_of_kind k v ≡ true → k ≡ kind_of v
its_kind kind.Int (Int n) e = refl
its_kind kind.Text (Text s) e = refl
its_kind kind.Int (Text s) e = absurd (cc)
its_kind kind.Text (Int n) e = absurd (cc)

kind_at : (schema : List Column) (row : Row) (i : ℕ) (v : Value) → first_misfit schema row ≡ None → slice_get row i ≡ Some v → option_map (λ c. c.kind) (slice_get schema i) ≡ Some (kind_of v)
kind_at [] [] i v fits is = absurd (cc)
kind_at [] (w ∷ row) i v fits is = absurd (cc)
kind_at (c ∷ cs) [] i v fits is = absurd (cc)
kind_at (c ∷ cs) (w ∷ row) zero v fits is =
    ap (λ (k : Kind). Some k) (its_kind c.kind w (misfit_parts (is_of_kind c.kind w) (first_misfit cs row) fits).0 ∙ ap kind_of (same_Some w v is))
kind_at (c ∷ cs) (w ∷ row) (suc i) v fits is = kind_at cs row i v (misfit_parts (is_of_kind c.kind w) (first_misfit cs row) fits).1 is

kind_found : (schema : List Column) (row : Row) (place : Option ℕ) (v : Value) → first_misfit schema row ≡ None → option_and_then (λ i. slice_get row i) place ≡ Some v → kind_in schema place ≡ Some (kind_of v)
kind_found schema row None v fits is = absurd (cc)
kind_found schema row (Some i) v fits is = kind_at schema row i v fits is

pub value_kind : (schema : List Column) (row : Row) (column : Name) (v : Value) → first_misfit schema row ≡ None → column_value schema (Some row) column ≡ Some v → column_kind schema column ≡ Some (kind_of v)
value_kind schema row column v fits is = kind_found schema row (place_of schema column) v fits is

-- ---- what can be stored
pub storable_int : (n : ℤ) → is_i64 n ≡ true → IsStorable (Int n)
storable_int (pos n) e = record { sfits = ltb-true n (2 ^ 63) e }
storable_int (negsuc n) e = record { sfits = ltb-true n (2 ^ 63) e }

length-with_value : (schema : List Column) (column : Name) (v : Value) (row : Row) → length (with_value schema column v row) ≡ length row
length-with_value [] column v row = refl
length-with_value (c ∷ cs) column v [] = refl
length-with_value (c ∷ cs) column v (w ∷ row) = of_test (bytes_eq c.name column) (length-with_value cs column v row)
  where
    of_test : (b : Bool) → length (with_value cs column v row) ≡ length row → length (cond b (v ∷ row) (w ∷ with_value cs column v row)) ≡ suc (length row)
    of_test true rest = refl
    of_test false rest = ap suc rest

storable_with : (schema : List Column) (column : Name) (v : Value) (row : Row) → IsStorable v → All IsStorable row → All IsStorable (with_value schema column v row)
storable_with [] column v row one all = all
storable_with (c ∷ cs) column v [] one all = all
storable_with (c ∷ cs) column v (w ∷ row) one all = of_test (bytes_eq c.name column) (storable_with cs column v row one (All-tail IsStorable w row all))
  where
    of_test : (b : Bool) → All IsStorable (with_value cs column v row) → All IsStorable (cond b (v ∷ row) (w ∷ with_value cs column v row))
    of_test true rest = All-cons IsStorable v row one (All-tail IsStorable w row all)
    of_test false rest = All-cons IsStorable w (with_value cs column v row) (All-head IsStorable w row all) rest

pub tuple_with : (schema : List Column) (column : Name) (v : Value) (row : Row) → IsStorable v → IsTuple row → IsTuple (with_value schema column v row)
tuple_with schema column v row one tuple = record {
  some = subst (λ (n : ℕ). 1 ≤ n) (sym (length-with_value schema column v row)) tuple.some;
  few = subst (λ (n : ℕ). n ≤ 16) (sym (length-with_value schema column v row)) tuple.few;
  storable = storable_with schema column v row one tuple.storable;
}
