-- A row with another value in a column.
use Rattle.std.proofs.Common.{◌≡◌, ℕ, zero, suc, Bool, true, false, List, [], ◌∷◌, Option, Some, None, option_map, refl, sym, ap, ◌∙◌, set}
use Rattle.std.specs.Prelude.{cond}
use Rattle.std.specs.Str.{bytes_eq}
use Rattle.sb_value.specs.declared.value.Value.{Value}
use Rattle.sb_value.specs.declared.schema.Column.{Column}
use Rattle.sb_value.proofs.Searches.{position-cons}
use Rattle.sb_pred.specs.Columns.{place_of}
use Rattle.sb_relation.specs.Db.{Name, Row}
use Rattle.sb_fold.specs.Wishes.{with_value}

-- ---- the row with a value at a place
abbrev set_at : Option ℕ → Row → Value → Row
set_at None row v = row
set_at (Some i) row v = set row i v

set_behind : (o : Option ℕ) (w : Value) (row : Row) (v : Value) → set_at (option_map suc o) (w ∷ row) v ≡ w ∷ set_at o row v
set_behind None w row v = refl
set_behind (Some i) w row v = refl

set_none : (o : Option ℕ) (v : Value) → set_at o [] v ≡ []
set_none None v = refl
set_none (Some zero) v = refl
set_none (Some (suc i)) v = refl

with_value-set : (schema : List Column) (column : Name) (v : Value) (row : Row) → with_value schema column v row ≡ set_at (place_of schema column) row v
with_value-set [] column v row = refl
with_value-set (c ∷ cs) column v [] = sym (set_none (place_of (c ∷ cs) column) v)
with_value-set (c ∷ cs) column v (w ∷ row) =
    of_test (bytes_eq c.name column) (with_value-set cs column v row) ∙ ap (λ (o : Option ℕ). set_at o (w ∷ row) v) (sym (position-cons (λ x. bytes_eq x.name column) c cs))
  where
    of_test : (b : Bool) → with_value cs column v row ≡ set_at (place_of cs column) row v → cond b (v ∷ row) (w ∷ with_value cs column v row) ≡ set_at (cond b (Some 0) (option_map suc (place_of cs column))) (w ∷ row) v
    of_test true rest = refl
    of_test false rest = ap (λ (l : Row). w ∷ l) rest ∙ sym (set_behind (place_of cs column) w row v)

pub with_value-at : (schema : List Column) (column : Name) (v : Value) (row new : Row) (o : Option ℕ) → o ≡ place_of schema column → new ≡ set_at o row v → new ≡ with_value schema column v row
with_value-at schema column v row new o is set = set ∙ ap (λ (p : Option ℕ). set_at p row v) is ∙ sym (with_value-set schema column v row)
