-- The relation of the tests may be kept, and its rows may be held.
use Rattle.std.proofs.Common.{◌≡◌, ℕ, ◌≤◌, nat_lt, true, false, not, ◌&&◌, ◌||◌, List, [], ◌∷◌, length, Option, Some, option_and_then, ℤ, codes, refl, ap, sym, ◌∙◌, subst, arith, length-append}
use Rattle.std.specs.List.{slice_get, cons_option}
use Rattle.std.specs.Str.{bytes_eq}
use Rattle.std.proofs.lemmas.Bool.{le-leb, le-ltb}
use Rattle.std.proofs.lemmas.Iterator.Adapters.{position_from-zero}
use Rattle.std.proofs.lemmas.List.Elements.{All-nil, All-cons}
use Rattle.sb_value.specs.declared.schema.Column.{Column}
use Rattle.sb_value.specs.declared.value.Value.TheVariants.{Int, Text}
use Rattle.sb_value.specs.Code.{ordered_code}
use Rattle.sb_value.specs.Spelling.{IsStorable}
use Rattle.sb_codec.specs.Tuples.{tuple_spelling}
use Rattle.sb_pred.specs.Columns.{place_of}
use Rattle.sb_relation.specs.Db.{Name, Row}
use Rattle.sb_relation.specs.Fits.{MayKeep}
use Rattle.sb_relation.specs.Lawful.{IsRow, is_long_code}
use Rattle.sb_ctx.specs.declared.instance.Instance.{Instance}
use Rattle.sb_ctx.specs.Method.{MayHold}
use Rattle.sb_treemethod.specs.TreeMethod.{tree_method}
use Rattle.sb_treemethod.specs.Examples.{example_columns, IsExample, IsShortRow, MayBeHeld}

-- ---- the instance
may_keep : (schema : List Column) (key : List Name) → schema ≡ example_columns → key ≡ codes "k" ∷ [] → MayKeep (Some tree_method.rules) 2 schema key
may_keep schema key columns named =
    subst (λ (s : List Column). MayKeep (Some tree_method.rules) 2 s key) (sym columns)
    (subst (λ (k : List Name). MayKeep (Some tree_method.rules) 2 example_columns k) (sym named) (record { named = refl; fits = refl }))

pub IsExample-from : (inst : Instance) → inst.code ≡ 2 → inst.durable ≡ true → inst.desc ≡ [] → inst.owner ≡ 1 → inst.schema ≡ example_columns → inst.key ≡ codes "k" ∷ [] → IsExample inst
IsExample-from inst code durable desc owner columns named = record {
  is = record { code = code; durable = durable; desc = desc; owned = λ none. not_one (sym owner ∙ none); may = may_keep inst.schema inst.key columns named };
  columns = columns;
  key = named;
}
  where
    not_one : ◌≡◌ {A = ℕ} 1 0 → ⊥
    not_one e = omega (arith, e)

-- ---- rows
short_spelling : (z : ℤ) (s : List ℕ) → length s ≤ 20 → nat_lt 1000 (length (tuple_spelling (Int z ∷ Text s ∷ []))) ≡ false
short_spelling z s is = le-ltb 1000 (length (tuple_spelling (Int z ∷ Text s ∷ []))) (omega (arith, length-append s [], is))

example_row : (z : ℤ) (s : List ℕ) → IsStorable (Int z) → IsStorable (Text s) → length s ≤ 20 → IsRow example_columns (Int z ∷ Text s ∷ [])
example_row z s number text short = record {
  tuple = record { some = omega arith; few = omega arith; storable = All-cons IsStorable (Int z) (Text s ∷ []) number (All-cons IsStorable (Text s) [] text (All-nil IsStorable)) };
  fits = refl;
  short = (λ i. not (le-leb (length s) 20 short i && true) || nat_lt 1000 (length (tuple_spelling (Int z ∷ Text s ∷ [])))) ∙ short_spelling z s short;
}

first_place : place_of example_columns (codes "k") ≡ Some 0
first_place = position_from-zero (λ c. bytes_eq c.name (codes "k")) example_columns

short_code : (z : ℤ) (s : List ℕ) → is_long_code example_columns (codes "k" ∷ []) (Int z ∷ Text s ∷ []) ≡ false
short_code z s = ap (λ (o : Option ℕ). nat_lt 200 (length (ordered_code (cons_option (option_and_then (λ i. slice_get (Int z ∷ Text s ∷ []) i) o) [])))) first_place

pub MayBeHeld-short : (row : Row) → IsShortRow row → MayBeHeld row
MayBeHeld-short row r inst is =
    subst (λ (l : Row). MayHold tree_method inst l) (sym r.is) (record {
      is_row = subst (λ (s : List Column). IsRow s (Int r.number ∷ Text r.text ∷ [])) (sym is.columns) (example_row r.number r.text r.fits (r.utf8, omega (arith, r.short)) r.short);
      code = λ coded. (λ i. is_long_code (is.columns i) (is.key i) (Int r.number ∷ Text r.text ∷ [])) ∙ short_code r.number r.text;
    })
