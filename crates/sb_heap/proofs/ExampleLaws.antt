-- The relation of the tests may be kept, and its rows may be held.
use Rattle.std.proofs.Common.{◌≡◌, ℕ, ◌≤◌, nat_lt, true, false, not, ◌&&◌, ◌||◌, List, [], ◌∷◌, ◌++◌, length, Some, ℤ, refl, sym, ◌∙◌, subst, arith, length-append}
use Rattle.std.proofs.lemmas.Bool.{le-leb, le-ltb}
use Rattle.std.proofs.lemmas.List.Elements.{All-nil, All-cons}
use Rattle.sb_value.specs.declared.schema.Column.{Column}
use Rattle.sb_value.specs.declared.value.Value.TheVariants.{Int, Text}
use Rattle.sb_value.specs.Spelling.{IsStorable}
use Rattle.sb_codec.specs.Tuples.{tuple_spelling}
use Rattle.sb_relation.specs.Db.{Name, Row}
use Rattle.sb_relation.specs.Fits.{MayKeep}
use Rattle.sb_relation.specs.Lawful.{IsRow}
use Rattle.sb_ctx.specs.declared.instance.Instance.{Instance}
use Rattle.sb_ctx.specs.Method.{MayHold}
use Rattle.sb_heap.specs.Heap.{heap_method}
use Rattle.sb_heap.specs.Examples.{example_columns, IsExample, IsFittingRow, MayBeHeld}

-- ---- the instance
may_keep : (schema : List Column) (key : List Name) → schema ≡ example_columns → key ≡ [] → MayKeep (Some heap_method.rules) 1 schema key
may_keep schema key columns none =
    subst (λ (s : List Column). MayKeep (Some heap_method.rules) 1 s key) (sym columns)
    (subst (λ (k : List Name). MayKeep (Some heap_method.rules) 1 example_columns k) (sym none) (record { named = refl; fits = refl }))

pub IsExample-from : (inst : Instance) → inst.code ≡ 1 → inst.durable ≡ true → inst.desc ≡ [] → inst.owner ≡ 1 → inst.schema ≡ example_columns → inst.key ≡ [] → IsExample inst
IsExample-from inst code durable desc owner columns keyless = record {
  is = record { code = code; durable = durable; desc = desc; owned = λ none. not_one (sym owner ∙ none); may = may_keep inst.schema inst.key columns keyless };
  columns = columns;
}
  where
    not_one : ◌≡◌ {A = ℕ} 1 0 → ⊥
    not_one e = omega (arith, e)

-- ---- rows
abbrev values : ℤ → List ℕ → List ℕ → Row
values z s t = Int z ∷ Text s ∷ Text s ∷ Text s ∷ Text t ∷ []

short_spelling : (z : ℤ) (s t : List ℕ) → length s ≤ 255 → length t ≤ 217 → nat_lt 1000 (length (tuple_spelling (values z s t))) ≡ false
short_spelling z s t first last =
    let r0 : List ℕ = t ++ [] in
    let r1 : List ℕ = s ++ 2 ∷ length t ∷ r0 in
    let r2 : List ℕ = s ++ 2 ∷ length s ∷ r1 in
    le-ltb 1000 (length (tuple_spelling (values z s t)))
    (omega (arith, length-append t [], length-append s (2 ∷ length t ∷ r0), length-append s (2 ∷ length s ∷ r1), length-append s (2 ∷ length s ∷ r2), first, last))

example_row : (z : ℤ) (s t : List ℕ) → IsStorable (Int z) → IsStorable (Text s) → IsStorable (Text t) → length t ≤ 217 → IsRow example_columns (values z s t)
example_row z s t number first last short = record {
  tuple = record {
    some = omega arith;
    few = omega arith;
    storable = All-cons IsStorable (Int z) (Text s ∷ Text s ∷ Text s ∷ Text t ∷ []) number (All-cons IsStorable (Text s) (Text s ∷ Text s ∷ Text t ∷ []) first (All-cons IsStorable (Text s) (Text s ∷ Text t ∷ []) first
        (All-cons IsStorable (Text s) (Text t ∷ []) first (All-cons IsStorable (Text t) [] last (All-nil IsStorable)))));
  };
  fits = refl;
  short = (λ i. not (le-leb (length s) 255 first.1 i && (le-leb (length s) 255 first.1 i && (le-leb (length s) 255 first.1 i && (le-leb (length t) 255 last.1 i && true)))) || nat_lt 1000 (length (tuple_spelling (values z s t))))
      ∙ short_spelling z s t first.1 short;
}

pub MayBeHeld-fitting : (row : Row) → IsFittingRow row → MayBeHeld row
MayBeHeld-fitting row r inst is =
    subst (λ (l : Row). MayHold heap_method inst l) (sym r.is) (record {
      is_row = subst (λ (s : List Column). IsRow s (values r.number r.first r.last)) (sym is.columns) (example_row r.number r.first r.last r.fits (r.utf8.0, r.short.0) (r.utf8.1, omega (arith, r.short.1)) r.short.1);
      code = λ coded. absurd (cc);
    })
