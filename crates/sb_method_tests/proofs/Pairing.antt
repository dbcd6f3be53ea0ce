-- Relations of the tests may be kept in a heap, and their rows may be held.
use Rattle.std.proofs.Common.{◌≡◌, ℕ, ◌≤◌, nat_lt, true, false, not, ◌&&◌, ◌||◌, List, [], ◌∷◌, length, Some, ℤ, refl, sym, ◌∙◌, subst, arith, length-append}
use Rattle.std.proofs.lemmas.Bool.{le-leb, le-ltb}
use Rattle.std.proofs.lemmas.List.Elements.{All-nil, All-cons}
use Rattle.sb_value.specs.declared.schema.Column.{Column}
use Rattle.sb_value.specs.declared.value.Value.TheVariants.{Int, Text}
use Rattle.sb_value.specs.Spelling.{IsStorable}
use Rattle.sb_codec.specs.Tuples.{tuple_spelling}
use Rattle.sb_relation.specs.Db.{Name, Row}
use Rattle.sb_relation.specs.Fits.{MayKeep}
use Rattle.sb_relation.specs.Lawful.{IsRow}
use Rattle.sb_ctx.specs.declared.instance.Instance.{Instance}
use Rattle.sb_ctx.specs.Method.{IsInstance, MayHold}
use Rattle.sb_heap.specs.Heap.{heap_method}
use Rattle.sb_method_tests.specs.Pairs.{IsPair, MayBePair, pair_columns}

-- ---- instances
-- a heap keeps relations without a key
keyless : (schema : List Column) (key : List Name) → key ≡ [] → MayKeep (Some heap_method.rules) 1 schema key
keyless schema key none = subst (λ (k : List Name). MayKeep (Some heap_method.rules) 1 schema k) (sym none) (record { named = refl; fits = refl })

pub instance_from : (inst : Instance) → inst.code ≡ 1 → inst.durable ≡ true → inst.desc ≡ [] → inst.owner ≡ 5 → inst.key ≡ [] → IsInstance heap_method inst
instance_from inst code durable desc owner none = record { code = code; durable = durable; desc = desc; owned = λ zero_is. not_five (sym owner ∙ zero_is); may = keyless inst.schema inst.key none }
  where
    not_five : ◌≡◌ {A = ℕ} 5 0 → ⊥
    not_five e = omega (arith, e)

-- ---- rows
abbrev values : ℤ → List ℕ → Row
values z s = Int z ∷ Text s ∷ []

short_spelling : (z : ℤ) (s : List ℕ) → length s ≤ 255 → nat_lt 1000 (length (tuple_spelling (values z s))) ≡ false
short_spelling z s short = le-ltb 1000 (length (tuple_spelling (values z s))) (omega (arith, length-append s [], short))

pair_row : (z : ℤ) (s : List ℕ) → IsStorable (Int z) → IsStorable (Text s) → IsRow pair_columns (values z s)
pair_row z s number word = record {
  tuple = record {
    some = omega arith;
    few = omega arith;
    storable = All-cons IsStorable (Int z) (Text s ∷ []) number (All-cons IsStorable (Text s) [] word (All-nil IsStorable));
  };
  fits = refl;
  short = (λ i. not (le-leb (length s) 255 word.1 i && true) || nat_lt 1000 (length (tuple_spelling (values z s)))) ∙ short_spelling z s word.1;
}

pub MayBePair-from : (row : Row) → IsPair row → MayBePair row
MayBePair-from row r inst are =
    subst (λ (l : Row). MayHold heap_method inst l) (sym r.is) (record {
      is_row = subst (λ (s : List Column). IsRow s (values r.number r.word)) (sym are.columns) (pair_row r.number r.word r.fits (r.utf8, r.short));
      code = λ coded. absurd (cc);
    })
