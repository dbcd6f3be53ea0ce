-- The relation of a number and a short text is kept in a heap and in a tree.
use Rattle.std.proofs.Common.{◌≡◌, ◌≢◌, ℕ, true, List, [], ◌∷◌, codes, Some, refl, sym, ◌∙◌, subst, arith}
use Rattle.sb_value.specs.declared.schema.Column.{Column}
use Rattle.sb_relation.specs.Db.{Name, Row}
use Rattle.sb_relation.specs.Fits.{MayKeep}
use Rattle.sb_relation.specs.Lawful.{IsRow}
use Rattle.sb_ctx.specs.declared.instance.Instance.{Instance}
use Rattle.sb_heap.specs.Heap.{heap_method}
use Rattle.sb_treemethod.specs.Examples.{example_columns, IsExample, IsShortRow}
use Rattle.sb_treemethod.specs.TreeMethod.{tree_method}
use Rattle.sb_treemethod.proofs.ExampleLaws.{IsExample-from, MayBeHeld-short}
use Rattle.sb_bench.specs.Rows.{IsFirst, KeepsShortRows}

owned : (owner : ℕ) → owner ≡ 3 → owner ≢ 0
owned owner is none = not_three (sym is ∙ none)
  where
    not_three : ◌≡◌ {A = ℕ} 3 0 → ⊥
    not_three e = omega (arith, e)

IsExample-first : (inst : Instance) → IsFirst 2 (codes "k" ∷ []) inst → IsExample inst
IsExample-first inst first =
    let other = IsExample-from (record inst { owner = 1 }) first.code_is first.durable first.desc refl first.columns first.key_is in
    record {
      is = record { code = first.code_is; durable = first.durable; desc = first.desc; owned = owned inst.owner first.owner; may = other.is.may };
      columns = first.columns;
      key = first.key_is;
    }

pub KeepsShortRows-tree : (inst : Instance) → IsFirst 2 (codes "k" ∷ []) inst → KeepsShortRows tree_method inst
KeepsShortRows-tree inst first =
    let example = IsExample-first inst first in
    record { is = example.is; rows = λ row short. MayBeHeld-short row short inst example }

-- ---- a heap has no key
keyless : (schema : List Column) (key : List Name) → key ≡ [] → MayKeep (Some heap_method.rules) 1 schema key
keyless schema key none = subst (λ (k : List Name). MayKeep (Some heap_method.rules) 1 schema k) (sym none) (record { named = refl; fits = refl })

is_row : (inst : Instance) (row : Row) → inst.schema ≡ example_columns → IsShortRow row → IsRow inst.schema row
is_row inst row columns short =
    let other : Instance = record inst { owner = 3; durable = true; code = 2; desc = []; key = codes "k" ∷ [] } in
    let first : IsFirst 2 (codes "k" ∷ []) other = record { code_is = refl; durable = refl; desc = refl; owner = refl; columns = columns; key_is = refl } in
    (MayBeHeld-short row short other (IsExample-first other first)).is_row

pub KeepsShortRows-heap : (inst : Instance) → IsFirst 1 [] inst → KeepsShortRows heap_method inst
KeepsShortRows-heap inst first = record {
  is = record {
    code = first.code_is;
    durable = first.durable;
    desc = first.desc;
    owned = owned inst.owner first.owner;
    may = keyless inst.schema inst.key first.key_is;
  };
  rows = λ row short. record { is_row = is_row inst row first.columns short; code = λ coded. absurd (cc) };
}
