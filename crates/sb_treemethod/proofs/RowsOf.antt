-- Rows as those of entries: one by its key, one more, one less.
use Rattle.std.proofs.Common.{◌≡◌, ℕ, Bool, true, false, cond, not, ◌&&◌, List, [], ◌∷◌, Option, Some, None, option_map, refl, ap, ◌∙◌}
use Rattle.std.specs.List.{list_all, find as first}
use Rattle.std.specs.Ordering.{is_lt, is_eq}
use Rattle.std.specs.Str.{bytes_eq}
use Rattle.std.specs.declared.cmp.Ordering.TheVariants.{Less, Equal, Greater}
use Rattle.std.specs.FinMap.Entries.{put, find, where_key, by_order, is_sorted, below_all}
use Rattle.std.proofs.lemmas.Bool.{and_parts, and_from}
use Rattle.sb_value.specs.Order.{bytes_cmp}
use Rattle.sb_relation.specs.Db.{Key, Row, Rows, row_at, with_row, without_row}
use Rattle.sb_node.specs.Entries.{Entry, key_cmp, is_below}
use Rattle.sb_forms.specs.Stored.{row_in}
use Rattle.sb_forms.specs.TreePages.{rows_of}
use Rattle.sb_ctx.specs.MethodAnswers.{is_above, row_above}
use Rattle.sb_btree.specs.Ways.{is_behind}

-- ---- a row by its key
pub row_at-rows_of : (key : Key) (es : List Entry) → row_at (rows_of es) key ≡ option_map row_in (find key_cmp key es)
row_at-rows_of key [] = refl
row_at-rows_of key (e ∷ es) = elim (is_eq (key_cmp key e.0)) as (λ t. cond t (Some (row_in e.1)) (row_at (rows_of es) key) ≡ option_map row_in (cond t (Some e.1) (find key_cmp key es))) [
  | true ↦ refl
  | false ↦ row_at-rows_of key es
]

-- the first row above a key
abbrev pub as_row : Entry → Key × Row
as_row e = (e.0, row_in e.1)

is_above-behind : (low : Option Key) (e : Entry) → is_above low e.0 ≡ is_behind low e
unfolding is_below
is_above-behind None e = refl
is_above-behind (Some low) e = refl

pub row_above-rows_of : (low : Option Key) (es : List Entry) → row_above low (rows_of es) ≡ option_map as_row (first (is_behind low) es)
row_above-rows_of low [] = refl
row_above-rows_of low (e ∷ es) =
    ap (λ t. cond t (Some (as_row e)) (row_above low (rows_of es))) (is_above-behind low e)
    ∙ elim (is_behind low e) as (λ t. cond t (Some (as_row e)) (row_above low (rows_of es)) ≡ option_map as_row (cond t (Some e) (first (is_behind low) es))) [
      | true ↦ refl
      | false ↦ row_above-rows_of low es
    ]

-- ---- one row more, one less
pub with_row-rows_of : (key : Key) (value : List ℕ) (es : List Entry) → with_row (rows_of es) key (row_in value) ≡ rows_of (put key_cmp key value es)
with_row-rows_of key value [] = refl
with_row-rows_of key value (e ∷ es) =
    elim (key_cmp key e.0) as (λ o. by_order o ((key, row_in value) ∷ rows_of (e ∷ es)) ((e.0, row_in value) ∷ rows_of es) (as_row e ∷ with_row (rows_of es) key (row_in value))
    ≡ rows_of (by_order o ((key, value) ∷ e ∷ es) ((e.0, value) ∷ es) (e ∷ put key_cmp key value es))) [
      | Less ↦ refl
      | Equal ↦ refl
      | Greater ↦ ap (λ (rows : Rows). as_row e ∷ rows) (with_row-rows_of key value es)
    ]

pub without_row-rows_of : (key : Key) (es : List Entry) → without_row (rows_of es) key ≡ rows_of (where_key key_cmp (λ k. not (bytes_eq k key)) es)
without_row-rows_of key [] = refl
without_row-rows_of key (e ∷ es) =
    elim (not (bytes_eq e.0 key)) as (λ t. cond t (as_row e ∷ without_row (rows_of es) key) (without_row (rows_of es) key) ≡ rows_of (cond t (e ∷ where_key key_cmp (λ k. not (bytes_eq k key)) es) (where_key key_cmp (λ k. not (bytes_eq k key)) es))) [
      | true ↦ ap (λ (rows : Rows). as_row e ∷ rows) (without_row-rows_of key es)
      | false ↦ without_row-rows_of key es
    ]

-- ---- the keys rise as those of the entries
below_all-rows_of : (key : Key) (es : List Entry) → below_all bytes_cmp key (rows_of es) ≡ below_all key_cmp key es
below_all-rows_of key [] = refl
below_all-rows_of key (e ∷ es) = ap (λ t. is_lt (key_cmp key e.0) && t) (below_all-rows_of key es)

pub is_sorted-rows_of : (es : List Entry) → is_sorted bytes_cmp (rows_of es) ≡ is_sorted key_cmp es
is_sorted-rows_of [] = refl
is_sorted-rows_of (e ∷ es) = λ i. below_all-rows_of e.0 es i && is_sorted-rows_of es i

-- ---- all entries pass a test still
pub all-put : (p : Entry → Bool) (key value : List ℕ) (es : List Entry) → ((k : List ℕ) → key_cmp key k ≡ Equal → p (k, value) ≡ true) → p (key, value) ≡ true → list_all p es ≡ true → list_all p (put key_cmp key value es) ≡ true
all-put p key value [] tied here all = and_from (p (key, value)) true here refl
all-put p key value (e ∷ es) tied here all =
    let parts = and_parts (p e) (list_all p es) all in
    elim (key_cmp key e.0) as (λ o. key_cmp key e.0 ≡ o → list_all p (by_order o ((key, value) ∷ e ∷ es) ((e.0, value) ∷ es) (e ∷ put key_cmp key value es)) ≡ true) [
      | Less ↦ λ is. and_from (p (key, value)) (p e && list_all p es) here all
      | Equal ↦ λ is. and_from (p (e.0, value)) (list_all p es) (tied e.0 is) parts.1
      | Greater ↦ λ is. and_from (p e) (list_all p (put key_cmp key value es)) parts.0 (all-put p key value es tied here parts.1)
    ] refl

pub all-where : (p : Entry → Bool) (keep : List ℕ → Bool) (es : List Entry) → list_all p es ≡ true → list_all p (where_key key_cmp keep es) ≡ true
all-where p keep [] all = refl
all-where p keep (e ∷ es) all =
    let parts = and_parts (p e) (list_all p es) all in
    elim (keep e.0) as (λ t. list_all p (cond t (e ∷ where_key key_cmp keep es) (where_key key_cmp keep es)) ≡ true) [
      | true ↦ and_from (p e) (list_all p (where_key key_cmp keep es)) parts.0 (all-where p keep es parts.1)
      | false ↦ all-where p keep es parts.1
    ]
