-- The rows of a heap's pages, by the numbers of the pages.
use Rattle.std.proofs.Common.{◌≡◌, ◌≢◌, ℕ, zero, suc, ◌+◌, ◌*◌, ◌^◌, ◌<◌, ◌≤◌, ◌==◌, Bool, true, false, true≢false, cond, not, ◌&&◌, List, [], ◌∷◌, ◌++◌, length, map, filter, Option, Some, None, option_map, refl, ap, sym, ◌∙◌, arith, eqb-true, eq-eqb, length-append}
use Rattle.std.specs.Str.{bytes_eq}
use Rattle.std.specs.List.{AllByRecursion, flat_map, range_with_len}
use Rattle.std.specs.FinMap.Entries.{is_sorted, below_all, find, put, by_order}
use Rattle.std.specs.declared.cmp.Ordering.{Ordering}
use Rattle.std.specs.declared.cmp.Ordering.TheVariants.{Less, Equal, Greater}
use Rattle.std.specs.Ordering.{is_eq, is_lt, nat_cmp, ordering_then, eq_by_cmp}
use Rattle.std.specs.Cmp.{nat_cmp_is}
use Rattle.std.proofs.lemmas.Bool.{and_parts, and_from, eqb-false}
use Rattle.std.proofs.lemmas.List.{length-map}
use Rattle.std.proofs.lemmas.List.Elements.{filter-append}
use Rattle.sb_bytes.proofs.Fronts.{slice_cmp-fronts}
use Rattle.sb_value.specs.Order.{bytes_cmp}
use Rattle.sb_relation.specs.Db.{Key, Row, Rows, row_at, with_row, without_row}
use Rattle.sb_node.specs.Entries.{Entry, key_cmp}
use Rattle.sb_forms.specs.Tree.{Nodes, entries_of}
use Rattle.sb_forms.specs.Stored.{row_in}
use Rattle.sb_forms.specs.HeapPages.{record_key, rows_on}
use Rattle.sb_heap.proofs.Slots.{entries_without, same_key, tie}

-- ---- the order of record keys
nat_equal : (n : ℕ) → nat_cmp n n ≡ Equal
nat_equal n = sym (nat_cmp_is n n Equal refl)

pub compare : (m n : ℕ) (s t : List ℕ) → m < 2 ^ 32 → n < 2 ^ 32 → bytes_cmp (record_key m s) (record_key n t) ≡ ordering_then (nat_cmp m n) (bytes_cmp s t)
compare m n s t low high = slice_cmp-fronts 4 m n s t (omega (arith, low)) (omega (arith, high))

pub same_page : (n : ℕ) (s t : List ℕ) → n < 2 ^ 32 → bytes_cmp (record_key n s) (record_key n t) ≡ key_cmp s t
same_page n s t low = compare n n s t low low ∙ ap (λ o. ordering_then o (bytes_cmp s t)) (nat_equal n)

pub lesser_page : (m n : ℕ) (s t : List ℕ) → m < n → n < 2 ^ 32 → bytes_cmp (record_key m s) (record_key n t) ≡ Less
lesser_page m n s t less high = compare m n s t (omega (arith, less, high)) high ∙ ap (λ o. ordering_then o (bytes_cmp s t)) (sym (nat_cmp_is m n Less less))

pub greater_page : (m n : ℕ) (s t : List ℕ) → n < m → m < 2 ^ 32 → bytes_cmp (record_key m s) (record_key n t) ≡ Greater
greater_page m n s t less high = compare m n s t high (omega (arith, less, high)) ∙ ap (λ o. ordering_then o (bytes_cmp s t)) (sym (nat_cmp_is m n Greater less))

-- ---- rows of which all are below a key, or above it
abbrev pub AllLess : Key → Rows → Type 0
AllLess key rows = AllByRecursion (λ r. bytes_cmp key r.0 ≡ Greater) rows

abbrev pub AllMore : Key → Rows → Type 0
AllMore key rows = AllByRecursion (λ r. bytes_cmp key r.0 ≡ Less) rows

all_append : (P : Key × Row → Type 0) (xs ys : Rows) → AllByRecursion P xs → AllByRecursion P ys → AllByRecursion P (xs ++ ys)
all_append P [] ys a b = b
all_append P (x ∷ xs) ys a b = (a.0, all_append P xs ys a.1 b)

find_less : (key : Key) (xs ys : Rows) → AllLess key xs → row_at (xs ++ ys) key ≡ row_at ys key
find_less key [] ys h = refl
find_less key (x ∷ xs) ys h = ap (λ o. cond (is_eq o) (Some x.1) (row_at (xs ++ ys) key)) h.0 ∙ find_less key xs ys h.1

find_none : (key : Key) (ys : Rows) → AllMore key ys → row_at ys key ≡ None
find_none key [] h = refl
find_none key (y ∷ ys) h = ap (λ o. cond (is_eq o) (Some y.1) (row_at ys key)) h.0 ∙ find_none key ys h.1

find_more : (key : Key) (xs ys : Rows) → AllMore key ys → row_at (xs ++ ys) key ≡ row_at xs key
find_more key [] ys h = find_none key ys h
find_more key (x ∷ xs) ys h = ap (λ (r : Option Row). cond (eq_by_cmp bytes_cmp key x.0) (Some x.1) r) (find_more key xs ys h)

put_less : (key : Key) (row : Row) (xs ys : Rows) → AllLess key xs → with_row (xs ++ ys) key row ≡ xs ++ with_row ys key row
put_less key row [] ys h = refl
put_less key row (x ∷ xs) ys h =
    ap (λ o. by_order o ((key, row) ∷ x ∷ xs ++ ys) ((x.0, row) ∷ xs ++ ys) (x ∷ with_row (xs ++ ys) key row)) h.0
    ∙ ap (λ (l : Rows). x ∷ l) (put_less key row xs ys h.1)

put_first : (key : Key) (row : Row) (ys : Rows) → AllMore key ys → with_row ys key row ≡ (key, row) ∷ ys
put_first key row [] h = refl
put_first key row (y ∷ ys) h = ap (λ o. by_order o ((key, row) ∷ y ∷ ys) ((y.0, row) ∷ ys) (y ∷ with_row ys key row)) h.0

put_more : (key : Key) (row : Row) (xs ys : Rows) → AllMore key ys → with_row (xs ++ ys) key row ≡ with_row xs key row ++ ys
put_more key row [] ys h = put_first key row ys h
put_more key row (x ∷ xs) ys h = elim (bytes_cmp key x.0) as (λ o. by_order o ((key, row) ∷ x ∷ xs ++ ys) ((x.0, row) ∷ xs ++ ys) (x ∷ with_row (xs ++ ys) key row) ≡ by_order o ((key, row) ∷ x ∷ xs) ((x.0, row) ∷ xs) (x ∷ with_row xs key row) ++ ys) [
  | Less ↦ refl
  | Equal ↦ refl
  | Greater ↦ ap (λ (l : Rows). x ∷ l) (put_more key row xs ys h)
]

-- a key that none of the rows has
apart : (key x : Key) (o : Ordering) → bytes_cmp key x ≡ o → is_eq o ≡ false → not (bytes_eq x key) ≡ true
apart key x o e differs = ap not (sym (tie key x) ∙ ap is_eq e ∙ differs)

kept_less : (key : Key) (xs : Rows) → AllLess key xs → without_row xs key ≡ xs
kept_less key [] h = refl
kept_less key (x ∷ xs) h = ap (λ b. cond b (x ∷ without_row xs key) (without_row xs key)) (apart key x.0 Greater h.0 refl) ∙ ap (λ (l : Rows). x ∷ l) (kept_less key xs h.1)

kept_more : (key : Key) (xs : Rows) → AllMore key xs → without_row xs key ≡ xs
kept_more key [] h = refl
kept_more key (x ∷ xs) h = ap (λ b. cond b (x ∷ without_row xs key) (without_row xs key)) (apart key x.0 Less h.0 refl) ∙ ap (λ (l : Rows). x ∷ l) (kept_more key xs h.1)

where_append : (key : Key) (xs ys : Rows) → without_row (xs ++ ys) key ≡ without_row xs key ++ without_row ys key
where_append key xs ys = filter-append (λ (r : Key × Row). not (bytes_eq r.0 key)) xs ys

-- ---- the rows on one page
abbrev pub as_row : ℕ → Entry → Key × Row
as_row n e = (record_key n e.0, row_in e.1)

abbrev pub rows_of : ℕ → List Entry → Rows
rows_of n es = map (as_row n) es

page_less : (n p : ℕ) (slot : List ℕ) (es : List Entry) → n < p → p < 2 ^ 32 → AllLess (record_key p slot) (rows_of n es)
page_less n p slot [] less low = tt
page_less n p slot (e ∷ es) less low = (greater_page p n slot e.0 less low, page_less n p slot es less low)

page_more : (n p : ℕ) (slot : List ℕ) (es : List Entry) → p < n → n < 2 ^ 32 → AllMore (record_key p slot) (rows_of n es)
page_more n p slot [] less low = tt
page_more n p slot (e ∷ es) less low = (lesser_page p n slot e.0 less low, page_more n p slot es less low)

page_find : (n : ℕ) (slot : List ℕ) (es : List Entry) → n < 2 ^ 32 → row_at (rows_of n es) (record_key n slot) ≡ option_map row_in (find key_cmp slot es)
page_find n slot [] low = refl
page_find n slot (e ∷ es) low =
    ap (λ o. cond (is_eq o) (Some (row_in e.1)) (row_at (rows_of n es) (record_key n slot))) (same_page n slot e.0 low)
    ∙ elim (is_eq (key_cmp slot e.0)) as (λ t. cond t (Some (row_in e.1)) (row_at (rows_of n es) (record_key n slot)) ≡ option_map row_in (cond t (Some e.1) (find key_cmp slot es))) [
      | true ↦ refl
      | false ↦ page_find n slot es low
    ]

page_put : (n : ℕ) (slot value : List ℕ) (es : List Entry) → n < 2 ^ 32 → with_row (rows_of n es) (record_key n slot) (row_in value) ≡ rows_of n (put key_cmp slot value es)
page_put n slot value [] low = refl
page_put n slot value (e ∷ es) low =
    ap (λ o. by_order o ((record_key n slot, row_in value) ∷ rows_of n (e ∷ es)) ((record_key n e.0, row_in value) ∷ rows_of n es) (as_row n e ∷ with_row (rows_of n es) (record_key n slot) (row_in value))) (same_page n slot e.0 low)
    ∙ elim (key_cmp slot e.0) as (λ o. by_order o ((record_key n slot, row_in value) ∷ rows_of n (e ∷ es)) ((record_key n e.0, row_in value) ∷ rows_of n es) (as_row n e ∷ with_row (rows_of n es) (record_key n slot) (row_in value))
    ≡ rows_of n (by_order o ((slot, value) ∷ e ∷ es) ((e.0, value) ∷ es) (e ∷ put key_cmp slot value es))) [
      | Less ↦ refl
      | Equal ↦ refl
      | Greater ↦ ap (λ (l : Rows). as_row n e ∷ l) (page_put n slot value es low)
    ]

page_without : (n : ℕ) (slot : List ℕ) (es : List Entry) → n < 2 ^ 32 → without_row (rows_of n es) (record_key n slot) ≡ rows_of n (entries_without slot es)
page_without n slot [] low = refl
page_without n slot (e ∷ es) low =
    ap (λ b. cond (not b) (as_row n e ∷ without_row (rows_of n es) (record_key n slot)) (without_row (rows_of n es) (record_key n slot))) (sym (tie (record_key n slot) (record_key n e.0)) ∙ ap is_eq (same_page n slot e.0 low) ∙ tie slot e.0)
    ∙ elim (not (bytes_eq e.0 slot)) as (λ t. cond t (as_row n e ∷ without_row (rows_of n es) (record_key n slot)) (without_row (rows_of n es) (record_key n slot)) ≡ rows_of n (cond t (e ∷ entries_without slot es) (entries_without slot es))) [
      | true ↦ ap (λ (l : Rows). as_row n e ∷ l) (page_without n slot es low)
      | false ↦ page_without n slot es low
    ]

-- ---- the rows on the pages of these numbers
abbrev pub rows_in : Nodes → ℕ → ℕ → Rows
rows_in N low len = flat_map (rows_on N) (range_with_len low len)

in_more : (N : Nodes) (low len p : ℕ) (slot : List ℕ) → p < low → low + len ≤ 65536 → AllMore (record_key p slot) (rows_in N low len)
in_more N low zero p slot less high = tt
in_more N low (suc len) p slot less high =
    all_append (λ r. bytes_cmp (record_key p slot) r.0 ≡ Less) (rows_on N low) (rows_in N (low + 1) len)
    (page_more low p slot (entries_of (N low)) less (omega (arith, high))) (in_more N (low + 1) len p slot (omega (arith, less)) (omega (arith, high)))

pub rows_frame : (N M : Nodes) (low len : ℕ) → ((n : ℕ) → low ≤ n → n < low + len → entries_of (M n) ≡ entries_of (N n)) → rows_in M low len ≡ rows_in N low len
rows_frame N M low zero same = refl
rows_frame N M low (suc len) same = λ i. rows_of low (same low (omega arith) (omega arith) i) ++ rows_frame N M (low + 1) len (λ n from to. same n (omega (arith, from)) (omega (arith, to))) i

pub rows_find : (N : Nodes) (low len p : ℕ) (slot : List ℕ) → low ≤ p → p < low + len → low + len ≤ 65536 → row_at (rows_in N low len) (record_key p slot) ≡ option_map row_in (find key_cmp slot (entries_of (N p)))
rows_find N low zero p slot from to high = absurd (omega (arith, from, to))
rows_find N low (suc len) p slot from to high = elim (low == p) as (λ b. (low == p) ≡ b → row_at (rows_on N low ++ rows_in N (low + 1) len) (record_key p slot) ≡ option_map row_in (find key_cmp slot (entries_of (N p)))) [
  | true ↦ λ same. let e = eqb-true low p same in
      find_more (record_key p slot) (rows_on N low) (rows_in N (low + 1) len) (in_more N (low + 1) len p slot (omega (arith, e)) (omega (arith, high)))
      ∙ ap (λ m. row_at (rows_on N m) (record_key p slot)) e ∙ page_find p slot (entries_of (N p)) (omega (arith, to, high))
  | false ↦ λ differs.
      let more : low + 1 ≤ p = omega (arith, from, eqb-false low p differs) in
      find_less (record_key p slot) (rows_on N low) (rows_in N (low + 1) len) (page_less low p slot (entries_of (N low)) (omega (arith, more)) (omega (arith, to, high)))
      ∙ rows_find N (low + 1) len p slot more (omega (arith, to)) (omega (arith, high))
] refl

-- a row more on a page
pub rows_put : (N M : Nodes) (low len p : ℕ) (slot value : List ℕ) → low ≤ p → p < low + len → low + len ≤ 65536 → ((n : ℕ) → n ≢ p → entries_of (M n) ≡ entries_of (N n)) → entries_of (M p) ≡ put key_cmp slot value (entries_of (N p))
    → rows_in M low len ≡ with_row (rows_in N low len) (record_key p slot) (row_in value)
rows_put N M low zero p slot value from to high same here = absurd (omega (arith, from, to))
rows_put N M low (suc len) p slot value from to high same here = elim (low == p) as (λ b. (low == p) ≡ b → rows_on M low ++ rows_in M (low + 1) len ≡ with_row (rows_on N low ++ rows_in N (low + 1) len) (record_key p slot) (row_in value)) [
  | true ↦ λ eq. let e = eqb-true low p eq in
      (λ i. rows_on M (e i) ++ rows_frame N M (low + 1) len (λ n less more. same n (λ is. omega (arith, less, e, is))) i)
      ∙ ap (λ (l : Rows). l ++ rows_in N (low + 1) len) (ap (rows_of p) here ∙ sym (page_put p slot value (entries_of (N p)) (omega (arith, to, high))) ∙ ap (λ m. with_row (rows_on N m) (record_key p slot) (row_in value)) (sym e))
      ∙ sym (put_more (record_key p slot) (row_in value) (rows_on N low) (rows_in N (low + 1) len) (in_more N (low + 1) len p slot (omega (arith, e)) (omega (arith, high))))
  | false ↦ λ differs.
      let other : low ≢ p = eqb-false low p differs in
      let more : low + 1 ≤ p = omega (arith, from, other) in
      (λ i. rows_of low (same low other i) ++ rows_put N M (low + 1) len p slot value more (omega (arith, to)) (omega (arith, high)) same here i)
      ∙ sym (put_less (record_key p slot) (row_in value) (rows_on N low) (rows_in N (low + 1) len) (page_less low p slot (entries_of (N low)) (omega (arith, more)) (omega (arith, to, high))))
] refl

-- a row less on a page
pub rows_without : (N M : Nodes) (low len p : ℕ) (slot : List ℕ) → low ≤ p → p < low + len → low + len ≤ 65536 → ((n : ℕ) → n ≢ p → entries_of (M n) ≡ entries_of (N n)) → entries_of (M p) ≡ entries_without slot (entries_of (N p))
    → rows_in M low len ≡ without_row (rows_in N low len) (record_key p slot)
rows_without N M low zero p slot from to high same here = absurd (omega (arith, from, to))
rows_without N M low (suc len) p slot from to high same here = elim (low == p) as (λ b. (low == p) ≡ b → rows_on M low ++ rows_in M (low + 1) len ≡ without_row (rows_on N low ++ rows_in N (low + 1) len) (record_key p slot)) [
  | true ↦ λ eq. let e = eqb-true low p eq in
      (λ i. rows_on M (e i) ++ rows_frame N M (low + 1) len (λ n less more. same n (λ is. omega (arith, less, e, is))) i)
      ∙ (λ i. (ap (rows_of p) here ∙ sym (page_without p slot (entries_of (N p)) (omega (arith, to, high))) ∙ ap (λ m. without_row (rows_on N m) (record_key p slot)) (sym e)) i
      ++ sym (kept_more (record_key p slot) (rows_in N (low + 1) len) (in_more N (low + 1) len p slot (omega (arith, e)) (omega (arith, high)))) i)
      ∙ sym (where_append (record_key p slot) (rows_on N low) (rows_in N (low + 1) len))
  | false ↦ λ differs.
      let other : low ≢ p = eqb-false low p differs in
      let more : low + 1 ≤ p = omega (arith, from, other) in
      (λ i. rows_of low (same low other i) ++ rows_without N M (low + 1) len p slot more (omega (arith, to)) (omega (arith, high)) same here i)
      ∙ ap (λ (l : Rows). l ++ without_row (rows_in N (low + 1) len) (record_key p slot)) (sym (kept_less (record_key p slot) (rows_on N low) (page_less low p slot (entries_of (N low)) (omega (arith, more)) (omega (arith, to, high)))))
      ∙ sym (where_append (record_key p slot) (rows_on N low) (rows_in N (low + 1) len))
] refl

-- a page past all of them has no row
pub rows_past : (N : Nodes) (low len p : ℕ) (slot : List ℕ) → low + len ≤ p → p < 2 ^ 32 → row_at (rows_in N low len) (record_key p slot) ≡ None
rows_past N low zero p slot past high = refl
rows_past N low (suc len) p slot past high =
    find_less (record_key p slot) (rows_on N low) (rows_in N (low + 1) len) (page_less low p slot (entries_of (N low)) (omega (arith, past)) high)
    ∙ rows_past N (low + 1) len p slot (omega (arith, past)) high

-- nor has a key of another length
pub other_length : (key : Key) (n : ℕ) (rows : Rows) → AllByRecursion (λ r. length r.0 ≡ n) rows → length key ≢ n → row_at rows key ≡ None
other_length key n [] all other = refl
other_length key n (r ∷ rows) all other = by (bytes_cmp key r.0) refl (other_length key n rows all.1 other)
  where
    by : (o : Ordering) → bytes_cmp key r.0 ≡ o → row_at rows key ≡ None → cond (is_eq o) (Some r.1) (row_at rows key) ≡ None
    by Less is rest = rest
    by Equal is rest = absurd (other (ap length (same_key key r.0 is) ∙ all.0))
    by Greater is rest = rest

-- ---- the keys rise
more_below : (key : Key) (ys : Rows) → AllMore key ys → below_all bytes_cmp key ys ≡ true
more_below key [] h = refl
more_below key (y ∷ ys) h = and_from (is_lt (bytes_cmp key y.0)) (below_all bytes_cmp key ys) (ap is_lt h.0) (more_below key ys h.1)

below_append : (key : Key) (xs ys : Rows) → below_all bytes_cmp key xs ≡ true → below_all bytes_cmp key ys ≡ true → below_all bytes_cmp key (xs ++ ys) ≡ true
below_append key [] ys a b = b
below_append key (x ∷ xs) ys a b =
    let parts = and_parts (is_lt (bytes_cmp key x.0)) (below_all bytes_cmp key xs) a in
    and_from (is_lt (bytes_cmp key x.0)) (below_all bytes_cmp key (xs ++ ys)) parts.0 (below_append key xs ys parts.1 b)

sorted_append : (xs ys : Rows) → is_sorted bytes_cmp xs ≡ true → is_sorted bytes_cmp ys ≡ true → AllByRecursion (λ x. AllMore x.0 ys) xs → is_sorted bytes_cmp (xs ++ ys) ≡ true
sorted_append [] ys a b h = b
sorted_append (x ∷ xs) ys a b h =
    let parts = and_parts (below_all bytes_cmp x.0 xs) (is_sorted bytes_cmp xs) a in
    and_from (below_all bytes_cmp x.0 (xs ++ ys)) (is_sorted bytes_cmp (xs ++ ys)) (below_append x.0 xs ys parts.0 (more_below x.0 ys h.0)) (sorted_append xs ys parts.1 b h.1)

page_below : (n : ℕ) (slot : List ℕ) (es : List Entry) → n < 2 ^ 32 → below_all bytes_cmp (record_key n slot) (rows_of n es) ≡ below_all key_cmp slot es
page_below n slot [] low = refl
page_below n slot (e ∷ es) low = λ i. is_lt (same_page n slot e.0 low i) && page_below n slot es low i

page_rising : (n : ℕ) (es : List Entry) → n < 2 ^ 32 → is_sorted bytes_cmp (rows_of n es) ≡ is_sorted key_cmp es
page_rising n [] low = refl
page_rising n (e ∷ es) low = λ i. page_below n e.0 es low i && page_rising n es low i

more_each : (N : Nodes) (n low len : ℕ) (es : List Entry) → n < low → low + len ≤ 65536 → AllByRecursion (λ x. AllMore x.0 (rows_in N low len)) (rows_of n es)
more_each N n low len [] less high = tt
more_each N n low len (e ∷ es) less high = (in_more N low len n e.0 less high, more_each N n low len es less high)

pub rows_rising : (N : Nodes) (low len : ℕ) → low + len ≤ 65536 → ((n : ℕ) → is_sorted key_cmp (entries_of (N n)) ≡ true) → is_sorted bytes_cmp (rows_in N low len) ≡ true
rows_rising N low zero high sorted = refl
rows_rising N low (suc len) high sorted =
    sorted_append (rows_on N low) (rows_in N (low + 1) len) (page_rising low (entries_of (N low)) (omega (arith, high)) ∙ sorted low) (rows_rising N (low + 1) len (omega (arith, high)) sorted)
    (more_each N low (low + 1) len (entries_of (N low)) (omega arith) (omega (arith, high)))

-- ---- how many there are
pub rows_few : (N : Nodes) (low len : ℕ) → ((n : ℕ) → length (entries_of (N n)) ≤ 1018) → length (rows_in N low len) ≤ 1018 * len
rows_few N low zero few = omega arith
rows_few N low (suc len) few =
    omega (arith, few low, rows_few N (low + 1) len few, length-append (rows_on N low) (rows_in N (low + 1) len), length-map {B = Key × Row} (entries_of (N low)) (λ e. as_row low e))

pub rows_each : (N : Nodes) (low len : ℕ) (P : Key × Row → Type 0) → ((n : ℕ) → low ≤ n → n < low + len → AllByRecursion P (rows_on N n)) → AllByRecursion P (rows_in N low len)
rows_each N low zero P each = tt
rows_each N low (suc len) P each = all_append P (rows_on N low) (rows_in N (low + 1) len) (each low (omega arith) (omega arith)) (rows_each N (low + 1) len P (λ n from to. each n (omega (arith, from)) (omega (arith, to))))

-- pages that have a row each, but one, are one more than the rows at most
page_more_rows : (N : Nodes) (low len : ℕ) → length (rows_on N low ++ rows_in N (low + 1) len) ≡ length (entries_of (N low)) + length (rows_in N (low + 1) len)
page_more_rows N low len = omega (arith, length-append (rows_on N low) (rows_in N (low + 1) len), length-map {B = Key × Row} (entries_of (N low)) (λ e. as_row low e))

pages_few : (N : Nodes) (p : ℕ → Bool) (low len : ℕ) → ((n : ℕ) → low ≤ n → p n ≡ true → 0 < length (entries_of (N n))) → length (filter p (range_with_len low len)) ≤ length (rows_in N low len)
pages_few N p low zero each = omega arith
pages_few N p low (suc len) each = by (p low) refl (filter p (range_with_len (low + 1) len)) (pages_few N p (low + 1) len (λ n from is. each n (omega (arith, from)) is))
  where
    by : (b : Bool) → p low ≡ b → (R : List ℕ) → length R ≤ length (rows_in N (low + 1) len) → length (cond b (low ∷ R) R) ≤ length (rows_on N low ++ rows_in N (low + 1) len)
    by true is R rest = omega (arith, rest, page_more_rows N low len, each low (omega arith) is)
    by false is R rest = omega (arith, rest, page_more_rows N low len)

pub pages_but : (N : Nodes) (root : ℕ) (p : ℕ → Bool) (low len : ℕ) → ((n : ℕ) → n ≢ root → p n ≡ true → 0 < length (entries_of (N n))) → length (filter p (range_with_len low len)) ≤ length (rows_in N low len) + 1
pages_but N root p low zero each = omega arith
pages_but N root p low (suc len) each =
    by (p low) refl (filter p (range_with_len (low + 1) len)) (pages_but N root p (low + 1) len each) (λ same. pages_few N p (low + 1) len (λ n from is. each n (λ e. omega (arith, from, e, same)) is))
  where
    one : (R : List ℕ) → length R ≤ length (rows_in N (low + 1) len) + 1 → (low ≡ root → length R ≤ length (rows_in N (low + 1) len)) → (t : Bool) → (low == root) ≡ t → p low ≡ true → length R + 1 ≤ length (rows_on N low ++ rows_in N (low + 1) len) + 1
    one R rest behind true same is = omega (arith, behind (eqb-true low root same), page_more_rows N low len)
    one R rest behind false differs is = omega (arith, rest, page_more_rows N low len, each low (λ e. true≢false (sym (eq-eqb low root e) ∙ differs)) is)

    by : (b : Bool) → p low ≡ b → (R : List ℕ) → length R ≤ length (rows_in N (low + 1) len) + 1 → (low ≡ root → length R ≤ length (rows_in N (low + 1) len)) → length (cond b (low ∷ R) R) ≤ length (rows_on N low ++ rows_in N (low + 1) len) + 1
    by true is R rest behind = omega (arith, one R rest behind (low == root) refl is)
    by false is R rest behind = omega (arith, rest, page_more_rows N low len)
