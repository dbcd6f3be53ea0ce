-- The first row above a key, page by page.
use Rattle.std.proofs.Common.{◌≡◌, ◌≢◌, ℕ, zero, suc, ◌+◌, ◌^◌, ◌<◌, ◌≤◌, ◌==◌, Bool, true, false, true≢false, cond, not, ◌&&◌, List, [], ◌∷◌, ◌++◌, length, take, Option, Some, None, option_map, refl, ap, sym, ◌∙◌, subst, arith, eqb-true, replicate}
use Rattle.std.specs.Prelude.{nat_eq}
use Rattle.std.specs.Int.{bytes_high_first}
use Rattle.std.specs.List.{find as first, list_all}
use Rattle.std.specs.Ordering.{is_eq, is_lt, nat_cmp, ordering_then}
use Rattle.std.specs.Cmp.{nat_cmp_is}
use Rattle.std.specs.declared.cmp.Ordering.{Ordering}
use Rattle.std.specs.declared.cmp.Ordering.TheVariants.{Less, Equal, Greater}
use Rattle.std.proofs.lemmas.Bool.{and_parts, eqb-false}
use Rattle.std.proofs.lemmas.Option.{same_Some}
use Rattle.sb_bytes.proofs.Fronts.{slice_cmp-fronts}
use Rattle.sb_value.specs.declared.schema.Column.{Column}
use Rattle.sb_value.specs.Order.{bytes_cmp}
use Rattle.sb_relation.specs.Db.{Key, Row}
use Rattle.sb_node.specs.Entries.{Entry}
use Rattle.sb_node.specs.Page.{Node, has_form, node_in}
use Rattle.sb_node.proofs.Edited.{node_of-form}
use Rattle.sb_forms.specs.Stored.{row_in, is_row_in, IsRowFrom}
use Rattle.sb_forms.specs.HeapPages.{has_room, is_heap_page, is_record, record_key, rows_on}
use Rattle.sb_forms.specs.Tree.{Nodes}
use Rattle.sb_forms.proofs.RowBytes.{row_of_bytes}
use Rattle.sb_ctx.specs.View.{View, page_of}
use Rattle.sb_ctx.specs.MethodAnswers.{is_above, row_above}
use Rattle.sb_heap.specs.Answered.{IsLowPage}
use Rattle.sb_heap.specs.Broken.{is_amiss}
use Rattle.sb_heap.specs.Scans.{first_above}
use Rattle.sb_heap.proofs.Rows.{as_row, rows_of, rows_in}

-- ---- the first of some that passes
pub first_here : (page : ℕ) (low : Option Key) (e : Entry) (es : List Entry) → is_above low (record_key page e.0) ≡ true → first_above page low (e ∷ es) ≡ Some e
first_here page low e es above = ap (λ b. cond b (Some e) (first_above page low es)) above

first_passes : {X : Type 0} (p q : X → Bool) (xs : List X) (x : X) → list_all p xs ≡ true → first q xs ≡ Some x → p x ≡ true
first_passes p q [] x all is = absurd (cc)
first_passes p q (y ∷ ys) x all is = by (q y) (first_passes p q ys x (and_parts (p y) (list_all p ys) all).1) is
  where
    by : (b : Bool) → (first q ys ≡ Some x → p x ≡ true) → cond b (Some y) (first q ys) ≡ Some x → p x ≡ true
    by true rest e = subst (λ z. p z ≡ true) (same_Some y x e) (and_parts (p y) (list_all p ys) all).0
    by false rest e = rest e

-- a page of which one entry is no record is no page of the heap
pub entry_amiss : (c : View) (schema : List Column) (page : ℕ) (low : Option Key) (bytes : List ℕ) (e : Entry) → page_of c page ≡ Some bytes → has_form bytes ≡ true → first_above page low (node_in bytes).entries ≡ Some e → (is_record schema e ≡ true → ⊥)
    → is_amiss schema (page_of c page) ≡ true
entry_amiss c schema page low bytes e held form at none =
    ap (is_amiss schema) held ∙ ap (λ (o : Option Node). not (is_heap_page schema o)) (node_of-form bytes form) ∙ by (is_heap_page schema (Some (node_in bytes))) refl
  where
    x : Node
    x = node_in bytes

    by : (b : Bool) → is_heap_page schema (Some x) ≡ b → not b ≡ true
    by false is = refl
    by true is =
        let all = (and_parts (nat_eq x.head.kind 1 && nat_eq x.head.level (cond (has_room x) 1 0)) (list_all (is_record schema) x.entries) is).1 in
        absurd (none (first_passes (is_record schema) (λ e. is_above low (record_key page e.0)) x.entries e all at))

pub misspelled_record : (schema : List Column) (e : Entry) → IsRowFrom schema e.1 None → is_record schema e ≡ true → ⊥
misspelled_record schema e none is =
    let row = row_of_bytes schema e.1 (and_parts (nat_eq (length e.0) 2) (is_row_in schema e.1) is).1 in
    none (row_in e.1) row.is_row row.value_is

pub long_record : (schema : List Column) (e : Entry) → length e.0 ≢ 2 → is_record schema e ≡ true → ⊥
long_record schema e other is = other (eqb-true (length e.0) 2 (and_parts (nat_eq (length e.0) 2) (is_row_in schema e.1) is).0)

-- ---- the rows of one page
pub page_scan : (n : ℕ) (low : Option Key) (es : List Entry) → row_above low (rows_of n es) ≡ option_map (as_row n) (first_above n low es)
page_scan n low [] = refl
page_scan n low (e ∷ es) = elim (is_above low (record_key n e.0)) as (λ b. cond b (Some (as_row n e)) (row_above low (rows_of n es)) ≡ option_map (as_row n) (cond b (Some e) (first_above n low es))) [
  | true ↦ refl
  | false ↦ page_scan n low es
]

-- ---- the order of a low key and of the keys of a page
zeros_least : (m k : ℕ) (b : List ℕ) → k ≤ m → length b ≡ k → bytes_cmp (take k (replicate m 0)) b ≢ Greater
zeros_least m zero [] within long is = not_greater is
  where
    not_greater : Equal ≢ Greater
    not_greater e = true≢false (ap is_eq e)
zeros_least m zero (y ∷ b) within long is = absurd (omega (arith, long))
zeros_least m (suc k) [] within long is = absurd (omega (arith, long))
zeros_least zero (suc k) (y ∷ b) within long is = absurd (omega (arith, within))
zeros_least (suc m) (suc k) (zero ∷ b) within long is = zeros_least m k b (omega (arith, within)) (omega (arith, long)) is
zeros_least (suc m) (suc k) (suc y ∷ b) within long is = true≢false (ap is_lt (ap (λ o. ordering_then o (bytes_cmp (take k (replicate m 0)) b)) (nat_cmp_is 0 (suc y) Less (omega arith)) ∙ is))

-- a key with zeros behind it is in the same order with bytes as the key with all that begins with these
padded : (k m : ℕ) (low b s : List ℕ) (o : Ordering) → k ≤ m → length b ≡ k → bytes_cmp (take k (low ++ replicate m 0)) b ≡ o → o ≢ Equal → bytes_cmp low (b ++ s) ≡ o
padded zero m low [] s o within long is other = absurd (other (sym is))
padded zero m low (y ∷ b) s o within long is other = absurd (omega (arith, long))
padded (suc k) m low [] s o within long is other = absurd (omega (arith, long))
padded (suc k) m [] (y ∷ b) s Less within long is other = refl
padded (suc k) m [] (y ∷ b) s Equal within long is other = absurd (other refl)
padded (suc k) m [] (y ∷ b) s Greater within long is other = absurd (zeros_least m (suc k) (y ∷ b) within long is)
padded (suc k) m (x ∷ low) (y ∷ b) s o within long is other =
    elim (nat_cmp x y) as (λ p. ordering_then p (bytes_cmp (take k (low ++ replicate m 0)) b) ≡ o → ordering_then p (bytes_cmp low (b ++ s)) ≡ o) [
      | Less ↦ λ e. e
      | Equal ↦ λ e. padded k m low b s o (omega (arith, within)) (omega (arith, long)) e other
      | Greater ↦ λ e. e
    ] is

low_cmp : (low : Key) (q n : ℕ) (s : List ℕ) (o : Ordering) → IsLowPage low q → n < 2 ^ 32 → nat_cmp q n ≡ o → o ≢ Equal → bytes_cmp low (record_key n s) ≡ o
low_cmp low q n s o l high is other =
    padded 4 4 low (bytes_high_first 4 n) s o (omega arith) refl (ap (λ (f : List ℕ). bytes_cmp f (bytes_high_first 4 n)) (sym l.front) ∙ fronts ∙ is) other
  where
    fronts : bytes_cmp (bytes_high_first 4 q) (bytes_high_first 4 n) ≡ nat_cmp q n
    fronts = slice_cmp-fronts 4 q n [] [] (omega (arith, l.page_low)) (omega (arith, high)) ∙ by (nat_cmp q n)
      where
        by : (o : Ordering) → ordering_then o Equal ≡ o
        by Less = refl
        by Equal = refl
        by Greater = refl

pub keys_above : (low : Key) (q n : ℕ) (s : List ℕ) → IsLowPage low q → q < n → n < 2 ^ 32 → is_above (Some low) (record_key n s) ≡ true
keys_above low q n s l more high = ap is_lt (low_cmp low q n s Less l high (sym (nat_cmp_is q n Less more)) (λ e. absurd (cc)))

pub keys_below : (low : Key) (q n : ℕ) (s : List ℕ) → IsLowPage low q → n < q → is_above (Some low) (record_key n s) ≡ false
keys_below low q n s l less = ap is_lt (low_cmp low q n s Greater l (omega (arith, less, l.page_low)) (sym (nat_cmp_is q n Greater less)) (λ e. absurd (cc)))

-- no key of a page below that of the low key is above it, and all of one above it are
pub page_below : (low : Key) (q n : ℕ) (es : List Entry) → IsLowPage low q → n < q → first_above n (Some low) es ≡ None
page_below low q n [] l less = refl
page_below low q n (e ∷ es) l less = ap (λ b. cond b (Some e) (first_above n (Some low) es)) (keys_below low q n e.0 l less) ∙ page_below low q n es l less

pub page_above : (low : Key) (q n : ℕ) (es : List Entry) → IsLowPage low q → q < n → n < 2 ^ 32 → first_above n (Some low) es ≡ first_above n None es
page_above low q n [] l more high = refl
page_above low q n (e ∷ es) l more high = first_here n (Some low) e es (keys_above low q n e.0 l more high)

-- ---- the rows of the pages of these numbers
scan_front : {X : Type 0} (p : X → Bool) (xs ys : List X) (x : X) → first p xs ≡ Some x → first p (xs ++ ys) ≡ Some x
scan_front p [] ys x is = absurd (cc)
scan_front p (y ∷ xs) ys x is = elim (p y) as (λ b. cond b (Some y) (first p xs) ≡ Some x → cond b (Some y) (first p (xs ++ ys)) ≡ Some x) [
  | true ↦ λ e. e
  | false ↦ λ e. scan_front p xs ys x e
] is

scan_back : {X : Type 0} (p : X → Bool) (xs ys : List X) → first p xs ≡ None → first p (xs ++ ys) ≡ first p ys
scan_back p [] ys is = refl
scan_back p (y ∷ xs) ys is = elim (p y) as (λ b. cond b (Some y) (first p xs) ≡ None → cond b (Some y) (first p (xs ++ ys)) ≡ first p ys) [
  | true ↦ λ e. absurd (cc)
  | false ↦ λ e. scan_back p xs ys e
] is

module _ (N : Nodes) (low : Option Key) where
  pub scan_none : (from len : ℕ) → ((n : ℕ) → from ≤ n → n < from + len → row_above low (rows_on N n) ≡ None) → row_above low (rows_in N from len) ≡ None
  scan_none from zero none = refl
  scan_none from (suc len) none =
      scan_back (λ row. is_above low row.0) (rows_on N from) (rows_in N (from + 1) len) (none from (omega arith) (omega arith))
      ∙ scan_none (from + 1) len (λ n more less. none n (omega (arith, more)) (omega (arith, less)))

  pub scan_found : (from len p : ℕ) (r : Key × Row) → from ≤ p → p < from + len → ((n : ℕ) → from ≤ n → n < p → row_above low (rows_on N n) ≡ None) → row_above low (rows_on N p) ≡ Some r → row_above low (rows_in N from len) ≡ Some r
  scan_found from zero p r more less none here = absurd (omega (arith, more, less))
  scan_found from (suc len) p r more less none here = elim (from == p) as (λ b. (from == p) ≡ b → row_above low (rows_on N from ++ rows_in N (from + 1) len) ≡ Some r) [
    | true ↦ λ same. scan_front (λ row. is_above low row.0) (rows_on N from) (rows_in N (from + 1) len) r (ap (λ n. row_above low (rows_on N n)) (eqb-true from p same) ∙ here)
    | false ↦ λ differs.
        let after : from + 1 ≤ p = omega (arith, more, eqb-false from p differs) in
        scan_back (λ row. is_above low row.0) (rows_on N from) (rows_in N (from + 1) len) (none from (omega arith) (omega (arith, after)))
        ∙ scan_found (from + 1) len p r after (omega (arith, less)) (λ n m l. none n (omega (arith, m)) l) here
  ] refl
