-- Rows of which the first ones are built, and the next one.
use Rattle.std.proofs.Common.{◌≡◌, ℕ, ◌<◌, ◌≤◌, ◌^◌, Bool, true, false, cond, ◌&&◌, List, [], ◌∷◌, ◌++◌, length, All, Option, Some, None, T, refl, sym, ap, subst, ◌∙◌, arith, length-append, append_assoc, append-nil, ◌+◌, is_lt, is_eq, Less, Greater}
use Rattle.std.specs.Ordering.{ordering_reverse}
use Rattle.std.specs.FinMap.Entries.{is_sorted, below_all, by_order}
use Rattle.std.proofs.lemmas.Cmp.{nat_list_cmp_total, tied_itself}
use Rattle.std.proofs.lemmas.List.{get_or_append_left}
use Rattle.std.proofs.lemmas.List.Elements.{All-head, All-tail}
use Rattle.sb_value.specs.declared.schema.Column.{Column}
use Rattle.sb_value.specs.Order.{bytes_cmp}
use Rattle.sb_value.proofs.Truths.{T-parts, T-less}
use Rattle.sb_relation.specs.Db.{Key, Row, Rows, row_at, with_row}
use Rattle.sb_relation.specs.Keys.{is_record_key}
use Rattle.sb_relation.specs.Lawful.{IsRow, AreRows}
use Rattle.sb_ctx.specs.AttachAnswers.{AreBuilt}
use Rattle.sb_rows.specs.Scans.{rows_above}
use Rattle.sb_rows.proofs.ScansLemmas.{rows_above-all, rows_above-next, rows_above-none}
use Rattle.sb_ctx.specs.MethodAnswers.{row_above}
use Rattle.sb_building.specs.Building.{IsNext}

-- ---- keys in front are lesser ones
lesser : (x : Key) (built : Rows) (row : Key × Row) (rest : Rows) → T (below_all bytes_cmp x (built ++ row ∷ rest)) → bytes_cmp x row.0 ≡ Less
lesser x [] row rest below = T-less (bytes_cmp x row.0) (T-parts (is_lt (bytes_cmp x row.0)) (below_all bytes_cmp x rest) below).0
lesser x (y ∷ built) row rest below = lesser x built row rest (T-parts (is_lt (bytes_cmp x y.0)) (below_all bytes_cmp x (built ++ row ∷ rest)) below).1

greater : (x : Key) (built : Rows) (row : Key × Row) (rest : Rows) → T (below_all bytes_cmp x (built ++ row ∷ rest)) → bytes_cmp row.0 x ≡ Greater
greater x built row rest below = nat_list_cmp_total.antisymm row.0 x ∙ ap ordering_reverse (lesser x built row rest below)

-- the next row is put behind the others
pub with_row-next : (built : Rows) (row : Key × Row) (rest : Rows) → T (is_sorted bytes_cmp (built ++ row ∷ rest)) → with_row built row.0 row.1 ≡ built ++ row ∷ []
with_row-next [] row rest rises = refl
with_row-next (x ∷ built) row rest rises =
    let rising = T-parts (below_all bytes_cmp x.0 (built ++ row ∷ rest)) (is_sorted bytes_cmp (built ++ row ∷ rest)) rises in
    ap (λ o. by_order o ((row.0, row.1) ∷ x ∷ built) ((x.0, row.1) ∷ built) (x ∷ with_row built row.0 row.1)) (greater x.0 built row rest rising.0)
    ∙ ap (λ (rows : Rows). x ∷ rows) (with_row-next built row rest rising.1)

row_at-next : (built : Rows) (row : Key × Row) (rest : Rows) → T (is_sorted bytes_cmp (built ++ row ∷ rest)) → row_at (built ++ row ∷ rest) row.0 ≡ Some row.1
row_at-next [] row rest rises = ap (λ o. cond (is_eq o) (Some row.1) (row_at rest row.0)) (tied_itself nat_list_cmp_total row.0)
row_at-next (x ∷ built) row rest rises =
    let rising = T-parts (below_all bytes_cmp x.0 (built ++ row ∷ rest)) (is_sorted bytes_cmp (built ++ row ∷ rest)) rises in
    ap (λ o. cond (is_eq o) (Some x.1) (row_at (built ++ row ∷ rest) row.0)) (greater x.0 built row rest rising.0) ∙ row_at-next built row rest rising.1

row_at-new : (built : Rows) (row : Key × Row) (rest : Rows) → T (is_sorted bytes_cmp (built ++ row ∷ rest)) → row_at built row.0 ≡ None
row_at-new [] row rest rises = refl
row_at-new (x ∷ built) row rest rises =
    let rising = T-parts (below_all bytes_cmp x.0 (built ++ row ∷ rest)) (is_sorted bytes_cmp (built ++ row ∷ rest)) rises in
    ap (λ o. cond (is_eq o) (Some x.1) (row_at built row.0)) (greater x.0 built row rest rising.0) ∙ row_at-new built row rest rising.1

row_at-front : (built rest : Rows) (k : Key) (r : Row) → row_at built k ≡ Some r → row_at (built ++ rest) k ≡ Some r
row_at-front [] rest k r is = cc
row_at-front (x ∷ built) rest k r is =
    elim (is_eq (bytes_cmp k x.0)) as (λ b. cond b (Some x.1) (row_at built k) ≡ Some r → cond b (Some x.1) (row_at (built ++ rest) k) ≡ Some r) [
      | true ↦ λ here. here
      | false ↦ λ there. row_at-front built rest k r there
    ] is

-- ---- the first rows
below_all-front : (x : Key) (built rest : Rows) → T (below_all bytes_cmp x (built ++ rest)) → T (below_all bytes_cmp x built)
below_all-front x [] rest below = tt
below_all-front x (y ∷ built) rest below = both (is_lt (bytes_cmp x y.0)) (below_all bytes_cmp x built) (first.0) (below_all-front x built rest first.1)
  where
    first : T (is_lt (bytes_cmp x y.0)) × T (below_all bytes_cmp x (built ++ rest))
    first = T-parts (is_lt (bytes_cmp x y.0)) (below_all bytes_cmp x (built ++ rest)) below

    both : (a b : Bool) → T a → T b → T (a && b)
    both true b p q = q
    both false b p q = p

is_sorted-front : (built rest : Rows) → T (is_sorted bytes_cmp (built ++ rest)) → T (is_sorted bytes_cmp built)
is_sorted-front [] rest rises = tt
is_sorted-front (x ∷ built) rest rises = both (below_all bytes_cmp x.0 built) (is_sorted bytes_cmp built) (below_all-front x.0 built rest first.0) (is_sorted-front built rest first.1)
  where
    first : T (below_all bytes_cmp x.0 (built ++ rest)) × T (is_sorted bytes_cmp (built ++ rest))
    first = T-parts (below_all bytes_cmp x.0 (built ++ rest)) (is_sorted bytes_cmp (built ++ rest)) rises

    both : (a b : Bool) → T a → T b → T (a && b)
    both true b p q = q
    both false b p q = p

All-front : {X : Type 0} (P : X → Type 0) (xs ys : List X) → All P (xs ++ ys) → All P xs
All-front P xs ys all = λ k d within. subst P (get_or_append_left xs ys d k within) (all k d (omega (arith, length-append xs ys)))

few_front : (most : ℕ) (built rest : Rows) → length (built ++ rest) < most → length built < most
few_front most built rest few = omega (arith, length-append built rest)

pub AreRows-front : (schema : List Column) (built rest : Rows) → AreRows schema (built ++ rest) → AreRows schema built
AreRows-front schema built rest are = record {
  rising = is_sorted-front built rest are.rising;
  keys = All-front (λ row. is_record_key row.0 ≡ true) built rest are.keys;
  each = All-front (λ row. IsRow schema row.1) built rest are.each;
  few = few_front (2 ^ 48) built rest are.few;
}

-- ---- the next row
pub AreBuilt-next : (schema : List Column) (rows built : Rows) (row : Key × Row) → AreRows schema rows → IsNext rows built row → AreBuilt rows built row.0 row.1
AreBuilt-next schema rows built row are next =
    let rising = subst (λ (r : Rows). T (is_sorted bytes_cmp r)) next.split are.rising in
    record {
      of = λ k r is. ap (λ (l : Rows). row_at l k) next.split ∙ row_at-front built (row ∷ next.rest) k r is;
      new = row_at-new built row next.rest rising;
      next = ap (λ (l : Rows). row_at l row.0) next.split ∙ row_at-next built row next.rest rising;
    }

pub with_row-built : (schema : List Column) (rows built : Rows) (row : Key × Row) → AreRows schema rows → IsNext rows built row → with_row built row.0 row.1 ≡ built ++ row ∷ []
with_row-built schema rows built row are next = with_row-next built row next.rest (subst (λ (r : Rows). T (is_sorted bytes_cmp r)) next.split are.rising)

pub AreRows-built : (schema : List Column) (rows built : Rows) (row : Key × Row) → AreRows schema rows → IsNext rows built row → AreRows schema built
AreRows-built schema rows built row are next = AreRows-front schema built (row ∷ next.rest) (subst (AreRows schema) next.split are)

-- the next row is one of them
pub All-next : (P : Key × Row → Type 0) (rows built : Rows) (row : Key × Row) → All P rows → IsNext rows built row → P row
All-next P rows built row all next = at built (subst (All P) next.split all)
  where
    at : (built : Rows) → All P (built ++ row ∷ next.rest) → P row
    at [] all = All-head P row next.rest all
    at (x ∷ built) all = at built (All-tail P x (built ++ row ∷ next.rest) all)

-- ---- rows read one after the other
-- so many rows are built, and those above the last one's key are left
pub record IsRead (rows built : Rows) (last : Option Key) (count : ℕ) : Type 0 where
  pub split : rows ≡ built ++ rows_above last rows
  pub counted : count ≡ length built

pub IsRead-none : (rows : Rows) → IsRead rows [] None 0
IsRead-none rows = record { split = sym (rows_above-all rows); counted = refl }

pub IsNext-read : (rows built : Rows) (last : Option Key) (count : ℕ) (row : Key × Row) → T (is_sorted bytes_cmp rows) → row_above last rows ≡ Some row → IsRead rows built last count → IsNext rows built row
IsNext-read rows built last count row rises is read = record { rest = rows_above (Some row.0) rows; split = read.split ∙ ap (λ (l : Rows). built ++ l) (rows_above-next last rows row rises is) }

pub IsRead-next : (rows built : Rows) (last : Option Key) (count : ℕ) (row : Key × Row) → T (is_sorted bytes_cmp rows) → row_above last rows ≡ Some row → IsRead rows built last count
    → IsRead rows (built ++ row ∷ []) (Some row.0) (count + 1)
IsRead-next rows built last count row rises is read = record {
  split = read.split ∙ ap (λ (l : Rows). built ++ l) (rows_above-next last rows row rises is) ∙ sym (append_assoc built (row ∷ []) (rows_above (Some row.0) rows));
  counted = omega (arith, read.counted, length-append built (row ∷ []));
}

pub IsRead-all : (rows built : Rows) (last : Option Key) (count : ℕ) → row_above last rows ≡ None → IsRead rows built last count → built ≡ rows
IsRead-all rows built last count is read = sym (append-nil built) ∙ ap (λ (l : Rows). built ++ l) (sym (rows_above-none last rows is)) ∙ sym read.split

-- no more than there are
pub IsRead-few : (rows built : Rows) (last : Option Key) (count most : ℕ) → length rows < most → most ≤ count → IsRead rows built last count → ⊥
IsRead-few rows built last count most few many read = omega (arith, few, many, read.counted, ap length read.split, length-append built (rows_above last rows))
