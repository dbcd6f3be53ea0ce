-- Rows above a key, read one after the other.
use Rattle.std.proofs.Common.{◌≡◌, Bool, true, false, cond, List, [], ◌∷◌, ◌++◌, map, Option, Some, None, T, ℕ, ◌+◌, ◌<◌, ◌≤◌, length, take, All, arith, length-append, refl, sym, ap, subst, ◌∙◌, append_assoc, append-nil, is_lt, Ordering, Less, Equal, Greater}
use Rattle.std.specs.List.{filter}
use Rattle.std.proofs.lemmas.List.{take-append-le, take_all}
use Rattle.std.proofs.lemmas.List.Elements.{All-append, All-cons, All-nil}
use Rattle.std.specs.Ordering.{ordering_reverse}
use Rattle.std.specs.FinMap.Entries.{is_sorted, below_all}
use Rattle.std.proofs.lemmas.Cmp.{nat_list_cmp_total, tied_itself}
use Rattle.sb_value.specs.Order.{bytes_cmp}
use Rattle.sb_value.proofs.Truths.{T-parts, is_lt-less, T-less}
use Rattle.sb_relation.specs.Db.{Key, Row, Rows}
use Rattle.sb_treemethod.specs.MethodAnswers.{is_above, row_above}
use Rattle.sb_rows.specs.Scans.{rows_above}

-- ---- rows above a key
pub rows_above-all : (rows : Rows) → rows_above None rows ≡ rows
rows_above-all [] = refl
rows_above-all (x ∷ rows) = ap (λ (ys : Rows). x ∷ ys) (rows_above-all rows)

-- all of those that stand above a key that is above the low one
rows_above-low : (low : Option Key) (key : Key) (rows : Rows) → is_above low key ≡ true → T (below_all bytes_cmp key rows) → rows_above low rows ≡ rows
rows_above-low None key rows up below = rows_above-all rows
rows_above-low (Some low) key [] up below = refl
rows_above-low (Some low) key (y ∷ rows) up below =
    let both = T-parts (is_lt (bytes_cmp key y.0)) (below_all bytes_cmp key rows) below in
    let over = nat_list_cmp_total.trans low key y.0 (is_lt-less (bytes_cmp low key) up) (T-less (bytes_cmp key y.0) both.0) in
    ap (λ o. cond (is_lt o) (y ∷ rows_above (Some low) rows) (rows_above (Some low) rows)) over ∙ ap (λ (ys : Rows). y ∷ ys) (rows_above-low (Some low) key rows up both.1)

rows_above-behind : (key : Key) (rows : Rows) → T (below_all bytes_cmp key rows) → rows_above (Some key) rows ≡ rows
rows_above-behind key [] below = refl
rows_above-behind key (y ∷ rows) below =
    let both = T-parts (is_lt (bytes_cmp key y.0)) (below_all bytes_cmp key rows) below in
    ap (λ o. cond (is_lt o) (y ∷ rows_above (Some key) rows) (rows_above (Some key) rows)) (T-less (bytes_cmp key y.0) both.0) ∙ ap (λ (ys : Rows). y ∷ ys) (rows_above-behind key rows both.1)

-- a row whose key isn't above falls away
rows_above-not : (key : Key) (x : Key × Row) (rows : Rows) (o : Ordering) → bytes_cmp key x.0 ≡ o → is_lt o ≡ false → rows_above (Some key) (x ∷ rows) ≡ rows_above (Some key) rows
rows_above-not key x rows o is lt = ap (λ b. cond b (x ∷ rows_above (Some key) rows) (rows_above (Some key) rows)) (ap is_lt is ∙ lt)

same_row : (a b : Key × Row) → Some a ≡ Some b → a ≡ b
same_row a b e = cc

-- a key below all rows is below the one that is found
below-found : (key : Key) (low : Option Key) (rows : Rows) (row : Key × Row) → T (below_all bytes_cmp key rows) → row_above low rows ≡ Some row → bytes_cmp key row.0 ≡ Less
below-found key low [] row below is = cc
below-found key low (y ∷ rows) row below is =
    let both = T-parts (is_lt (bytes_cmp key y.0)) (below_all bytes_cmp key rows) below in
    by (is_above low y.0) is (T-less (bytes_cmp key y.0) both.0) (below-found key low rows row both.1)
  where
    by : (b : Bool) → cond b (Some y) (row_above low rows) ≡ Some row → bytes_cmp key y.0 ≡ Less → (row_above low rows ≡ Some row → bytes_cmp key row.0 ≡ Less) → bytes_cmp key row.0 ≡ Less
    by true is first rest = subst (λ (r : Key × Row). bytes_cmp key r.0 ≡ Less) (same_row y row is) first
    by false is first rest = rest is

-- of rising rows, those above a key are the first one and those above that one's key
pub rows_above-next : (low : Option Key) (rows : Rows) (row : Key × Row) → T (is_sorted bytes_cmp rows) → row_above low rows ≡ Some row → rows_above low rows ≡ row ∷ rows_above (Some row.0) rows
rows_above-next low [] row rises is = cc
rows_above-next low (x ∷ rows) row rises is =
    let both = T-parts (below_all bytes_cmp x.0 rows) (is_sorted bytes_cmp rows) rises in
    by (is_above low x.0) refl is both.0 (rows_above-next low rows row both.1)
  where
    by : (b : Bool) → is_above low x.0 ≡ b → cond b (Some x) (row_above low rows) ≡ Some row → T (below_all bytes_cmp x.0 rows) →
        (row_above low rows ≡ Some row → rows_above low rows ≡ row ∷ rows_above (Some row.0) rows) →
        cond b (x ∷ rows_above low rows) (rows_above low rows) ≡ row ∷ rows_above (Some row.0) (x ∷ rows)
    by true up is below rest =
        subst (λ (r : Key × Row). x ∷ rows_above low rows ≡ r ∷ rows_above (Some r.0) (x ∷ rows)) (same_row x row is)
        (ap (λ (ys : Rows). x ∷ ys) (rows_above-low low x.0 rows up below ∙ sym (rows_above-behind x.0 rows below)
        ∙ sym (rows_above-not x.0 x rows Equal (tied_itself nat_list_cmp_total x.0) refl)))
    by false up is below rest =
        rest is
        ∙ ap (λ (ys : Rows). row ∷ ys) (sym (rows_above-not row.0 x rows Greater (nat_list_cmp_total.antisymm row.0 x.0 ∙ ap ordering_reverse (below-found x.0 low rows row below is)) refl))

pub rows_above-none : (low : Option Key) (rows : Rows) → row_above low rows ≡ None → rows_above low rows ≡ []
rows_above-none low [] is = refl
rows_above-none low (x ∷ rows) is = by (is_above low x.0) is (rows_above-none low rows)
  where
    by : (b : Bool) → cond b (Some x) (row_above low rows) ≡ None → (row_above low rows ≡ None → rows_above low rows ≡ []) → cond b (x ∷ rows_above low rows) (rows_above low rows) ≡ []
    by true is rest = cc
    by false is rest = rest is

-- a row that is found is above
pub is_above-found : (low : Option Key) (rows : Rows) (row : Key × Row) → row_above low rows ≡ Some row → is_above low row.0 ≡ true
is_above-found low [] row is = cc
is_above-found low (x ∷ rows) row is = by (is_above low x.0) refl is (is_above-found low rows row)
  where
    by : (b : Bool) → is_above low x.0 ≡ b → cond b (Some x) (row_above low rows) ≡ Some row → (row_above low rows ≡ Some row → is_above low row.0 ≡ true) → is_above low row.0 ≡ true
    by true up is rest = ap (λ (r : Key × Row). is_above low r.0) (sym (same_row x row is)) ∙ up
    by false up is rest = rest is

-- ---- what is made of the rows that pass
abbrev pub passing : {A : Type 0} → (Key × Row → A) → (Row → Bool) → Rows → List A
passing make passes rows = map make (filter (λ row. passes row.1) rows)

-- So many rows were read, and this was made of those that pass: with what is made of the others it is made of all above the low key.
pub record IsMade {A : Type 0} (make : Key × Row → A) (passes : Row → Bool) (rows : Rows) (low last : Option Key) (count : ℕ) (made : List A) : Type 0 where
  pub rest : made ++ passing make passes (rows_above last rows) ≡ passing make passes (rows_above low rows)
  pub few : count + length (rows_above last rows) ≤ length (rows_above low rows)

pub IsMade-none : {A : Type 0} (make : Key × Row → A) (passes : Row → Bool) (rows : Rows) (low : Option Key) (made : List A) → made ≡ [] → IsMade make passes rows low low 0 made
IsMade-none make passes rows low made none = record {
  rest = ap (λ (xs : List _). xs ++ passing make passes (rows_above low rows)) none;
  few = omega arith;
}

one_more : {A : Type 0} (made rest : List A) (x : A) (b : Bool) → (made ++ cond b (x ∷ []) []) ++ rest ≡ made ++ cond b (x ∷ rest) rest
one_more made rest x true = append_assoc made (x ∷ []) rest
one_more made rest x false = ap (λ (xs : List _). xs ++ rest) (append-nil made)

passing-next : {A : Type 0} (make : Key × Row → A) (passes : Row → Bool) (row : Key × Row) (rows : Rows) (b : Bool) → passes row.1 ≡ b → passing make passes (row ∷ rows) ≡ cond b (make row ∷ passing make passes rows) (passing make passes rows)
passing-next make passes row rows true is = ap (λ b. map make (cond b (row ∷ filter (λ r. passes r.1) rows) (filter (λ r. passes r.1) rows))) is
passing-next make passes row rows false is = ap (λ b. map make (cond b (row ∷ filter (λ r. passes r.1) rows) (filter (λ r. passes r.1) rows))) is

pub IsMade-next : {A : Type 0} (make : Key × Row → A) (passes : Row → Bool) (rows : Rows) (low last : Option Key) (count : ℕ) (made new : List A) (row : Key × Row) (b : Bool) → T (is_sorted bytes_cmp rows) →
    row_above last rows ≡ Some row → b ≡ passes row.1 → new ≡ made ++ cond b (make row ∷ []) [] → IsMade make passes rows low last count made → IsMade make passes rows low (Some row.0) (count + 1) new
IsMade-next make passes rows low last count made new row b rises is says more before =
    let next = rows_above-next last rows row rises is in
    let rest = passing make passes (rows_above (Some row.0) rows) in
    record {
      rest = ap (λ (xs : List _). xs ++ rest) more ∙ one_more made rest (make row) b
          ∙ ap (λ (xs : List _). made ++ xs) (sym (passing-next make passes row (rows_above (Some row.0) rows) b (sym says)) ∙ ap (passing make passes) (sym next))
          ∙ before.rest;
      few = omega (arith, before.few, ap length next);
    }

pub IsMade-all : {A : Type 0} (make : Key × Row → A) (passes : Row → Bool) (rows : Rows) (low last : Option Key) (count : ℕ) (made : List A) →
    row_above last rows ≡ None → IsMade make passes rows low last count made → made ≡ passing make passes (rows_above low rows)
IsMade-all make passes rows low last count made is before =
    sym (append-nil made) ∙ ap (λ (ys : Rows). made ++ passing make passes ys) (sym (rows_above-none last rows is)) ∙ before.rest

length-rows_above : (low : Option Key) (rows : Rows) → length (rows_above low rows) ≤ length rows
length-rows_above low [] = omega arith
length-rows_above low (x ∷ rows) = by (is_above low x.0) (length-rows_above low rows)
  where
    by : (b : Bool) → length (rows_above low rows) ≤ length rows → length (cond b (x ∷ rows_above low rows) (rows_above low rows)) ≤ length (x ∷ rows)
    by true rest = omega (arith, rest)
    by false rest = omega (arith, rest)

-- no more rows are read than there are
pub IsMade-few : {A : Type 0} (make : Key × Row → A) (passes : Row → Bool) (rows : Rows) (low last : Option Key) (count most : ℕ) (made : List A) →
    length rows < most → most ≤ count → IsMade make passes rows low last count made → ⊥
IsMade-few make passes rows low last count most made few many before = omega (arith, few, many, before.few, length-rows_above low rows)

pub map-same : (rows : Rows) → map (λ (row : Key × Row). row) rows ≡ rows
map-same [] = refl
map-same (x ∷ rows) = ap (λ (ys : Rows). x ∷ ys) (map-same rows)

-- ---- what is added
pub All-more : {A : Type 0} (P : A → Type 0) (made new : List A) (x : A) (b : Bool) → new ≡ made ++ cond b (x ∷ []) [] → All P made → P x → All P new
All-more {A} P made new x b more all is = subst (λ (xs : List A). All P xs) (sym more) (All-append P made (cond b (x ∷ []) []) all (one b))
  where
    one : (b : Bool) → All P (cond b (x ∷ []) [])
    one true = All-cons P x [] is (All-nil P)
    one false = All-nil P

pub length-more : {A : Type 0} (made new : List A) (x : A) (b : Bool) (limit : ℕ) → new ≡ made ++ cond b (x ∷ []) [] → length made ≤ limit → (length made ≡ limit → ⊥) → length new ≤ limit
length-more made new x b limit more within other = omega (arith, ap length more, length-append made (cond b (x ∷ []) []), few b, within, other)
  where
    few : (b : Bool) → length (cond b (x ∷ []) []) ≤ 1
    few true = omega arith
    few false = omega arith

-- ---- the first rows that pass
-- as many as are wanted
pub IsMade-limit : (passes : Row → Bool) (rows : Rows) (low last : Option Key) (count limit : ℕ) (made : Rows) → length made ≡ limit → IsMade (λ row. row) passes rows low last count made →
    made ≡ take limit (filter (λ row. passes row.1) (rows_above low rows))
IsMade-limit passes rows low last count limit made many before =
    let rest = passing (λ row. row) passes (rows_above last rows) in
    sym (take_all limit made (omega (arith, many)))
    ∙ sym (take-append-le limit made rest (omega (arith, many)))
    ∙ ap (take limit) (before.rest ∙ map-same (filter (λ row. passes row.1) (rows_above low rows)))

-- or all of them
pub IsMade-end : (passes : Row → Bool) (rows : Rows) (low last : Option Key) (count limit : ℕ) (made : Rows) → length made ≤ limit → row_above last rows ≡ None → IsMade (λ row. row) passes rows low last count made →
    made ≡ take limit (filter (λ row. passes row.1) (rows_above low rows))
IsMade-end passes rows low last count limit made within is before =
    sym (take_all limit made within) ∙ ap (take limit) (IsMade-all (λ row. row) passes rows low last count made is before ∙ map-same (filter (λ row. passes row.1) (rows_above low rows)))
