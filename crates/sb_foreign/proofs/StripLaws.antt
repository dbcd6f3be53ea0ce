-- The rows of a strip, and what its calls answer.
use Rattle.std.proofs.Common.{◌≡◌, ℕ, zero, suc, ◌+◌, ◌<◌, ◌≤◌, ◌==◌, nat_lt, Bool, true, false, true≢false, cond, not, ◌&&◌, T, List, [], ◌∷◌, ◌++◌, length, take, drop, get_or, All, Option, Some, None, IfSome, is_none, is_some, refl, sym, ap, subst, ◌∙◌, arith, nat_cmp, Ordering, Less, Equal, Greater, pos, w64, length-take, one-add, add-one}
use Rattle.std.specs.Prelude.{FitsSigned}
use Rattle.std.specs.List.{list_all, take_while, prefix_len, find as first}
use Rattle.std.specs.FinMap.Entries.{by_order, below_all, is_sorted}
use Rattle.std.specs.Ordering.{is_lt, is_eq, ordering_then}
use Rattle.std.proofs.lemmas.Bool.{and_parts}
use Rattle.std.proofs.lemmas.Bool.Decides.{nat_tests}
use Rattle.std.proofs.lemmas.List.Elements.{All-nil, All-cons}
use Rattle.std.proofs.lemmas.List.{drop_more}
use Rattle.std.proofs.Math.ListN.{drop_of_length-le}
use Rattle.std.proofs.lemmas.Option.{same_Some}
use Rattle.sb_value.specs.declared.value.Value.TheVariants.{Int}
use Rattle.sb_value.specs.declared.schema.Kind.{Kind}
use Rattle.sb_value.specs.declared.schema.Kind.TheVariants as kind
use Rattle.sb_value.specs.declared.schema.Column.{Column}
use Rattle.sb_value.specs.Fits.{is_of_kind}
use Rattle.sb_value.specs.Order.{bytes_cmp}
use Rattle.sb_value.specs.Spelling.{IsStorable}
use Rattle.sb_relation.specs.Db.{Key, Row, Rows, row_at, with_row}
use Rattle.sb_relation.specs.Keys.{is_record_key}
use Rattle.sb_relation.specs.Lawful.{IsRow, AreRows}
use Rattle.sb_forms.specs.Pages.{Pages, zeros, new_pages}
use Rattle.sb_ctx.specs.declared.instance.Instance.{Instance}
use Rattle.sb_ctx.specs.declared.calls.MethodCall.TheVariants as call
use Rattle.sb_ctx.specs.declared.calls.MethodCall.{MethodCall}
use Rattle.sb_ctx.specs.declared.moves.Move.{Move}
use Rattle.sb_ctx.specs.declared.moves.Move.TheVariants as move
use Rattle.sb_ctx.specs.Laws.{IsMethod, HoldRows}
use Rattle.sb_ctx.specs.Sized.{IsCtx}
use Rattle.sb_ctx.specs.MethodAnswers.{Changes, Looks, Holds, Before, IsIdleIfRefused, NextIs, IsRowOf, Spends, is_above, row_above}
use Rattle.sb_bytes.specs.Bytes.{splice}
use Rattle.sb_ctx.specs.View.{View, page_of, room_of, dropped, with_page, HoldsPart, stored}
use Rattle.sb_ctx.proofs.BoundLaws.{IsBoundless, Spends-boundless, Changes-idle, Changes-memory, page_count-few}
use Rattle.sb_ctx.proofs.ViewLaws.{dropped-with_page, given-page, stored-same, room_of-page}
use Rattle.sb_foreign.specs.Strips.{row_in, rows_from, strip_of, is_byte, is_strip, is_int, is_numbers, strip, free_place, IsPlaced}

-- ---- keys of one byte
one_byte : (a b : ℕ) → bytes_cmp (a ∷ []) (b ∷ []) ≡ nat_cmp a b
one_byte a b = by (nat_cmp a b)
  where
    by : (o : Ordering) → ordering_then o Equal ≡ o
    by Less = refl
    by Equal = refl
    by Greater = refl

below : (a b : ℕ) → a < b → bytes_cmp (a ∷ []) (b ∷ []) ≡ Less
below a b less = one_byte a b ∙ ap (λ t. cond t Less (cond (a == b) Equal Greater)) (test a b less)
  where
    test : (a b : ℕ) → a < b → nat_lt a b ≡ true
    test a b less = grind (arith, nat_tests)

above : (a b : ℕ) → b < a → bytes_cmp (a ∷ []) (b ∷ []) ≡ Greater
above a b less = one_byte a b ∙ ap (λ t. cond t Less (cond (a == b) Equal Greater)) (not_less a b less) ∙ ap (λ t. cond t Equal Greater) (not_same a b less)
  where
    not_less : (a b : ℕ) → b < a → nat_lt a b ≡ false
    not_less a b less = grind (arith, nat_tests)

    not_same : (a b : ℕ) → b < a → a == b ≡ false
    not_same a b less = grind (arith, nat_tests)

-- ---- rows
below_all-rows : (n m : ℕ) (bytes : List ℕ) → n < m → T (below_all bytes_cmp (n ∷ []) (rows_from m bytes))
below_all-rows n m [] less = tt
below_all-rows n m (byte ∷ bytes) less =
    let rest = below_all-rows n (suc m) bytes (omega arith) in
    elim (byte == 0) as (λ t. T (below_all bytes_cmp (n ∷ []) (cond t [] ((m ∷ [], Int (pos byte) ∷ []) ∷ []) ++ rows_from (suc m) bytes))) [
      | true ↦ rest
      | false ↦ subst (λ o. T (is_lt o && below_all bytes_cmp (n ∷ []) (rows_from (suc m) bytes))) (sym (below n m less)) rest
    ]

sorted-rows : (n : ℕ) (bytes : List ℕ) → T (is_sorted bytes_cmp (rows_from n bytes))
sorted-rows n [] = tt
sorted-rows n (byte ∷ bytes) =
    let rest = sorted-rows (suc n) bytes in
    elim (byte == 0) as (λ t. T (is_sorted bytes_cmp (cond t [] ((n ∷ [], Int (pos byte) ∷ []) ∷ []) ++ rows_from (suc n) bytes))) [
      | true ↦ rest
      | false ↦ both (below_all bytes_cmp (n ∷ []) (rows_from (suc n) bytes)) (is_sorted bytes_cmp (rows_from (suc n) bytes)) (below_all-rows n (suc n) bytes (omega arith)) rest
    ]
  where
    both : (a b : Bool) → T a → T b → T (a && b)
    both true b p q = q
    both false b p q = p

length-rows : (n : ℕ) (bytes : List ℕ) → length (rows_from n bytes) ≤ length bytes
length-rows n [] = omega arith
length-rows n (byte ∷ bytes) =
    let rest = length-rows (suc n) bytes in
    elim (byte == 0) as (λ t. length (cond t [] ((n ∷ [], Int (pos byte) ∷ []) ∷ []) ++ rows_from (suc n) bytes) ≤ suc (length bytes)) [ true ↦ omega arith | false ↦ omega arith ]

keys-rows : (n : ℕ) (bytes : List ℕ) → All (λ row. is_record_key row.0 ≡ true) (rows_from n bytes)
keys-rows n [] = All-nil (λ row. is_record_key row.0 ≡ true)
keys-rows n (byte ∷ bytes) =
    let rest = keys-rows (suc n) bytes in
    elim (byte == 0) as (λ t. All (λ row. is_record_key row.0 ≡ true) (cond t [] ((n ∷ [], Int (pos byte) ∷ []) ∷ []) ++ rows_from (suc n) bytes)) [
      | true ↦ rest
      | false ↦ All-cons (λ row. is_record_key row.0 ≡ true) (n ∷ [], Int (pos byte) ∷ []) (rows_from (suc n) bytes) refl rest
    ]

int_column : (k : Kind) → is_int k ≡ true → k ≡ kind.Int
int_column kind.Int is = refl
int_column kind.Text is = absurd (true≢false (sym is))

pub IsRow-byte : (schema : List Column) (byte : ℕ) → is_numbers schema ≡ true → is_byte byte ≡ true → IsRow schema (Int (pos byte) ∷ [])
IsRow-byte [] byte is small = absurd (true≢false (sym is))
IsRow-byte (c ∷ d ∷ schema) byte is small = absurd (true≢false (sym is))
IsRow-byte (c ∷ []) byte is small = record {
  tuple = record { some = omega arith; few = omega arith; storable = All-cons IsStorable (Int (pos byte)) [] (fits byte small) (All-nil IsStorable) };
  fits = ap (λ (k : Kind). cond (is_of_kind k (Int (pos byte))) None (Some 0)) (int_column c.kind is);
  short = refl;
}
  where
    less : (byte : ℕ) → is_byte byte ≡ true → byte < 256
    less byte small = grind (arith, nat_tests)

    fits : (byte : ℕ) → is_byte byte ≡ true → FitsSigned w64 (pos byte)
    fits byte small = let small : byte < 256 = less byte small in omega arith

each-row : (schema : List Column) (n : ℕ) (bytes : List ℕ) → is_numbers schema ≡ true → list_all is_byte bytes ≡ true → All (λ row. IsRow schema row.1) (rows_from n bytes)
each-row schema n [] is all = All-nil (λ row. IsRow schema row.1)
each-row schema n (byte ∷ bytes) is all =
    let parts = and_parts (is_byte byte) (list_all is_byte bytes) all in
    let rest = each-row schema (suc n) bytes is parts.1 in
    elim (byte == 0) as (λ t. All (λ row. IsRow schema row.1) (cond t [] ((n ∷ [], Int (pos byte) ∷ []) ∷ []) ++ rows_from (suc n) bytes)) [
      | true ↦ rest
      | false ↦ All-cons (λ row. IsRow schema row.1) (n ∷ [], Int (pos byte) ∷ []) (rows_from (suc n) bytes) (IsRow-byte schema byte is parts.0) rest
    ]

-- ---- formed pages
pub record IsFormed (inst : Instance) (P : Pages) (rows : Rows) : Type 0 where
  pub numbers : is_numbers inst.schema ≡ true
  pub bytes : is_strip (strip_of (P inst.root)) ≡ true
  pub those : rows ≡ rows_from 0 (strip_of (P inst.root))

pub IsFormed-held : (inst : Instance) (P : Pages) (rows : Rows) → Holds strip inst P rows → IsFormed inst P rows
IsFormed-held inst P rows holds = by (is_numbers inst.schema) (is_strip (strip_of (P inst.root))) refl refl holds
  where
    by : (a b : Bool) → is_numbers inst.schema ≡ a → is_strip (strip_of (P inst.root)) ≡ b → cond (a && b) (Some (rows_from 0 (strip_of (P inst.root)))) None ≡ Some rows → IsFormed inst P rows
    by true true numbers bytes is = record { numbers = numbers; bytes = bytes; those = sym (same_Some (rows_from 0 (strip_of (P inst.root))) rows is) }
    by true false numbers bytes is = cc
    by false b numbers bytes is = cc

pub Holds-formed : (inst : Instance) (P : Pages) → is_numbers inst.schema ≡ true → is_strip (strip_of (P inst.root)) ≡ true → Holds strip inst P (rows_from 0 (strip_of (P inst.root)))
Holds-formed inst P numbers bytes = ap (λ t. cond (t && is_strip (strip_of (P inst.root))) (Some (rows_from 0 (strip_of (P inst.root)))) None) numbers ∙ ap (λ t. cond t (Some (rows_from 0 (strip_of (P inst.root)))) None) bytes

pub IsMethod-strip : IsMethod strip
IsMethod-strip = record { heap = λ is. cc; tree = λ is. cc; standard = λ ours. record { bound = λ rows. omega (arith, ours); prepares = λ rows. omega (arith, ours) }; formed = λ inst P rows holds. kept inst P rows (IsFormed-held inst P rows holds) }
  where
    few : (a b : ℕ) → a ≤ b → b == 100 ≡ true → a < 281474976710656
    few a b least is = grind (arith, nat_tests)

    lawful : (inst : Instance) (P : Pages) (rows : Rows) → IsFormed inst P rows → AreRows inst.schema rows
    lawful inst P rows formed =
        let bytes = strip_of (P inst.root) in
        let parts = and_parts (length bytes == 100) (list_all is_byte bytes) formed.bytes in
        subst (AreRows inst.schema) (sym formed.those) (record {
          rising = sorted-rows 0 bytes;
          keys = keys-rows 0 bytes;
          each = each-row inst.schema 0 bytes formed.numbers parts.1;
          few = few (length (rows_from 0 bytes)) (length bytes) (length-rows 0 bytes) parts.0;
        })

    no_strip : (page : List ℕ) → is_strip (strip_of page) ≡ true → page ≡ [] → ⊥
    no_strip page is none = true≢false (sym is ∙ ap (λ (l : List ℕ). is_strip (strip_of l)) none)

    kept : (inst : Instance) (P : Pages) (rows : Rows) → IsFormed inst P rows → HoldRows strip inst P rows
    kept inst P rows formed = record {
      lawful = lawful inst P rows formed;
      root = no_strip (P inst.root) formed.bytes;
      bound = λ are. omega (arith, page_count-few P);
      whole = λ held n some. refl;
    }

-- ---- calls that leave all as it is
pub boundless_strip : IsBoundless strip
boundless_strip = record { bound = λ rows. refl; cost = λ c rows. refl; path = λ inst P c n. refl; picks = refl }

spending : (inst : Instance) (c : MethodCall) (old new : View) (made : Move) → IsIdleIfRefused new made → dropped new ≡ old → IsCtx new → (P : Pages) → HoldsPart old P → (rows : Rows) → Before strip inst c P rows → Spends strip inst c P rows new made
spending inst c old new made idle given ctx P part rows before = Spends-boundless strip inst c P rows old new made boundless_strip idle given ctx part

-- nothing was written
pub Changes-unwritten : (inst : Instance) (c : MethodCall) (old new : View) → dropped old ≡ old → new ≡ old → Changes strip inst c old new move.NoMemory
Changes-unwritten inst c old new clean is = subst (λ (v : View). Changes strip inst c old v move.NoMemory) (sym is) (Changes-memory strip inst c old boundless_strip clean)

-- ---- a new instance
strip-zeros : is_strip (strip_of zeros) ≡ true
unfolding zeros
strip-zeros = refl

none-zeros : rows_from 0 (strip_of zeros) ≡ []
unfolding zeros
none-zeros = refl

pub Holds-new : (inst : Instance) (P : Pages) → is_numbers inst.schema ≡ true → P inst.root ≡ new_pages inst.root inst.root → Holds strip inst P []
Holds-new inst P numbers new =
    let root : P inst.root ≡ zeros = new ∙ ap (λ t. cond t zeros []) (same inst.root) in
    ap (λ t. cond (t && is_strip (strip_of (P inst.root))) (Some (rows_from 0 (strip_of (P inst.root)))) None) numbers
    ∙ ap (λ (page : List ℕ). cond (is_strip (strip_of page)) (Some (rows_from 0 (strip_of page))) None) root
    ∙ ap (λ t. cond t (Some (rows_from 0 (strip_of zeros))) None) strip-zeros
    ∙ ap Some none-zeros
  where
    same : (n : ℕ) → n == n ≡ true
    same n = grind (arith, nat_tests)

pub Changes-prepared : (inst : Instance) (old : View) → dropped old ≡ old → is_numbers inst.schema ≡ true → Changes strip inst call.Prepare old old move.Done
Changes-prepared inst old clean numbers = Changes-idle strip inst call.Prepare old move.Done boundless_strip clean tt tt tt (λ P part new. Holds-new inst P numbers (new inst.root))

-- ---- a byte that is written
abbrev put_byte : ℕ → ℕ → List ℕ → List ℕ
put_byte place byte [] = []
put_byte zero byte (b ∷ bytes) = byte ∷ bytes
put_byte (suc place) byte (b ∷ bytes) = b ∷ put_byte place byte bytes

splice-put : (place byte : ℕ) (page : List ℕ) → place < length page → splice place (byte ∷ []) page ≡ put_byte place byte page
splice-put place byte [] less = absurd (omega (arith, less))
splice-put zero byte (b ∷ page) less = refl
splice-put (suc place) byte (b ∷ page) less =
    let later : suc place + 1 ≡ suc (place + 1) = omega arith in
    ap (λ n. (take (suc place) (b ∷ page) ++ byte ∷ []) ++ drop n (b ∷ page)) later ∙ ap (λ l. b ∷ l) (splice-put place byte page (omega arith))

take-put : (n place byte : ℕ) (page : List ℕ) → place < n → take n (put_byte place byte page) ≡ put_byte place byte (take n page)
take-put zero place byte page less = absurd (omega (arith, less))
take-put (suc n) place byte [] less = refl
take-put (suc n) zero byte (b ∷ page) less = refl
take-put (suc n) (suc place) byte (b ∷ page) less = ap (λ l. b ∷ l) (take-put n place byte page (omega arith))

length-put_byte : (place byte : ℕ) (bytes : List ℕ) → length (put_byte place byte bytes) ≡ length bytes
length-put_byte place byte [] = refl
length-put_byte zero byte (b ∷ bytes) = refl
length-put_byte (suc place) byte (b ∷ bytes) = ap suc (length-put_byte place byte bytes)

bytes-put : (place byte : ℕ) (bytes : List ℕ) → is_byte byte ≡ true → list_all is_byte bytes ≡ true → list_all is_byte (put_byte place byte bytes) ≡ true
bytes-put place byte [] small all = refl
bytes-put zero byte (b ∷ bytes) small all = ap (λ t. t && list_all is_byte bytes) small ∙ (and_parts (is_byte b) (list_all is_byte bytes) all).1
bytes-put (suc place) byte (b ∷ bytes) small all =
    let parts = and_parts (is_byte b) (list_all is_byte bytes) all in ap (λ t. t && list_all is_byte (put_byte place byte bytes)) parts.0 ∙ bytes-put place byte bytes small parts.1

is_strip-put : (place byte : ℕ) (bytes : List ℕ) → is_byte byte ≡ true → is_strip bytes ≡ true → is_strip (put_byte place byte bytes) ≡ true
is_strip-put place byte bytes small is =
    let parts = and_parts (length bytes == 100) (list_all is_byte bytes) is in
    ap (λ n. (n == 100) && list_all is_byte (put_byte place byte bytes)) (length-put_byte place byte bytes) ∙ ap (λ t. t && list_all is_byte (put_byte place byte bytes)) parts.0 ∙ bytes-put place byte bytes small parts.1

-- ---- a row more
put_front : (n m : ℕ) (row : Row) (bytes : List ℕ) → n < m → with_row (rows_from m bytes) (n ∷ []) row ≡ (n ∷ [], row) ∷ rows_from m bytes
put_front n m row [] less = refl
put_front n m row (byte ∷ bytes) less =
    let rest = put_front n (suc m) row bytes (omega arith) in
    elim (byte == 0) as (λ t. with_row (cond t [] ((m ∷ [], Int (pos byte) ∷ []) ∷ []) ++ rows_from (suc m) bytes) (n ∷ []) row ≡ (n ∷ [], row) ∷ (cond t [] ((m ∷ [], Int (pos byte) ∷ []) ∷ []) ++ rows_from (suc m) bytes)) [
      | true ↦ rest
      | false ↦ ap (λ o. by_order o ((n ∷ [], row) ∷ (m ∷ [], Int (pos byte) ∷ []) ∷ rows_from (suc m) bytes) ((m ∷ [], row) ∷ rows_from (suc m) bytes) ((m ∷ [], Int (pos byte) ∷ []) ∷ with_row (rows_from (suc m) bytes) (n ∷ []) row)) (below n m less)
    ]

with_row-rows : (n place byte : ℕ) (bytes : List ℕ) → place ≡ n + free_place bytes → free_place bytes < length bytes → byte == 0 ≡ false
    → with_row (rows_from n bytes) (place ∷ []) (Int (pos byte) ∷ []) ≡ rows_from n (put_byte (free_place bytes) byte bytes)
with_row-rows n place byte [] is free some = absurd (omega (arith, free))
with_row-rows n place byte (b ∷ bytes) is free some =
    elim (b == 0) as (λ t. (place ≡ n + cond t 0 (suc (free_place bytes))) → (cond t 0 (suc (free_place bytes)) < suc (length bytes)) → (t ≡ false → b == 0 ≡ false)
    → with_row (cond t [] ((n ∷ [], Int (pos b) ∷ []) ∷ []) ++ rows_from (suc n) bytes) (place ∷ []) (Int (pos byte) ∷ []) ≡ rows_from n (put_byte (cond t 0 (suc (free_place bytes))) byte (b ∷ bytes))) [
      | true ↦ λ at less taken. ap (λ k. with_row (rows_from (suc n) bytes) (k ∷ []) (Int (pos byte) ∷ [])) (let e : place ≡ n = omega (arith, at) in e) ∙ put_front n (suc n) (Int (pos byte) ∷ []) bytes (omega arith)
          ∙ sym (ap (λ t. cond t [] ((n ∷ [], Int (pos byte) ∷ []) ∷ []) ++ rows_from (suc n) bytes) some)
      | false ↦ λ at less taken.
          ap (λ o. by_order o ((place ∷ [], Int (pos byte) ∷ []) ∷ (n ∷ [], Int (pos b) ∷ []) ∷ rows_from (suc n) bytes) ((n ∷ [], Int (pos byte) ∷ []) ∷ rows_from (suc n) bytes) ((n ∷ [], Int (pos b) ∷ []) ∷ with_row (rows_from (suc n) bytes) (place ∷ []) (Int (pos byte) ∷ []))) (above place n (omega (arith, at)))
          ∙ ap (λ (rows : Rows). (n ∷ [], Int (pos b) ∷ []) ∷ rows) (with_row-rows (suc n) place byte bytes (omega (arith, at)) (omega (arith, less)) some)
          ∙ sym (ap (λ t. cond t [] ((n ∷ [], Int (pos b) ∷ []) ∷ []) ++ rows_from (suc n) (put_byte (free_place bytes) byte bytes)) (taken refl))
    ] is free (λ e. e)

-- no row has the key of a free place
none_below : (n m : ℕ) (bytes : List ℕ) → n < m → row_at (rows_from m bytes) (n ∷ []) ≡ None
none_below n m [] less = refl
none_below n m (byte ∷ bytes) less =
    let rest = none_below n (suc m) bytes (omega arith) in
    elim (byte == 0) as (λ t. row_at (cond t [] ((m ∷ [], Int (pos byte) ∷ []) ∷ []) ++ rows_from (suc m) bytes) (n ∷ []) ≡ None) [
      | true ↦ rest
      | false ↦ ap (λ o. cond (is_eq o) (Some (Int (pos byte) ∷ [])) (row_at (rows_from (suc m) bytes) (n ∷ []))) (below n m less) ∙ rest
    ]

none_free : (n place : ℕ) (bytes : List ℕ) → place ≡ n + free_place bytes → row_at (rows_from n bytes) (place ∷ []) ≡ None
none_free n place [] is = refl
none_free n place (b ∷ bytes) is =
    elim (b == 0) as (λ t. (place ≡ n + cond t 0 (suc (free_place bytes))) → row_at (cond t [] ((n ∷ [], Int (pos b) ∷ []) ∷ []) ++ rows_from (suc n) bytes) (place ∷ []) ≡ None) [
      | true ↦ λ at. none_below place (suc n) bytes (omega (arith, at))
      | false ↦ λ at. ap (λ o. cond (is_eq o) (Some (Int (pos b) ∷ [])) (row_at (rows_from (suc n) bytes) (place ∷ []))) (above place n (omega (arith, at))) ∙ none_free (suc n) place bytes (omega (arith, at))
    ] is

strip-after : (place byte : ℕ) (page : List ℕ) → place < length (strip_of page) → strip_of (splice place (byte ∷ []) page) ≡ put_byte place byte (strip_of page)
strip-after place byte page within =
    let long = length-take 100 page in ap strip_of (splice-put place byte page (omega (arith, long, within))) ∙ take-put 100 place byte page (omega (arith, long, within))

pub Changes-inserted : (inst : Instance) (row : Row) (old new : View) (page : List ℕ) (key : Key) (place byte : ℕ) → dropped old ≡ old → page_of old inst.root ≡ Some page →
    place ≡ free_place (strip_of page) → place < length (strip_of page) → key ≡ place ∷ [] → 0 < byte → byte < 256 → row ≡ Int (pos byte) ∷ [] →
    IfSome (page_of old inst.root) (λ page. new ≡ with_page inst.root (splice place (byte ∷ []) page) old) → Changes strip inst (call.Insert row) old new (move.Key key)
Changes-inserted inst row old new page key place byte clean held free within is_key positive small is_row made = record {
  given = given;
  asks = tt;
  broken = tt;
  ends = ap is_record_key is_key;
  spends = spending inst (call.Insert row) old new (move.Key key) tt given;
  answers = λ P part rows holds.
      let formed = IsFormed-held inst P rows holds in
      let at_root : P inst.root ≡ page = given-page old P inst.root page clean part held in
      let bytes : is_strip (strip_of page) ≡ true = ap (λ (l : List ℕ). is_strip (strip_of l)) (sym at_root) ∙ formed.bytes in
      let those : rows ≡ rows_from 0 (strip_of page) = formed.those ∙ ap (λ (l : List ℕ). rows_from 0 (strip_of l)) at_root in
      let after : strip_of (stored new P inst.root) ≡ put_byte place byte (strip_of page) =
      ap (λ (v : View). strip_of (stored v P inst.root)) now ∙ ap strip_of (stored-same old P inst.root (splice place (byte ∷ []) page) (ap is_some held)) ∙ strip-after place byte page within in (
        ap (λ (k : Key). is_record_key k && is_none (row_at rows k)) is_key ∙ ap (λ (r : Rows). is_none (row_at r (place ∷ []))) those ∙ ap is_none (none_free 0 place (strip_of page) (omega (arith, free))),
        subst (Holds strip inst (stored new P))
            (ap (rows_from 0) after ∙ ap (λ n. rows_from 0 (put_byte n byte (strip_of page))) free
            ∙ sym (with_row-rows 0 place byte (strip_of page) (omega (arith, free)) (subst (λ n. n < length (strip_of page)) free within) (taken byte positive))
            ∙ sym (λ i. with_row (those i) (is_key i) (is_row i)))
            (Holds-formed inst (stored new P) formed.numbers (ap is_strip after ∙ is_strip-put place byte (strip_of page) (less byte small) bytes)),
      );
}
  where
    less : (byte : ℕ) → byte < 256 → is_byte byte ≡ true
    less byte small = grind (arith, nat_tests)

    taken : (byte : ℕ) → 0 < byte → byte == 0 ≡ false
    taken byte positive = grind (arith, nat_tests)

    now : new ≡ with_page inst.root (splice place (byte ∷ []) page) old
    now = by (page_of old inst.root) held made
      where
        by : (o : Option (List ℕ)) → o ≡ Some page → IfSome o (λ page. new ≡ with_page inst.root (splice place (byte ∷ []) page) old) → new ≡ with_page inst.root (splice place (byte ∷ []) page) old
        by None is made = cc
        by (Some l) is made = made ∙ ap (λ (l : List ℕ). with_page inst.root (splice place (byte ∷ []) l) old) (same_Some l page is)

    given : dropped new ≡ old
    given = ap dropped now ∙ dropped-with_page old inst.root (splice place (byte ∷ []) page) ∙ clean

-- ---- the first place, as it is counted
pub free_place-counted : (bytes : List ℕ) → length (take_while (λ byte. not (byte == 0)) bytes) ≡ free_place bytes
free_place-counted [] = refl
free_place-counted (b ∷ bytes) =
    let rest = free_place-counted bytes in
    elim (b == 0) as (λ t. length (take (cond (not t) (1 + prefix_len (λ byte. not (byte == 0)) bytes) 0) (b ∷ bytes)) ≡ cond t 0 (suc (free_place bytes))) [
      | true ↦ refl
      | false ↦ ap (λ n. length (take n (b ∷ bytes))) (one-add (prefix_len (λ byte. not (byte == 0)) bytes)) ∙ ap suc rest
    ]

pub room-strip : (c : View) (n place : ℕ) (page : List ℕ) → page_of c n ≡ Some page → place < length (strip_of page) → place + 1 ≤ room_of c n
room-strip c n place page held within = omega (arith, room_of-page c n page held, length-take 100 page)

-- ---- the row above a key
first_of_two : {X : Type 0} (p : X → Bool) (xs ys : List X) (o : Option X) → first p xs ≡ o → first p (xs ++ ys) ≡ elim o [ Some x ↦ Some x | None ↦ first p ys ]
first_of_two p [] ys None is = refl
first_of_two p [] ys (Some x) is = cc
first_of_two {X = X} p (x ∷ xs) ys o is =
    elim (p x) as (λ t. cond t (Some x) (first p xs) ≡ o → cond t (Some x) (first p (xs ++ ys)) ≡ elim o [ Some x ↦ Some x | None ↦ first p ys ]) [
      | true ↦ λ here. ap (λ (q : Option X). elim q [ Some x ↦ Some x | None ↦ first p ys ]) here
      | false ↦ λ there. first_of_two p xs ys o there
    ] is

rows-drop : (bytes : List ℕ) (place byte : ℕ) → place < length bytes → byte ≡ get_or bytes place 0 → rows_from place (drop place bytes) ≡ row_in place byte ++ rows_from (place + 1) (drop (place + 1) bytes)
rows-drop bytes place byte less is =
    ap (rows_from place) (drop_more bytes place 0 less) ∙ ap (λ b. row_in place b ++ rows_from (suc place) (drop (place + 1) bytes)) (sym is) ∙ ap (λ n. row_in place byte ++ rows_from n (drop (place + 1) bytes)) (sym (add-one place))

-- it is in this place
pub row_above-here : (low : Option Key) (bytes : List ℕ) (place byte : ℕ) (row : Key × Row) → place < length bytes → byte ≡ get_or bytes place 0 → Some row ≡ row_above low (row_in place byte)
    → row_above low (rows_from 0 bytes) ≡ row_above low (rows_from place (drop place bytes)) → Some row ≡ row_above low (rows_from 0 bytes)
row_above-here low bytes place byte row less is here so_far =
    sym (so_far ∙ ap (row_above low) (rows-drop bytes place byte less is) ∙ first_of_two (λ r. is_above low r.0) (row_in place byte) (rows_from (place + 1) (drop (place + 1) bytes)) (Some row) (sym here))

-- it is behind this place
pub row_above-behind : (low : Option Key) (bytes : List ℕ) (place byte : ℕ) → place < length bytes → byte ≡ get_or bytes place 0 → None ≡ row_above low (row_in place byte)
    → row_above low (rows_from 0 bytes) ≡ row_above low (rows_from place (drop place bytes)) → row_above low (rows_from 0 bytes) ≡ row_above low (rows_from (place + 1) (drop (place + 1) bytes))
row_above-behind low bytes place byte less is here so_far =
    so_far ∙ ap (row_above low) (rows-drop bytes place byte less is) ∙ first_of_two (λ r. is_above low r.0) (row_in place byte) (rows_from (place + 1) (drop (place + 1) bytes)) None (sym here)

-- there is none
pub row_above-none : (low : Option Key) (bytes : List ℕ) (place : ℕ) → length bytes ≤ place → row_above low (rows_from 0 bytes) ≡ row_above low (rows_from place (drop place bytes)) → None ≡ row_above low (rows_from 0 bytes)
row_above-none low bytes place all so_far = sym (so_far ∙ ap (λ (l : List ℕ). row_above low (rows_from place l)) (drop_of_length-le bytes all))

-- what is held of the root, where rows are held
those_held : (inst : Instance) (old : View) (P : Pages) (page bytes : List ℕ) (rows : Rows) → dropped old ≡ old → HoldsPart old P → page_of old inst.root ≡ Some page → bytes ≡ strip_of page → Holds strip inst P rows → rows ≡ rows_from 0 bytes
those_held inst old P page bytes rows clean part held is holds = (IsFormed-held inst P rows holds).those ∙ ap (λ (l : List ℕ). rows_from 0 (strip_of l)) (given-page old P inst.root page clean part held) ∙ ap (rows_from 0) (sym is)

-- a row of a strip is one that the relation may have
row_of : (inst : Instance) (key : Key) (row : Row) → is_numbers inst.schema ≡ true → IsPlaced (key, row) → IsRowOf inst key row
row_of inst key row numbers placed = subst (λ (r : Key × Row). IsRowOf inst r.0 r.1) (sym placed.is) (record { is_key = refl; is_row = IsRow-byte inst.schema placed.byte numbers (small placed.byte placed.small) })
  where
    small : (byte : ℕ) → byte < 256 → is_byte byte ≡ true
    small byte less = grind (arith, nat_tests)

pub Looks-row : (inst : Instance) (low : Option Key) (old : View) (page bytes : List ℕ) (key : Key) (row : Row) → dropped old ≡ old → page_of old inst.root ≡ Some page → bytes ≡ strip_of page → is_numbers inst.schema ≡ true → IsPlaced (key, row) → Some (key, row) ≡ row_above low (rows_from 0 bytes) → Looks strip inst (call.Next low) old old (move.Row key row)
Looks-row inst low old page bytes key row clean held is numbers placed found = record {
  same = refl;
  reads = tt;
  asks = tt;
  broken = tt;
  ends = row_of inst key row numbers placed;
  path = λ P part rows holds. tt;
  answers = λ P part rows holds. subst (λ (o : Option (Key × Row)). NextIs o (move.Row key row)) (found ∙ ap (row_above low) (sym (those_held inst old P page bytes rows clean part held is holds))) refl;
}

pub Looks-end : (inst : Instance) (low : Option Key) (old : View) (page bytes : List ℕ) → dropped old ≡ old → page_of old inst.root ≡ Some page → bytes ≡ strip_of page → None ≡ row_above low (rows_from 0 bytes) → Looks strip inst (call.Next low) old old move.End
Looks-end inst low old page bytes clean held is found = record {
  same = refl;
  reads = tt;
  asks = tt;
  broken = tt;
  ends = tt;
  path = λ P part rows holds. tt;
  answers = λ P part rows holds. subst (λ (o : Option (Key × Row)). NextIs o move.End) (found ∙ ap (row_above low) (sym (those_held inst old P page bytes rows clean part held is holds))) refl;
}
