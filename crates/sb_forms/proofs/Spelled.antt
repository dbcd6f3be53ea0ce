-- What the spelling of a row is read as.
use Rattle.std.proofs.Common.{◌≡◌, ℕ, zero, suc, ◌+◌, ◌/◌, ◌%◌, ◌^◌, ◌<◌, ◌==◌, nat_le, Bool, true, false, cond, ◌&&◌, List, [], ◌∷◌, ◌++◌, length, get_or, take, drop, drop-drop, refl, ap, sym, ◌∙◌, subst, arith, ℤ, FitsSigned}
use Rattle.std.specs.List.{list_all, flat_map, AllByRecursion}
use Rattle.std.specs.Int.{to_be_bytes, from_be_bytes, cast_signed, cast_unsigned, w64}
use Rattle.std.specs.Str.{is_utf8}
use Rattle.std.proofs.lemmas.Bool.{and_parts, leb-true, le-leb}
use Rattle.std.proofs.lemmas.Int.{ints, to_z-of_z}
use Rattle.std.proofs.lemmas.Nat.{from_be_bytes-to_be_bytes_8}
use Rattle.std.proofs.lemmas.Str.{IsUtf8-from_is_utf8, is_utf8-from_IsUtf8}
use Rattle.std.proofs.lemmas.List.{take_at, drop_at}
use Rattle.std.proofs.lemmas.List.Elements.{recursion_from_All}
use Rattle.sb_value.specs.declared.value.Value.{Value}
use Rattle.sb_value.specs.declared.value.Value.TheVariants.{Int, Text}
use Rattle.sb_value.specs.Spelling.{value_spelling, IsStorable}
use Rattle.sb_codec.specs.Tuples.{IsTuple, tuple_spelling}
use Rattle.sb_codec.proofs.Numbers.{cast_unsigned-below}
use Rattle.sb_relation.specs.Db.{Row}
use Rattle.sb_forms.specs.Stored.{values_from, row_in, is_stored_text}

-- ---- values that were written are read
number_read : (z : ℤ) → FitsSigned w64 z → cast_signed w64 (from_be_bytes w64 (to_be_bytes w64 (cast_unsigned w64 z))) ≡ z
number_read z fits = ap (cast_signed w64) (from_be_bytes-to_be_bytes_8 (cast_unsigned w64 z) (cast_unsigned-below z fits)) ∙ to_z-of_z w64 z fits

values_read : (vs : List Value) → AllByRecursion IsStorable vs → values_from (length vs) (flat_map value_spelling vs) ≡ vs
values_read [] good = refl
values_read (Int z ∷ vs) good = (λ i. Int (number_read z good.0 i) ∷ values_read vs good.1 i)
values_read (Text s ∷ vs) good =
    let rest = flat_map value_spelling vs in
    let bytes = 2 ∷ length s ∷ s ++ rest in
    ap (λ m. Text (take (length s) (s ++ rest)) ∷ values_from (length vs) (drop m bytes)) (two (length s))
    ∙ (λ i. Text (take_at s rest (length s) refl i) ∷ values_from (length vs) (drop_at s rest (length s) refl i)) ∙ ap (λ (l : List Value). Text s ∷ l) (values_read vs good.1)
  where
    two : (n : ℕ) → 2 + n ≡ suc (suc n)
    two n = omega arith

pub row_in-spelling : (row : Row) → IsTuple row → row_in (tuple_spelling row) ≡ row
row_in-spelling row is = values_read row (recursion_from_All IsStorable row is.storable)

-- ---- values that are read can be stored, where their spelling is what was read
byte_below : (m : ℕ) → m % 256 < 256
byte_below m = omega arith

bytes_below : (m : ℕ) → from_be_bytes w64 (to_be_bytes w64 m) < 2 ^ 64
bytes_below m =
    omega (arith, byte_below m, byte_below (m / 256 ^ 1), byte_below (m / 256 ^ 2), byte_below (m / 256 ^ 3), byte_below (m / 256 ^ 4), byte_below (m / 256 ^ 5), byte_below (m / 256 ^ 6), byte_below (m / 256 ^ 7))

number_fits : (m : ℕ) → m < 2 ^ 64 → FitsSigned w64 (cast_signed w64 m)
number_fits m less = omega (arith, ints)

cut : (a b : ℕ) (x y : List ℕ) → a ∷ x ≡ b ∷ y → x ≡ y
cut a b x y same = cc

-- the number in these bytes fits, where they are its spelling
number_stored : (x y : List ℕ) → value_spelling (Int (cast_signed w64 (from_be_bytes w64 (take 8 x)))) ++ y ≡ 1 ∷ x → FitsSigned w64 (cast_signed w64 (from_be_bytes w64 (take 8 x)))
number_stored x y same =
    let z = cast_signed w64 (from_be_bytes w64 (take 8 x)) in
    let front : take 8 x ≡ to_be_bytes w64 (cast_unsigned w64 z) = sym (ap (take 8) (cut 1 1 (to_be_bytes w64 (cast_unsigned w64 z) ++ y) x same)) in
    number_fits (from_be_bytes w64 (take 8 x)) (subst (λ (l : List ℕ). from_be_bytes w64 l < 2 ^ 64) (sym front) (bytes_below (cast_unsigned w64 z)))

-- all values that are read are storable
values_stored : (n : ℕ) (bytes : List ℕ) → flat_map value_spelling (values_from n bytes) ≡ bytes → list_all is_stored_text (values_from n bytes) ≡ true → AllByRecursion IsStorable (values_from n bytes)
values_stored zero bytes same texts = tt
values_stored (suc n) bytes same texts = elim (get_or bytes 0 0 == 1) as (λ t. Goal t) [
  | true ↦ λ same texts. (of_number bytes same, values_stored n (drop 9 bytes) (rest_of_number bytes same) texts)
  | false ↦ λ same texts.
      let parts = and_parts (is_stored_text text) (list_all is_stored_text (values_from n (drop (2 + len) bytes))) texts in
      let good = and_parts (is_utf8 (take len (drop 2 bytes))) (nat_le (length (take len (drop 2 bytes))) 255) parts.0 in
      ((IsUtf8-from_is_utf8 (take len (drop 2 bytes)) good.0, leb-true (length (take len (drop 2 bytes))) 255 good.1), values_stored n (drop (2 + len) bytes) (rest_of_text same) parts.1)
] same texts
  where
    len : ℕ
    len = get_or bytes 1 0

    number : List ℕ → Value
    number bytes = Int (cast_signed w64 (from_be_bytes w64 (take 8 (drop 1 bytes))))

    text : Value
    text = Text (take len (drop 2 bytes))

    front : Bool → List Value
    front t = cond t (number bytes ∷ values_from n (drop 9 bytes)) (text ∷ values_from n (drop (2 + len) bytes))

    Goal : Bool → Type 0
    Goal t = flat_map value_spelling (front t) ≡ bytes → list_all is_stored_text (front t) ≡ true → AllByRecursion IsStorable (front t)

    of_number : (bytes : List ℕ) → value_spelling (number bytes) ++ flat_map value_spelling (values_from n (drop 9 bytes)) ≡ bytes → IsStorable (number bytes)
    of_number [] same = absurd cc
    of_number (b ∷ x) same = number_stored x (flat_map value_spelling (values_from n (drop 9 (b ∷ x)))) (same ∙ ap (λ c. c ∷ x) (sym (head 1 b (to_be_bytes w64 (cast_unsigned w64 (cast_signed w64 (from_be_bytes w64 (take 8 x)))) ++ flat_map value_spelling (values_from n (drop 9 (b ∷ x)))) x same)))
      where
        head : (a b : ℕ) (x y : List ℕ) → a ∷ x ≡ b ∷ y → a ≡ b
        head a b x y same = cc

    rest_of_number : (bytes : List ℕ) → value_spelling (number bytes) ++ flat_map value_spelling (values_from n (drop 9 bytes)) ≡ bytes → flat_map value_spelling (values_from n (drop 9 bytes)) ≡ drop 9 bytes
    rest_of_number bytes same = ap (drop 9) same

    rest_of_text : value_spelling text ++ flat_map value_spelling (values_from n (drop (2 + len) bytes)) ≡ bytes → flat_map value_spelling (values_from n (drop (2 + len) bytes)) ≡ drop (2 + len) bytes
    rest_of_text same =
        let s = take len (drop 2 bytes) in
        let rest = flat_map value_spelling (values_from n (drop (2 + len) bytes)) in
        let long : length s ≡ len = ap (λ (l : List ℕ). get_or l 1 0) same in
        sym (drop_at s rest len long) ∙ ap (λ (l : List ℕ). drop len (drop 2 l)) same ∙ drop-drop len 2 bytes

pub row_in-stored : (bytes : List ℕ) → tuple_spelling (row_in bytes) ≡ bytes → list_all is_stored_text (row_in bytes) ≡ true → AllByRecursion IsStorable (row_in bytes)
row_in-stored bytes same texts = values_stored (get_or bytes 0 0) (drop 1 bytes) (ap (drop 1) same) texts

-- ---- values that can be stored pass
pub texts_stored : (vs : List Value) → AllByRecursion IsStorable vs → list_all is_stored_text vs ≡ true
texts_stored [] good = refl
texts_stored (Int z ∷ vs) good = texts_stored vs good.1
texts_stored (Text s ∷ vs) good = (λ i. (is_utf8-from_IsUtf8 s good.0.0 i && le-leb (length s) 255 good.0.1 i) && texts_stored vs good.1 i)
