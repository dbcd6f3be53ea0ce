-- Rows in the bytes of pages.
use Rattle.std.specs.Prelude.{◌≡◌, ℕ, zero, suc, ◌+◌, nat_le, nat_lt, ◌==◌, Bool, true, cond, not, ◌&&◌, List, [], ◌∷◌, length, take, drop, get_or, Option, Some, None, is_none}
use Rattle.std.specs.Int.{from_be_bytes, cast_signed, w64}
use Rattle.std.specs.List.{list_all}
use Rattle.std.specs.Str.{bytes_eq, is_utf8}
use Rattle.sb_value.specs.declared.schema.Column.{Column}
use Rattle.sb_value.specs.declared.value.Value.{Value}
use Rattle.sb_value.specs.declared.value.Value.TheVariants.{Int, Text}
use Rattle.sb_value.specs.Fits.{first_misfit}
use Rattle.sb_codec.specs.Tuples.{tuple_spelling}
use Rattle.sb_relation.specs.Db.{Row}
use Rattle.sb_relation.specs.Lawful.{IsRow, is_long_row}

-- so many values: a number in 8 bytes behind a 1, or a text behind a 2 and its length
abbrev pub values_from : ℕ → List ℕ → List Value
values_from zero bytes = []
values_from (suc n) bytes =
    let len : ℕ = get_or bytes 1 0 in
    cond (get_or bytes 0 0 == 1)
    (Int (cast_signed w64 (from_be_bytes w64 (take 8 (drop 1 bytes)))) ∷ values_from n (drop 9 bytes))
    (Text (take len (drop 2 bytes)) ∷ values_from n (drop (2 + len) bytes))

abbrev pub row_in : List ℕ → Row
row_in bytes = values_from (get_or bytes 0 0) (drop 1 bytes)

abbrev pub is_stored_text : Value → Bool
is_stored_text (Int n) = true
is_stored_text (Text s) = is_utf8 s && nat_le (length s) 255

-- the bytes are the spelling of a row that a relation of these columns may have
abbrev pub is_row_in : List Column → List ℕ → Bool
is_row_in schema bytes =
    let row : Row = row_in bytes in
    bytes_eq (tuple_spelling row) bytes && nat_lt 0 (length row) && nat_le (length row) 16 && list_all is_stored_text row
    && is_none (first_misfit schema row) && not (is_long_row schema row)

-- the row that the bytes spell, where it is one that a relation of these columns may have
abbrev pub IsRowFrom : List Column → List ℕ → Option Row → Type 0
IsRowFrom schema bytes (Some row) = IsRow schema row × (bytes ≡ tuple_spelling row)
IsRowFrom schema bytes None = (row : Row) → IsRow schema row → bytes ≡ tuple_spelling row → ⊥
