-- Rows that bytes spell, and bytes that rows are spelled by.
use Rattle.std.proofs.Common.{◌≡◌, ℕ, nat_lt, nat_le, true, not, ◌&&◌, List, length, is_none, ap, sym, ◌∙◌, subst}
use Rattle.std.specs.List.{list_all}
use Rattle.std.specs.Str.{bytes_eq}
use Rattle.std.proofs.lemmas.Bool.{and_parts, ltb-true, lt-ltb, leb-true, le-leb, not-true}
use Rattle.std.proofs.lemmas.List.Elements.{All-from_recursion, recursion_from_All}
use Rattle.sb_value.specs.declared.schema.Column.{Column}
use Rattle.sb_value.specs.Equal.{bytes_same}
use Rattle.sb_value.specs.Fits.{first_misfit}
use Rattle.sb_value.proofs.Truths.{is_none-none}
use Rattle.sb_codec.specs.Tuples.{tuple_spelling}
use Rattle.sb_value.specs.Spelling.{IsStorable}
use Rattle.sb_relation.specs.Db.{Row}
use Rattle.sb_relation.specs.Lawful.{IsRow, is_long_row}
use Rattle.sb_forms.specs.Stored.{row_in, is_stored_text, is_row_in}
use Rattle.sb_forms.proofs.Spelled.{row_in-spelling, row_in-stored, texts_stored}

-- the bytes spell a row of these columns
pub record SpellsRow (schema : List Column) (bytes : List ℕ) : Type 0 where
  pub value_is : bytes ≡ tuple_spelling (row_in bytes)
  pub is_row : IsRow schema (row_in bytes)

pub row_of_bytes : (schema : List Column) (bytes : List ℕ) → is_row_in schema bytes ≡ true → SpellsRow schema bytes
row_of_bytes schema bytes is =
    let row = row_in bytes in
    let a = bytes_eq (tuple_spelling row) bytes in
    let b = nat_lt 0 (length row) in
    let c = nat_le (length row) 16 in
    let d = list_all is_stored_text row in
    let f = is_none (first_misfit schema row) in
    let g = not (is_long_row schema row) in
    let six = and_parts (a && b && c && d && f) g is in
    let five = and_parts (a && b && c && d) f six.0 in
    let four = and_parts (a && b && c) d five.0 in
    let three = and_parts (a && b) c four.0 in
    let two = and_parts a b three.0 in
    let same = (bytes_same (tuple_spelling row) bytes).0 two.0 in
    record {
      value_is = sym same;
      is_row = record {
        tuple = record {
          some = ltb-true 0 (length row) two.1;
          few = leb-true (length row) 16 three.1;
          storable = All-from_recursion IsStorable row (row_in-stored bytes same four.1);
        };
        fits = is_none-none (first_misfit schema row) five.1;
        short = not-true (is_long_row schema row) six.1;
      };
    }

-- the spelling of a row does
pub bytes_of_row : (schema : List Column) (row : Row) (bytes : List ℕ) → IsRow schema row → bytes ≡ tuple_spelling row → is_row_in schema bytes ≡ true
bytes_of_row schema row bytes is value_is =
    let read : row_in bytes ≡ row = ap row_in value_is ∙ row_in-spelling row is.tuple in
    subst (λ (r : Row). (bytes_eq (tuple_spelling r) bytes && nat_lt 0 (length r) && nat_le (length r) 16 && list_all is_stored_text r && is_none (first_misfit schema r) && not (is_long_row schema r)) ≡ true) (sym read)
    (λ i. (bytes_same (tuple_spelling row) bytes).1 (sym value_is) i && lt-ltb 0 (length row) is.tuple.some i && le-leb (length row) 16 is.tuple.few i && texts_stored row (recursion_from_All IsStorable row is.tuple.storable) i
    && is_none (is.fits i) && not (is.short i))
