-- Rows as entries of a tree.
use Rattle.std.proofs.Common.{◌≡◌, ℕ, true, false, ◌&&◌, List, None, ap, sym, ◌∙◌, true≢false}
use Rattle.std.specs.Str.{bytes_eq}
use Rattle.std.proofs.lemmas.Bool.{and_parts, false_from_ne_true}
use Rattle.sb_value.specs.declared.schema.Column.{Column}
use Rattle.sb_value.specs.Code.{ordered_code}
use Rattle.sb_value.specs.Equal.{bytes_same}
use Rattle.sb_codec.specs.Tuples.{tuple_spelling}
use Rattle.sb_relation.specs.Db.{Name, Row, values_in}
use Rattle.sb_relation.specs.Keys.{is_record_key}
use Rattle.sb_relation.specs.Lawful.{IsRow}
use Rattle.sb_node.specs.Entries.{Entry}
use Rattle.sb_forms.specs.Stored.{row_in, is_row_in, IsRowFrom}
use Rattle.sb_forms.specs.TreePages.{is_row_entry}
use Rattle.sb_forms.proofs.RowBytes.{row_of_bytes, bytes_of_row}
use Rattle.sb_forms.proofs.Spelled.{row_in-spelling}

-- ---- an entry that is a row
pub record RowEntry (schema : List Column) (key : List Name) (e : Entry) : Type 0 where
  pub value_is : e.1 ≡ tuple_spelling (row_in e.1)
  pub is_row : IsRow schema (row_in e.1)
  pub key_is : e.0 ≡ ordered_code (values_in schema (row_in e.1) key)
  pub is_key : is_record_key e.0 ≡ true

pub row_entry : (schema : List Column) (key : List Name) (e : Entry) → is_row_entry schema key e ≡ true → RowEntry schema key e
row_entry schema key e is =
    let h = bytes_eq (ordered_code (values_in schema (row_in e.1) key)) e.0 in
    let three = and_parts (is_row_in schema e.1 && h) (is_record_key e.0) is in
    let two = and_parts (is_row_in schema e.1) h three.0 in
    let row = row_of_bytes schema e.1 two.0 in
    record {
      value_is = row.value_is;
      is_row = row.is_row;
      key_is = sym ((bytes_same (ordered_code (values_in schema (row_in e.1) key)) e.0).0 two.1);
      is_key = three.1;
    }

pub row_read : {schema : List Column} (row : Row) (bytes : List ℕ) → IsRow schema row → bytes ≡ tuple_spelling row → row_in bytes ≡ row
row_read row bytes is spelled = ap row_in spelled ∙ row_in-spelling row is.tuple

-- a row under its code is one
pub entry_of_row : (schema : List Column) (key : List Name) (row : Row) (e : Entry) → IsRow schema row → e.0 ≡ ordered_code (values_in schema row key) → e.1 ≡ tuple_spelling row → is_record_key e.0 ≡ true
    → is_row_entry schema key e ≡ true
entry_of_row schema key row e is key_is value_is short =
    let read = row_read row e.1 is value_is in
    λ i. bytes_of_row schema row e.1 is value_is i
    && (bytes_same (ordered_code (values_in schema (row_in e.1) key)) e.0).1 (sym (key_is ∙ ap (λ (r : Row). ordered_code (values_in schema r key)) (sym read))) i && short i

-- ---- an entry that is none
-- its value spells no row
pub misspelled_entry : (schema : List Column) (key : List Name) (e : Entry) → IsRowFrom schema e.1 None → is_row_entry schema key e ≡ false
misspelled_entry schema key e none = false_from_ne_true (is_row_entry schema key e) (λ is. let row = row_entry schema key e is in none (row_in e.1) row.is_row row.value_is)

-- its row has another key
pub misplaced_entry : (schema : List Column) (key : List Name) (row : Row) (e : Entry) → IsRow schema row → e.1 ≡ tuple_spelling row → bytes_eq (ordered_code (values_in schema row key)) e.0 ≡ false → is_row_entry schema key e ≡ false
misplaced_entry schema key row e is value_is other =
    false_from_ne_true (is_row_entry schema key e)
    (λ is_entry.
    let same = (row_entry schema key e is_entry).key_is ∙ ap (λ (r : Row). ordered_code (values_in schema r key)) (row_read row e.1 is value_is) in
    true≢false (sym ((bytes_same (ordered_code (values_in schema row key)) e.0).1 (sym same)) ∙ other))
