-- Rows that a relation may have.
use Rattle.std.specs.Prelude.{◌≡◌, ◌<◌, ◌^◌, ◌==◌, nat_lt, Bool, true, false, not, ◌||◌, ◌&&◌, T, List, length, All}
use Rattle.std.specs.List.{list_any}
use Rattle.std.specs.FinMap.Entries.{is_sorted}
use Rattle.sb_value.specs.declared.schema.Column.{Column}
use Rattle.sb_value.specs.Code.{ordered_code}
use Rattle.sb_value.specs.Fits.{Fits, is_short_enough}
use Rattle.sb_value.specs.Order.{bytes_cmp}
use Rattle.sb_codec.specs.Tuples.{IsTuple, tuple_spelling}
use Rattle.sb_rule.specs.declared.rule.Rule.{Rule}
use Rattle.sb_rule.specs.declared.rule.Rule.TheVariants.{TreeIndex, HashIndex}
use Rattle.sb_relation.specs.Db.{Name, Row, Rows, Relation, values_in, tree}
use Rattle.sb_relation.specs.Keys.{is_record_key}

-- the ordered code of the columns has more than 200 bytes
abbrev pub is_long_code : List Column → List Name → Row → Bool
is_long_code schema columns row = nat_lt 200 (length (ordered_code (values_in schema row columns)))

-- a text is over its column's limit, or the row's spelling has more than 1,000 bytes
abbrev pub is_long_row : List Column → Row → Bool
is_long_row schema row = not (is_short_enough schema row) || nat_lt 1000 (length (tuple_spelling row))

-- the code that an index keeps of the row is too long
abbrev pub is_long_for : List Column → Row → Rule → Bool
is_long_for schema row (TreeIndex columns unique) = is_long_code schema columns row
is_long_for schema row (HashIndex columns) = is_long_code schema columns row
is_long_for schema row _ = false

-- a row that a relation refuses as too long: in itself, or in the code that a tree or an index keeps of it
abbrev pub is_too_long : Relation → Row → Bool
is_too_long r row =
    is_long_row r.schema row || (r.method == tree && is_long_code r.schema r.key row) || list_any (λ a. is_long_for r.schema row a.rule) r.attachments

-- a row of these columns: values that can be stored, each of its column's kind, none too long
pub record IsRow (schema : List Column) (row : Row) : Type 0 where
  pub tuple : IsTuple row
  pub fits : Fits schema row
  pub short : is_long_row schema row ≡ false

-- rows under rising record keys, fewer than 2 to the 48th
pub record AreRows (schema : List Column) (rows : Rows) : Type 0 where
  pub rising : T (is_sorted bytes_cmp rows)
  pub keys : All (λ row. is_record_key row.0 ≡ true) rows
  pub each : All (λ row. IsRow schema row.1) rows
  pub few : length rows < 2 ^ 48
