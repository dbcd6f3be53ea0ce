-- The plain database: relations under their names, rows under their record keys.
use Rattle.std.specs.Prelude.{ℕ, not, List, [], Option, Some, None}
use Rattle.std.specs.List.{filter_map}
use Rattle.std.specs.Str.{bytes_eq}
use Rattle.std.specs.FinMap.Entries.{put, find, where_key}
use Rattle.sb_value.specs.declared.value.Value.{Value}
use Rattle.sb_value.specs.declared.schema.Kind.TheVariants as kind
use Rattle.sb_value.specs.declared.schema.Column.{Column}
use Rattle.sb_value.specs.Order.{bytes_cmp}
use Rattle.sb_value.specs.Code.{ordered_code}
use Rattle.sb_pred.specs.Columns.{column_value}
use Rattle.sb_rule.specs.declared.rule.Rule.{Rule}
pub use Rattle.sb_rule.specs.Rows.{Name, Row}

abbrev pub Key : Type 0
Key = List ℕ

-- rows under their record keys, in the order of the keys
abbrev pub Rows : Type 0
Rows = List (Key × Row)

-- an instance of an attachment, under its name, with the buckets that a hash index has
pub record Attached : Type 0 where
  pub name : Name
  pub rule : Rule
  pub buckets : ℕ

-- a relation with its attachments in call order: by code, and within a code as they were attached
pub record Relation : Type 0 where
  pub method : ℕ
  pub schema : List Column
  pub key : List Name
  pub rows : Rows
  pub attachments : List Attached

-- relations under their names, in the order of the names
abbrev pub Db : Type 0
Db = List (Name × Relation)

abbrev pub relation_at : Db → Name → Option Relation
relation_at db name = find bytes_cmp name db

abbrev pub with_relation : Db → Name → Relation → Db
with_relation db name r = put bytes_cmp name r db

abbrev pub row_at : Rows → Key → Option Row
row_at rows key = find bytes_cmp key rows

abbrev pub with_row : Rows → Key → Row → Rows
with_row rows key row = put bytes_cmp key row rows

abbrev pub without_row : Rows → Key → Rows
without_row rows key = where_key bytes_cmp (λ k. not (bytes_eq k key)) rows

-- the rows and the columns of a relation; none where it isn't there
abbrev pub rows_at : Db → Name → Rows
rows_at db name = elim (relation_at db name) [ None ↦ [] | Some r ↦ r.rows ]

abbrev pub schema_at : Db → Name → List Column
schema_at db name = elim (relation_at db name) [ None ↦ [] | Some r ↦ r.schema ]

-- the database with other rows in a relation that is there
abbrev pub with_rows : Db → Name → Rows → Db
with_rows db name rows = elim (relation_at db name) [
  | None ↦ db
  | Some r ↦ with_relation db name (record r { rows = rows })
]

-- the values of a row in the named columns
abbrev pub values_in : List Column → Row → List Name → List Value
values_in schema row names = filter_map (column_value schema (Some row)) names

-- the record key of a row: the ordered code of its key columns
abbrev pub key_of : Relation → Row → Key
key_of r row = ordered_code (values_in r.schema row r.key)

-- the code of the storage method tree
abbrev pub tree : ℕ
tree = 2

abbrev pub int_column : Name → Column
int_column name = record { name = name; kind = kind.Int; limit = 0 }
