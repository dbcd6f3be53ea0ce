-- The rows of a relation in the pages of a tree: record keys with the spellings of their rows.
use Rattle.std.specs.Prelude.{ℕ, nat_lt, Bool, cond, ◌&&◌, List, map, Option, Some, None}
use Rattle.std.specs.List.{list_all}
use Rattle.std.specs.Str.{bytes_eq}
use Rattle.sb_value.specs.declared.schema.Column.{Column}
use Rattle.sb_value.specs.Code.{ordered_code}
use Rattle.sb_relation.specs.Db.{Name, Rows, values_in}
use Rattle.sb_relation.specs.Keys.{is_record_key}
use Rattle.sb_node.specs.Entries.{Entry}
use Rattle.sb_forms.specs.Pages.{Pages, page_numbers}
use Rattle.sb_forms.specs.Stored.{row_in, is_row_in}
use Rattle.sb_forms.specs.Tree.{nodes, met, level_of}
use Rattle.sb_forms.specs.Read.{has, read_tree}

-- ---- entries that are rows
-- the value is the spelling of a row that fits the columns, under the ordered code of its key columns
abbrev pub is_row_entry : List Column → List Name → Entry → Bool
is_row_entry schema key e = is_row_in schema e.1 && bytes_eq (ordered_code (values_in schema (row_in e.1) key)) e.0 && is_record_key e.0

abbrev pub rows_of : List Entry → Rows
rows_of es = map (λ e. (e.0, row_in e.1)) es

-- ---- the pages of an instance
-- the pages that the tree at a root meets
abbrev pub tree_met : ℕ → Pages → List ℕ
tree_met root P = met (level_of (nodes P root)) (nodes P) root

-- the tree meets each page of the instance, and no number that no page has
abbrev pub is_all : ℕ → Pages → Bool
is_all root P = list_all (λ n. has n (tree_met root P)) (page_numbers P) && list_all (λ n. nat_lt n 65536) (tree_met root P)

abbrev pub if_rows : List Column → List Name → Bool → Option (List Entry) → Option Rows
if_rows schema key all None = None
if_rows schema key all (Some es) = cond (all && list_all (is_row_entry schema key) es) (Some (rows_of es)) None

-- the rows of these pages, where they are a tree of rows that meets them all
abbrev pub tree_rows : ℕ → List Column → List Name → Pages → Option Rows
tree_rows root schema key P = if_rows schema key (is_all root P) (read_tree root P)
