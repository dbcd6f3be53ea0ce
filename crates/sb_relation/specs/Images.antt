-- What attachments contain over a database.
use Rattle.std.specs.Prelude.{ℕ, ◌/◌, ◌==◌, Bool, cond, List, [], ◌∷◌, Option, Some, None, map, length, min, filter, ℤ, pos, negsuc, ◌+ℤ◌, ◌-ℤ◌, nat_abs}
use Rattle.std.specs.List.{filter_map, flat_map, fold, count_by, range_with_len}
use Rattle.std.specs.Ordering.{is_lt, ordering_then}
use Rattle.sb_value.specs.declared.value.Value.{Value}
use Rattle.sb_value.specs.declared.value.Value.TheVariants.{Int, Text}
use Rattle.sb_value.specs.declared.schema.Column.{Column}
use Rattle.sb_value.specs.Code.{ordered_code}
use Rattle.sb_value.specs.Order.{bytes_cmp}
use Rattle.sb_pred.specs.Columns.{column_value}
use Rattle.sb_relation.specs.declared.image.Image.{Image}
use Rattle.sb_rule.specs.declared.rule.Side.TheVariants.{Main, Mirror}
use Rattle.sb_rule.specs.declared.rule.Rule.{Rule}
use Rattle.sb_rule.specs.declared.rule.Rule.TheVariants.{TreeIndex, HashIndex, JoinIndex, Stats, Foreign}
use Rattle.sb_relation.specs.Db.{Name, Key, Rows, Db, rows_at, schema_at, values_in}
use Rattle.sb_relation.specs.Foreign.{AttachRules}
use Rattle.sb_relation.specs.Rules.{has_values}

-- two keys, the second one a record key
abbrev pub Entry : Type 0
Entry = Key × Key

abbrev pub no_image : Image
no_image = record { entries = []; sums = [] }

abbrev pub entries_only : List Entry → Image
entries_only entries = record { entries = entries; sums = [] }

-- ---- entries in rising order: by the first key, then by the second
abbrev pub is_before : Entry → Entry → Bool
is_before a b = is_lt (ordering_then (bytes_cmp a.0 b.0) (bytes_cmp a.1 b.1))

abbrev pub with_entry : Entry → List Entry → List Entry
with_entry entry [] = entry ∷ []
with_entry entry (e ∷ entries) = cond (is_before entry e) (entry ∷ e ∷ entries) (e ∷ with_entry entry entries)

abbrev pub rising : List Entry → List Entry
rising [] = []
rising (entry ∷ entries) = with_entry entry (rising entries)

-- of each row the ordered code of the columns, with its record key
abbrev pub index_entries : List Column → List Name → Rows → List Entry
index_entries schema columns rows = rising (map (λ row. (ordered_code (values_in schema row.1 columns), row.0)) rows)

-- the record keys of each two rows whose columns are equal
abbrev pub join_entries : Db → Name → List Name → Name → List Name → List Entry
join_entries db name columns other others =
    flat_map (λ row. map (λ match. (row.0, match.0)) (filter (λ match. has_values (schema_at db other) others (values_in (schema_at db name) row.1 columns) match.1) (rows_at db other)))
    (rows_at db name)

-- ---- sums
abbrev pub int_of : Option Value → Option ℤ
int_of (Some (Int n)) = Some n
int_of (Some (Text s)) = None
int_of None = None

-- the numbers in a column
abbrev pub column_ints : List Column → Name → Rows → List ℤ
column_ints schema column rows = filter_map (λ row. int_of (column_value schema (Some row.1) column)) rows

-- the whole widths above low, taken as 0 below it and as 15 above 15
abbrev pub bucket_at : ℕ → ℤ → ℕ
bucket_at width (pos n) = min 15 (n / width)
bucket_at width (negsuc n) = 0

abbrev pub bucket_of : ℤ → ℤ → ℤ → ℕ
bucket_of low width v = bucket_at (nat_abs width) (v -ℤ low)

-- how many numbers, their sum, and how many are in each of 16 buckets
abbrev pub stats_sums : ℤ → ℤ → List ℤ → List ℤ
stats_sums low width ints =
    pos (length ints) ∷ fold (λ sum v. sum +ℤ v) (pos 0) ints ∷ map (λ b. pos (count_by (λ v. bucket_of low width v == b) ints)) (range_with_len 0 16)

abbrev pub foreign_image : Option AttachRules → List ℕ → List Column → Rows → Image
foreign_image None desc schema rows = no_image
foreign_image (Some box) desc schema rows = box.image desc schema rows

-- the content of an attachment on the named relation; a mirror, a check, a refers and a trigger have none
abbrev pub image : Option AttachRules → Db → Name → Rule → Image
image box db name (TreeIndex columns unique) = entries_only (index_entries (schema_at db name) columns (rows_at db name))
image box db name (HashIndex columns) = entries_only (index_entries (schema_at db name) columns (rows_at db name))
image box db name (JoinIndex Main columns other others) = entries_only (join_entries db name columns other others)
image box db name (Stats column low width) = record { entries = []; sums = stats_sums low width (column_ints (schema_at db name) column (rows_at db name)) }
image box db name (Foreign code desc) = foreign_image box desc (schema_at db name) (rows_at db name)
image box db name _ = no_image

-- the content of the pages that an attachment works on: a join index's mirror has none of its own, and uses the main side's
abbrev pub page_image : Option AttachRules → Db → Name → Rule → Image
page_image box db name (JoinIndex Mirror columns other others) = entries_only (join_entries db other others name columns)
page_image box db name rule = image box db name rule
