-- What commands answer that only read.
use Rattle.std.specs.Prelude.{ℕ, Bool, ◌&&◌, List, [], ◌∷◌, map, filter, take, Option, Some, None, option_map}
use Rattle.std.specs.List.{filter_map}
use Rattle.std.specs.Ordering.{is_lt, is_le}
use Rattle.sb_value.specs.Code.{ordered_code}
use Rattle.sb_value.specs.Order.{bytes_cmp}
use Rattle.sb_rule.specs.declared.rule.Rule.TheVariants.{TreeIndex, HashIndex}
use Rattle.sb_relation.specs.declared.image.Image.{Image}
use Rattle.sb_relation.specs.Db.{Name, Key, Row, Rows, Attached, Db, relation_at, rows_at, schema_at, row_at}
use Rattle.sb_relation.specs.Images.{no_image, index_entries, image}
use Rattle.sb_relation.specs.Rules.{has_values}
use Rattle.sb_fold.specs.declared.refusal.Refusal.TheVariants.{NoRecord}
use Rattle.sb_fold.specs.Building.{rule_at}
use Rattle.sb_fold.specs.Extensions.{Extensions, box_of}
use Rattle.sb_plain.specs.declared.command.Command.{Command}
use Rattle.sb_plain.specs.declared.command.Command.TheVariants as command
use Rattle.sb_plain.specs.declared.reply.Reply.{Reply}
use Rattle.sb_plain.specs.declared.reply.Reply.TheVariants as reply
use Rattle.sb_plain.specs.Printing.{shown}

abbrev pub row_reply : Name → Key → Option Row → Reply
row_reply relation key None = reply.Refused (NoRecord relation)
row_reply relation key (Some row) = reply.Rows ((key, row) ∷ [])

-- the rows behind a record key
abbrev pub rows_after : Option Key → Rows → Rows
rows_after None rows = rows
rows_after (Some key) rows = filter (λ row. is_lt (bytes_cmp key row.0)) rows

abbrev pub at_most : {A : Type 0} → Option ℕ → List A → List A
at_most None items = items
at_most (Some n) items = take n items

-- the columns of an index
abbrev pub index_columns : Option Attached → List Name
index_columns None = []
index_columns (Some a) = elim a.rule [ TreeIndex columns unique ↦ columns | HashIndex columns ↦ columns | _ ↦ [] ]

-- the rows with these values in the columns, in the order of their record keys
abbrev pub looked_up : Db → Name → List Name → Row → Rows
looked_up db relation columns values = filter (λ row. has_values (schema_at db relation) columns values row.1) (rows_at db relation)

-- the rows whose ordered code of the columns isn't below the one nor above the other, in the order of the code and of the record key
abbrev pub is_between : Row → Row → Key → Bool
is_between low high code = is_le (bytes_cmp (ordered_code low) code) && is_le (bytes_cmp code (ordered_code high))

abbrev pub rows_between : Db → Name → List Name → Row → Row → Rows
rows_between db relation columns low high =
    filter_map (λ entry. option_map (λ row. (entry.1, row)) (row_at (rows_at db relation) entry.1))
    (filter (λ entry. is_between low high entry.0) (index_entries (schema_at db relation) columns (rows_at db relation)))

abbrev pub image_at : Extensions → Db → Name → Option Attached → Image
image_at ext db relation None = no_image
image_at ext db relation (Some a) = image (box_of ext a.rule) db relation a.rule

-- over the database that the command sees
abbrev pub read : Extensions → Db → Command → Option Reply
read ext db (command.Get relation at) = Some (row_reply relation at (row_at (rows_at db relation) at))
read ext db (command.Scan relation after limit) = Some (reply.Rows (at_most limit (rows_after after (rows_at db relation))))
read ext db (command.Lookup relation name values) = Some (reply.Rows (looked_up db relation (index_columns (rule_at db relation name)) values))
read ext db (command.Range relation name low high) = Some (reply.Rows (rows_between db relation (index_columns (rule_at db relation name)) low high))
read ext db (command.Entries relation name) = Some (reply.Entries (image_at ext db relation (rule_at db relation name)))
read ext db (command.Show relation) = Some (reply.Lines (shown relation (relation_at db relation)))
read ext db command.Tables = Some (reply.Lines (map (λ e. e.0) db))
read ext db _ = None
