-- What a change makes of a database.
use Rattle.std.specs.Prelude.{Bool, true, map, Some, None}
use Rattle.sb_rule.specs.declared.change.Change.{Change}
use Rattle.sb_rule.specs.declared.change.Change.TheVariants.{Insert, Delete, Update}
use Rattle.sb_relation.specs.Buckets.{grown}
use Rattle.sb_relation.specs.Db.{Name, Key, Row, Rows, Relation, Db, relation_at, with_relation, with_row, without_row}

-- the rows after a change
abbrev pub changed_rows : Rows → Change → Rows
changed_rows rows (Insert key new) = with_row rows key new
changed_rows rows (Delete key old) = without_row rows key
changed_rows rows (Update from old to new) = with_row (without_row rows from) to new

-- a relation after a change that left these rows: its hash indexes may have more buckets
abbrev pub with_change : Relation → Change → Rows → Relation
with_change r change rows = record r { rows = rows; attachments = map (grown change rows) r.attachments }

-- the database after a change of the named relation
abbrev pub changed : Db → Name → Change → Db
changed db name change = elim (relation_at db name) [
  | None ↦ db
  | Some r ↦ with_relation db name (with_change r change (changed_rows r.rows change))
]

-- what holds of a change's new row under its key; a delete has none
abbrev pub of_new : Change → (Key → Row → Bool) → Bool
of_new (Insert key new) holds = holds key new
of_new (Delete key old) holds = true
of_new (Update from old to new) holds = holds to new

-- what holds of a change's old row; an insert has none
abbrev pub of_old : Change → (Row → Bool) → Bool
of_old (Insert key new) holds = true
of_old (Delete key old) holds = holds old
of_old (Update from old to new) holds = holds old
