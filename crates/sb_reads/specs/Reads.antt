-- What commands read, and when they may.
use Rattle.std.specs.Prelude.{◌≡◌, ℕ, ◌^◌, Bool, true, false, Option, Some, None, is_some, option_map}
use Rattle.sb_relation.specs.Db.{Name, Key, Row, Rows, Db, relation_at, row_at, schema_at}
use Rattle.sb_relation.specs.Images.{Entry}
use Rattle.sb_fold.specs.Building.{rule_at}
use Rattle.sb_plain.specs.declared.command.Command.{Command}
use Rattle.sb_plain.specs.declared.command.Command.TheVariants as command
use Rattle.sb_plain.specs.declared.reply.Reply.{Reply}
use Rattle.sb_plain.specs.declared.reply.Reply.TheVariants as reply
use Rattle.sb_fold.specs.declared.refusal.Refusal.TheVariants.{NoRecord}
use Rattle.sb_plain.specs.Refusing.{is_lookup, is_range}

-- the relation whose rows or attachments a command reads
abbrev pub relation_read : Command → Option Name
relation_read (command.Get relation at) = Some relation
relation_read (command.Scan relation after limit) = Some relation
relation_read (command.Lookup relation name values) = Some relation
relation_read (command.Range relation name low high) = Some relation
relation_read (command.Entries relation name) = Some relation
relation_read _ = None

-- a command that only reads: rows, attachments, how a relation was made, or which there are
abbrev pub is_reading : Command → Bool
is_reading (command.Get relation at) = true
is_reading (command.Scan relation after limit) = true
is_reading (command.Lookup relation name values) = true
is_reading (command.Range relation name low high) = true
is_reading (command.Entries relation name) = true
is_reading (command.Show relation) = true
is_reading command.Tables = true
is_reading _ = false

-- a reply to a command that reads: rows, entries, lines, or that no row has the key
abbrev pub IsAnswer : Reply → Type 0
IsAnswer (reply.Rows rows) = Unit {0}
IsAnswer (reply.Entries image) = Unit {0}
IsAnswer (reply.Lines lines) = Unit {0}
IsAnswer (reply.Refused (NoRecord relation)) = Unit {0}
IsAnswer r = ⊥

abbrev pub IsThere : Db → Name → Type 0
IsThere db relation = is_some (relation_at db relation) ≡ true

-- What isn't refused: the relation of a command that reads one, or how it was made, is there, and so is its attachment, which is an index of these
-- kinds where it is read as one.
abbrev pub MayRead : Db → Command → Type 0
MayRead db (command.Get relation at) = IsThere db relation
MayRead db (command.Scan relation after limit) = IsThere db relation
MayRead db (command.Lookup relation name values) = IsThere db relation × (is_lookup (schema_at db relation) (rule_at db relation name) values ≡ true)
MayRead db (command.Range relation name low high) = IsThere db relation × (is_range (schema_at db relation) (rule_at db relation name) low ≡ true)
MayRead db (command.Entries relation name) = IsThere db relation × (is_some (rule_at db relation name) ≡ true)
MayRead db (command.Show relation) = IsThere db relation
MayRead db _ = Unit {0}

-- so many rows, or more than a relation has
abbrev pub most_rows : Option ℕ → ℕ
most_rows None = 2 ^ 48
most_rows (Some n) = n

-- the row of an entry's record key
abbrev pub row_of : Rows → Entry → Option (Key × Row)
row_of rows entry = option_map (λ row. (entry.1, row)) (row_at rows entry.1)
