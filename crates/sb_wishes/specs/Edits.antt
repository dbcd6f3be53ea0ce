-- Edits of one row, and what the storage method makes of them.
use Rattle.std.specs.Prelude.{◌≡◌, Bool, true, false, List, Option, Some, None, Result, Ok, Err, ℤ}
use Rattle.sb_value.specs.declared.schema.Column.{Column}
use Rattle.sb_value.specs.Fits.{Fits}
use Rattle.sb_pred.specs.Columns.{column_value}
use Rattle.sb_rule.specs.declared.change.Change.{Change}
use Rattle.sb_rule.specs.declared.change.Change.TheVariants as change
use Rattle.sb_relation.specs.Db.{Name, Key, Row, Rows, Relation, row_at}
use Rattle.sb_relation.specs.Keys.{is_record_key}
use Rattle.sb_fold.specs.declared.refusal.Refusal.{Refusal}
use Rattle.sb_fold.specs.declared.refusal.Refusal.TheVariants.{NoRecord, TooLong, Duplicate, Range}
use Rattle.sb_fold.specs.Outcome.{Work, made, refuse, refuse_if, ◌>>=◌}
use Rattle.sb_fold.specs.Wishes.{Edit, Adds, Takes, Turns, is_long_edit, change_of, raised}
use Rattle.sb_standing.specs.Placing.{Placing}
use Rattle.sb_standing.specs.Placing.TheVariants as placing
use Rattle.sb_wishes.specs.declared.settling.Edit as code
use Rattle.sb_wishes.specs.declared.settling.Edit.TheVariants as code_edit
use Rattle.sb_wishes.specs.declared.settling.Outcome.{Outcome}
use Rattle.sb_wishes.specs.declared.settling.Outcome.TheVariants.{Made, Refused}

-- edits as the definitions have them
abbrev pub edit_in : code.Edit → Edit
edit_in (code_edit.Adds new) = Adds new
edit_in (code_edit.Takes key old) = Takes key old
edit_in (code_edit.Turns key old new) = Turns key old new

-- the work gives an edit, or is refused
abbrev pub GivesEdit : Work Edit → Result code.Edit Refusal → Type 0
GivesEdit work (Ok edit) = work ≡ made (edit_in edit)
GivesEdit work (Err r) = work ≡ refuse r

-- the edit of a row whose column gets so much more
abbrev pub edit_raised : Name → List Column → Key → Name → ℤ → Row → Work Edit
edit_raised name schema key column by old = raised name schema column by old (column_value schema (Some old) column) >>= λ new. made (Turns key old new)

-- its rows fit the columns, and its key is a record key
abbrev pub MayBeEdit : List Column → Edit → Type 0
MayBeEdit schema (Adds new) = Fits schema new
MayBeEdit schema (Takes key old) = (is_record_key key ≡ true) × Fits schema old
MayBeEdit schema (Turns key old new) = (is_record_key key ≡ true) × Fits schema old × Fits schema new

-- the row that goes is there
abbrev pub IsEditOf : Rows → Edit → Type 0
IsEditOf rows (Adds new) = Unit {0}
IsEditOf rows (Takes key old) = row_at rows key ≡ Some old
IsEditOf rows (Turns key old new) = row_at rows key ≡ Some old

-- what is done of a wish behind its edit
abbrev pub settled : Name → Relation → Edit → Work Change
settled name r edit = refuse_if (is_long_edit r edit) (TooLong name) >>= λ _. change_of name r edit

-- ---- what the storage method answered
abbrev pub added : Name → Row → Placing → Outcome
added name new (placing.Key key) = Made (change.Insert key new)
added name new placing.Duplicate = Refused (Duplicate name)
added name new placing.Range = Refused (Range name)

abbrev pub taken : Name → Key → Row → Bool → Outcome
taken name key old true = Made (change.Delete key old)
taken name key old false = Refused (NoRecord name)

abbrev pub turned : Name → Key → Row → Row → Option Placing → Outcome
turned name key old new (Some (placing.Key to)) = Made (change.Update key old to new)
turned name key old new (Some placing.Duplicate) = Refused (Duplicate name)
turned name key old new (Some placing.Range) = Refused (Range name)
turned name key old new None = Refused (NoRecord name)
