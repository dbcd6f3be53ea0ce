-- What is wanted of one row, and the change that it makes.
use Rattle.std.specs.Prelude.{◌^◌, nat_lt, Bool, false, cond, List, [], ◌∷◌, ◌++◌, Option, Some, None, ℤ, pos, negsuc, ◌+ℤ◌}
use Rattle.std.specs.List.{list_all}
use Rattle.std.specs.Str.{bytes_eq}
use Rattle.sb_value.specs.declared.value.Value.{Value}
use Rattle.sb_value.specs.declared.value.Value.TheVariants.{Int}
use Rattle.sb_value.specs.declared.schema.Column.{Column}
use Rattle.sb_pred.specs.declared.predicate.Term.{Term}
use Rattle.sb_pred.specs.declared.predicate.Term.TheVariants.{Const, New, Old}
use Rattle.sb_pred.specs.Columns.{column_value}
use Rattle.sb_rule.specs.declared.action.Action.{Action}
use Rattle.sb_rule.specs.declared.action.Action.TheVariants as action
use Rattle.sb_rule.specs.declared.change.Change.{Change}
use Rattle.sb_rule.specs.declared.change.Change.TheVariants as change
use Rattle.sb_relation.specs.Db.{Name, Key, Row, Relation, row_at, key_of}
use Rattle.sb_relation.specs.Keys.{NewKeys, AnyOf, Just, Taken, NoGreater, keying_of, new_keys}
use Rattle.sb_relation.specs.Lawful.{is_too_long}
use Rattle.sb_relation.specs.Rules.{has_values}
use Rattle.sb_fold.specs.declared.refusal.Refusal.TheVariants.{NoRecord, TooLong, Range, Duplicate}
use Rattle.sb_fold.specs.Outcome.{Work, made, refuse, no_step, refuse_if, ◌>>=◌}

-- a new row; a row that goes; another row in its place; a number more in a column
pub data Wish : Type 0 where
  Put : Row → Wish
  Remove : Key → Wish
  Replace : Key → Row → Wish
  Raise : Key → Name → ℤ → Wish

-- the row that comes, the one that goes, or both
pub data Edit : Type 0 where
  Adds : Row → Edit
  Takes : Key → Row → Edit
  Turns : Key → Row → Row → Edit

-- ---- rows
abbrev pub is_i64 : ℤ → Bool
is_i64 (pos n) = nat_lt n (2 ^ 63)
is_i64 (negsuc n) = nat_lt n (2 ^ 63)

-- a row with a value in the first column of a name
abbrev pub with_value : List Column → Name → Value → Row → Row
with_value [] column v row = row
with_value (c ∷ cs) column v [] = []
with_value (c ∷ cs) column v (w ∷ row) = cond (bytes_eq c.name column) (v ∷ row) (w ∷ with_value cs column v row)

-- the row with a number more in a column; a sum outside 64 bits is refused
abbrev pub raised : Name → List Column → Name → ℤ → Row → Option Value → Work Row
raised name schema column by row (Some (Int n)) =
    cond (is_i64 (n +ℤ by)) (made (with_value schema column (Int (n +ℤ by)) row)) (refuse (Range name))
raised name schema column by row _ = made row

-- ---- the row that a wish is of
abbrev pub found : Name → Option Row → Work Row
found name None = refuse (NoRecord name)
found name (Some row) = made row

abbrev pub edit_of : Name → Relation → Wish → Work Edit
edit_of name r (Put row) = made (Adds row)
edit_of name r (Remove key) = found name (row_at r.rows key) >>= λ old. made (Takes key old)
edit_of name r (Replace key new) = found name (row_at r.rows key) >>= λ old. made (Turns key old new)
edit_of name r (Raise key column by) =
    found name (row_at r.rows key)
    >>= λ old. raised name r.schema column by old (column_value r.schema (Some old) column)
    >>= λ new. made (Turns key old new)

-- a new row that is too long; one that goes never is
abbrev pub is_long_edit : Relation → Edit → Bool
is_long_edit r (Adds row) = is_too_long r row
is_long_edit r (Takes key old) = false
is_long_edit r (Turns key old new) = is_too_long r new

-- ---- the record key
-- the next pick, where it may be picked
abbrev pub pick : (Key → Bool) → List Key → Work Key
pick may [] going = no_step going
pick may (key ∷ picks) going = cond (may key) (made key (record going { picks = picks; used = going.used ++ key ∷ [] })) (no_step going)

abbrev pub take_key : Name → NewKeys → Work Key
take_key name (AnyOf may) going = pick may going.picks going
take_key name (Just key) going = made key going
take_key name Taken going = refuse (Duplicate name) going
take_key name NoGreater going = refuse (Range name) going

-- of a new row, or of a row that had a key
abbrev pub key_for : Name → Relation → Option Key → Row → Work Key
key_for name r own row = take_key name (new_keys (keying_of r.method) r.rows own (key_of r row))

-- the change of the relation's rows
abbrev pub change_of : Name → Relation → Edit → Work Change
change_of name r (Adds row) = key_for name r None row >>= λ key. made (change.Insert key row)
change_of name r (Takes key old) = made (change.Delete key old)
change_of name r (Turns key old new) = key_for name r (Some key) new >>= λ to. made (change.Update key old to new)

-- the change that a wish makes, or why it makes none: no such row, a sum, a row that is too long, a record key
abbrev pub wished : Name → Relation → Wish → Work Change
wished name r wish = edit_of name r wish >>= λ edit. refuse_if (is_long_edit r edit) (TooLong name) >>= λ _. change_of name r edit

-- ---- the rows that an action is of
abbrev pub const_of : Term → List Value
const_of (Const v) = v ∷ []
const_of (New name) = []
const_of (Old name) = []

-- each column has its value
abbrev pub is_match : List Column → List (Name × Term) → Row → Bool
is_match schema pairs row = list_all (λ pair. has_values schema (pair.0 ∷ []) (const_of pair.1) row) pairs

abbrev pub pairs_of : Action → List (Name × Term)
pairs_of (action.Insert relation terms) = []
pairs_of (action.Delete relation pairs) = pairs
pairs_of (action.Set relation column term pairs) = pairs
pairs_of (action.Add relation column term pairs) = pairs

-- what an action with values in place of its terms wishes of a row
abbrev pub set_wish : List Column → Name → List Value → Key → Row → Option Wish
set_wish schema column (v ∷ vs) key row = Some (Replace key (with_value schema column v row))
set_wish schema column [] key row = None

abbrev pub add_wish : Name → List Value → Key → Option Wish
add_wish column (Int n ∷ vs) key = Some (Raise key column n)
add_wish column _ key = None

abbrev pub wish_of : List Column → Action → Key → Row → Option Wish
wish_of schema (action.Insert relation terms) key row = None
wish_of schema (action.Delete relation pairs) key row = Some (Remove key)
wish_of schema (action.Set relation column term pairs) key row = set_wish schema column (const_of term) key row
wish_of schema (action.Add relation column term pairs) key row = add_wish column (const_of term) key
