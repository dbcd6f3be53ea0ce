-- Rows that are read: those that calls end with, and those above a key.
use Rattle.std.specs.Prelude.{Bool, true, Option, Some, None}
use Rattle.std.specs.List.{filter}
use Rattle.sb_relation.specs.Db.{Key, Row, Rows}
use Rattle.sb_treemethod.specs.Move.{Move}
use Rattle.sb_treemethod.specs.Move.TheVariants.{End, NoRecord, Row as Rowed}
use Rattle.sb_treemethod.specs.MethodCall.{MethodCall}
use Rattle.sb_treemethod.specs.MethodCall.TheVariants as call
use Rattle.sb_treemethod.specs.MethodAnswers.{is_above}

-- the rows whose keys are above the low one, or all
abbrev pub rows_above : Option Key → Rows → Rows
rows_above low rows = filter (λ row. is_above low row.0) rows

-- a read of one key ends with its row, or with none
abbrev pub IsRowOrNone : Move → Type 0
IsRowOrNone (Rowed key row) = Unit {0}
IsRowOrNone NoRecord = Unit {0}
IsRowOrNone _ = ⊥

-- a read of the next row ends with it, or at the end
abbrev pub IsRowOrEnd : Move → Type 0
IsRowOrEnd (Rowed key row) = Unit {0}
IsRowOrEnd End = Unit {0}
IsRowOrEnd _ = ⊥

-- the row that a call answered with, and with its key
abbrev pub tuple_in : Move → Option Row
tuple_in (Rowed key row) = Some row
tuple_in move = None

abbrev pub row_in : Move → Option (Key × Row)
row_in (Rowed key row) = Some (key, row)
row_in move = None

-- the row of a move is above this key; a move without a row is
abbrev pub is_move_above : Option Key → Move → Bool
is_move_above low (Rowed key row) = is_above low key
is_move_above low move = true

-- whether a row that a read of the next one answered has a key above the one of the call
abbrev pub is_risen : MethodCall → Move → Bool
is_risen (call.Next low) move = is_move_above low move
is_risen c move = true
