-- What a driver does with the answer of a call.
use Rattle.std.specs.Prelude.{◌^◌, ◌<◌, Bool, true, false, Some, None}
use Rattle.sb_ctx.specs.declared.moves.Move.{Move}
use Rattle.sb_ctx.specs.declared.moves.Move.TheVariants.{Need, Fresh, After, Find, Broken, NoMemory}
use Rattle.sb_drive.specs.declared.turns.Ask.{Ask}
use Rattle.sb_drive.specs.declared.turns.Ask.TheVariants as ask
use Rattle.sb_drive.specs.declared.space.SpaceFault.TheVariants as fault
use Rattle.sb_drive.specs.declared.turns.Turn.{Turn}
use Rattle.sb_drive.specs.declared.turns.Turn.TheVariants.{Give, Stop, End}

-- it gives what is asked for, stops, or the call has come to its end
abbrev pub turn_of : Move → Turn
turn_of (Need n) = Give (ask.Page n)
turn_of Fresh = Give ask.Fresh
turn_of (After low) = Give (ask.After low)
turn_of (Broken n) = Stop (fault.Damaged n)
turn_of NoMemory = Stop fault.NoMemory
turn_of move = End move

-- page numbers have 32 bits
abbrev pub IsNumbered : Ask → Type 0
IsNumbered (ask.Page n) = n < 2 ^ 32
IsNumbered ask.Fresh = Unit {0}
IsNumbered (ask.After None) = Unit {0}
IsNumbered (ask.After (Some n)) = n < 2 ^ 32

-- what is asked for is numbered so
abbrev pub AsksNumbered : Turn → Type 0
AsksNumbered (Give a) = IsNumbered a
AsksNumbered turn = Unit {0}

-- neither a question that a driver answers nor a stop
abbrev pub IsEnd : Move → Type 0
IsEnd (Need n) = ⊥
IsEnd Fresh = ⊥
IsEnd (After low) = ⊥
IsEnd (Broken n) = ⊥
IsEnd NoMemory = ⊥
IsEnd move = Unit {0}

abbrev pub is_find : Move → Bool
is_find (Find relation columns values) = true
is_find move = false

-- what is so where the move is a find
abbrev pub OnFind : Move → Type 0 → Type 0
OnFind (Find relation columns values) IsSo = IsSo
OnFind move IsSo = Unit {0}
