-- What a line says, and what is answered.
use Rattle.std.specs.Prelude.{◌≡◌, ℕ, List, [], ◌∷◌, Result, Ok, Err}
use Rattle.sb_tokens.specs.declared.token.Placed.{Placed}
use Rattle.sb_tokens.specs.declared.token.Ending.{Ending}
use Rattle.sb_tokens.specs.declared.token.Ending.TheVariants.{Whole, Stuck}
use Rattle.sb_plain.specs.declared.command.Command.{Command}
use Rattle.sb_grammar.specs.Columns.{Item, Says, Bad, IsItem}
use Rattle.sb_phrases.specs.declared.fault.Fault.{Fault}
use Rattle.sb_phrases.specs.declared.fault.Fault.TheVariants as fault
use Rattle.sb_reader.specs.declared.line.LineFault.{LineFault}
use Rattle.sb_reader.specs.declared.line.LineFault.TheVariants.{Syntax, NoMemory}

-- the line says what is answered, unless memory is wanting
abbrev pub IsRead : List ℕ → Result Command LineFault → Type 0
IsRead line (Ok c) = IsItem line (Says c)
IsRead line (Err (Syntax column)) = IsItem line (Bad column)
IsRead line (Err NoMemory) = Unit {0}

-- the column of the first token, or, where there is none, of the ending
abbrev pub column_at : List Placed → Ending → ℕ
column_at [] (Whole column) = column
column_at [] (Stuck column) = column
column_at (t ∷ ts) ending = t.column

-- the command, unless no token was found behind its own
abbrev pub unless_stuck : Command → Ending → Result Command LineFault
unless_stuck c (Whole column) = Ok c
unless_stuck c (Stuck column) = Err (Syntax column)

-- the fault of the line, where its tokens are no command
abbrev pub line_fault : Fault → Ending → LineFault
line_fault fault.NoMemory ending = NoMemory
line_fault (fault.Misfit rest) ending = Syntax (column_at rest.now ending)

-- no line says two things
abbrev pub SaysOneThing : List ℕ → Type 0
SaysOneThing line = (a b : Item) → IsItem line a → IsItem line b → a ≡ b
