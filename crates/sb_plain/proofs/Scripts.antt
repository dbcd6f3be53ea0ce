-- Scripts: commands with their lines, their picks and the text of their replies.
use Rattle.std.specs.Prelude.{ℕ, codes, List, [], ◌∷◌, ◌++◌, map, replicate, Some, None, false, pos}
use Rattle.sb_value.specs.declared.value.Value.{Value}
use Rattle.sb_value.specs.declared.value.Value.TheVariants.{Int}
use Rattle.sb_value.specs.declared.schema.Kind.TheVariants as kind
use Rattle.sb_value.specs.declared.schema.Column.{Column}
use Rattle.sb_relation.specs.Db.{Name, Key}
use Rattle.sb_fold.specs.Extensions.{Extensions}
use Rattle.sb_plain.specs.declared.command.Command.{Command}
use Rattle.sb_plain.specs.Printing.{command_text}
use Rattle.sb_plain.specs.State.{State}
use Rattle.sb_plain.specs.Step.{Turn, step}
use Rattle.sb_plain.specs.Text.{reply_text}

-- a command, its line, the picks that it makes, and the lines of the reply, the last without its end
pub record Asked : Type 0 where
  pub command : Command
  pub line : List ℕ
  pub picks : List Key
  pub reply : List ℕ

abbrev pub ask : Command → List ℕ → List Key → List ℕ → Asked
ask command line picks reply = record { command = command; line = line; picks = picks; reply = reply }

-- ---- the store before the first command
abbrev pub no_extensions : Extensions
no_extensions = record { boxes = record { methods = []; attachments = [] }; methods = []; attachments = [] }

-- without relations, with the standard codes
abbrev pub start : State
start = record {
  live = record { methods = 1 ∷ 2 ∷ 3 ∷ []; attachments = 1 ∷ 2 ∷ 3 ∷ 4 ∷ 5 ∷ 6 ∷ 7 ∷ [] };
  spare = record { methods = []; attachments = [] };
  commits = [] ∷ [];
  transaction = None;
  down = false;
}

-- ---- what is answered, up to a command whose picks give no step
abbrev pub next_answers : (State → List (List ℕ)) → Turn → List (List ℕ)
next_answers others turn = elim turn.reply [ None ↦ [] | Some reply ↦ reply_text reply ∷ others turn.state ]

abbrev pub answers_with : Extensions → State → List Asked → List (List ℕ)
answers_with ext s [] = []
answers_with ext s (a ∷ script) = next_answers (λ t. answers_with ext t script) (step ext s a.command a.picks)

abbrev pub answers : State → List Asked → List (List ℕ)
answers = answers_with no_extensions

-- the state after a script
abbrev pub after : State → List Asked → State
after s [] = s
after s (a ∷ script) = after (step no_extensions s a.command a.picks).state script

-- ---- what is expected
abbrev pub replies_of : List Asked → List (List ℕ)
replies_of script = map (λ a. a.reply ++ codes "\n") script

abbrev pub lines_of : List Asked → List (List ℕ)
lines_of script = map (λ a. a.line) script

abbrev pub printed : List Asked → List (List ℕ)
printed script = map (λ a. command_text a.command) script

-- ---- short words
abbrev pub int : ℕ → Value
int n = Int (pos n)

abbrev pub text_column : Name → ℕ → Column
text_column name limit = record { name = name; kind = kind.Text; limit = limit }

-- so many of one letter
abbrev pub letters : ℕ → ℕ → List ℕ
letters n letter = replicate n letter

-- the record key of a small number in a tree, one that a temp relation counts, and one that a heap picks
abbrev pub key : ℕ → Key
key n = 128 ∷ 0 ∷ 0 ∷ 0 ∷ 0 ∷ 0 ∷ 0 ∷ n ∷ []

abbrev pub number : ℕ → Key
number n = 0 ∷ 0 ∷ 0 ∷ 0 ∷ 0 ∷ 0 ∷ 0 ∷ n ∷ []

abbrev pub slot : ℕ → ℕ → Key
slot page n = 0 ∷ 0 ∷ 0 ∷ page ∷ 0 ∷ n ∷ []

-- picks of a command that is refused, which are free
abbrev pub spare : List Key
spare = slot 200 0 ∷ slot 200 1 ∷ slot 200 2 ∷ []
