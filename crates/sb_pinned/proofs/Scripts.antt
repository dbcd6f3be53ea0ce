-- Scripts: commands with the record keys that they pick, and their replies.
use Rattle.std.specs.Prelude.{ℕ, List, [], ◌∷◌, map, Option, Some, None, false}
use Rattle.sb_relation.specs.Db.{Key, Row, Db}
use Rattle.sb_fold.specs.declared.refusal.Refusal.{Refusal}
use Rattle.sb_fold.specs.Extensions.{Extensions}
use Rattle.sb_plain.specs.declared.command.Command.{Command}
use Rattle.sb_plain.specs.declared.reply.Reply.{Reply}
use Rattle.sb_plain.specs.declared.reply.Reply.TheVariants.{Done, Count, Rows, Refused}
use Rattle.sb_plain.specs.State.{State}
use Rattle.sb_plain.specs.Step.{Turn, step}

-- a command, the picks that it makes, and its reply
pub record Asked : Type 0 where
  pub command : Command
  pub picks : List Key
  pub reply : Reply

abbrev pub ask : Command → List Key → Reply → Asked
ask command picks reply = record { command = command; picks = picks; reply = reply }

-- ---- states
abbrev pub none : Extensions
none = record { boxes = record { methods = []; attachments = [] }; methods = []; attachments = [] }

-- over a database, with the standard codes
abbrev pub over : Db → State
over db = record {
  live = record { methods = 1 ∷ 2 ∷ 3 ∷ []; attachments = 1 ∷ 2 ∷ 3 ∷ 4 ∷ 5 ∷ 6 ∷ 7 ∷ [] };
  spare = record { methods = []; attachments = [] };
  commits = db ∷ [];
  transaction = None;
  down = false;
}

-- ---- what is answered
abbrev pub next_answers : (State → List (Option Reply)) → Turn → List (Option Reply)
next_answers others turn = turn.reply ∷ others turn.state

abbrev pub answers : State → List Asked → List (Option Reply)
answers s [] = []
answers s (a ∷ script) = next_answers (λ t. answers t script) (step none s a.command a.picks)

-- the state after a script
abbrev pub after : State → List Asked → State
after s [] = s
after s (a ∷ script) = after (step none s a.command a.picks).state script

-- what is expected
abbrev pub replies_of : List Asked → List (Option Reply)
replies_of script = map (λ a. Some a.reply) script

-- ---- short words for replies
abbrev pub ok : Reply
ok = Done None []

abbrev pub keyed : Key → Reply
keyed key = Done (Some key) []

abbrev pub counts : ℕ → Reply
counts n = Count n []

abbrev pub no : Refusal → Reply
no r = Refused r

abbrev pub rows : List (Key × Row) → Reply
rows found = Rows found
