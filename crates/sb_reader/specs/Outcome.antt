-- What comes of reading all the tokens of a line.
use Rattle.std.specs.Prelude.{◌≡◌, ℕ, ◌-◌, List, ◌++◌, length, drop, Result, Ok, Err}
use Rattle.sb_tokens.specs.declared.token.Token.{Token}
use Rattle.sb_tokens.specs.declared.token.Placed.{Placed}
use Rattle.sb_tokens.specs.Rows.{tokens_of}
use Rattle.sb_plain.specs.declared.command.Command.{Command}
use Rattle.sb_grammar.specs.Grammar.{Spells}
use Rattle.sb_grammar.specs.Columns.{FirstMisfit}
use Rattle.sb_phrases.specs.declared.fault.Fault.{Fault}
use Rattle.sb_phrases.specs.declared.fault.Fault.TheVariants.{NoMemory, Misfit}

-- this command, unless memory is wanting
abbrev pub IsOrMemory : Result Command Fault → Command → Type 0
IsOrMemory (Ok found) c = found ≡ c
IsOrMemory (Err NoMemory) c = Unit {0}
IsOrMemory (Err (Misfit rest)) c = ⊥

-- the rest is what is left of the tokens from the first one on that no command goes on with
pub record EndsAtMisfit (tokens rest : List Placed) : Type 0 where
  pub front : List Placed
  pub whole : tokens ≡ front ++ rest
  pub first : FirstMisfit (tokens_of tokens) (tokens_of rest)

-- a fault, where memory isn't wanting, is at that place
abbrev pub FaultIsMisfit : List Placed → Result Command Fault → Type 0
FaultIsMisfit tokens (Ok c) = Unit {0}
FaultIsMisfit tokens (Err NoMemory) = Unit {0}
FaultIsMisfit tokens (Err (Misfit rest)) = EndsAtMisfit tokens rest.now

-- a misfit at the last so many tokens
abbrev pub IsMisfitOfLast : ℕ → List Placed → Fault → Type 0
IsMisfitOfLast count tokens NoMemory = ⊥
IsMisfitOfLast count tokens (Misfit rest) = rest.now ≡ drop (length tokens - count) tokens

-- no row of tokens spells two commands
abbrev pub SpellsOneCommand : List Token → Type 0
SpellsOneCommand tokens = (a b : Command) → Spells a tokens → Spells b tokens → a ≡ b
