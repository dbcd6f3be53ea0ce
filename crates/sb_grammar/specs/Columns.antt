-- What a line says: a command, or at which column it is bad.
use Rattle.std.specs.Prelude.{◌≡◌, ℕ, nat_lt, Bool, true, false, ◌⊎◌, List, [], ◌∷◌, ◌++◌, length}
use Rattle.sb_plain.specs.declared.command.Command.{Command}
use Rattle.sb_tokens.specs.declared.token.Token.{Token}
use Rattle.sb_tokens.specs.declared.token.Placed.{Placed}
use Rattle.sb_tokens.specs.declared.token.Ending.{Ending}
use Rattle.sb_tokens.specs.declared.token.Ending.TheVariants.{Whole, Stuck}
use Rattle.sb_tokens.specs.Rows.{IsRow, tokens_of}
use Rattle.sb_grammar.specs.Grammar.{Spells}

-- the line spells the command
pub record IsCommand (line : List ℕ) (c : Command) : Type 0 where
  pub tokens : List Placed
  pub column : ℕ
  pub is_row : IsRow line tokens (Whole column)
  pub spelled : Spells c (tokens_of tokens)

-- some command begins with these tokens
pub record Begins (tokens : List Token) : Type 0 where
  pub value : Command
  pub more : List Token
  pub spelled : Spells value (tokens ++ more)

-- before is the longest front with which some command begins: with the next token too none does, or none ends there
abbrev pub Misfit : List Token → List Token → Type 0
Misfit before [] = (c : Command) → Spells c before → ⊥
Misfit before (t ∷ rest) = Begins (before ++ t ∷ []) → ⊥

-- the tokens fit some command up to here, and no command goes on into the rest
pub record FirstMisfit (tokens rest : List Token) : Type 0 where
  pub before : List Token
  pub whole : tokens ≡ before ++ rest
  pub begins : Begins before
  pub misfit : Misfit before rest

-- Behind some tokens come others up to an ending. The fault is the first of them that no command goes on with; where each of them goes on, it is the place that holds no token, or, if the line ends before a command does, the column behind it.
abbrev pub FaultBehind : List Token → List Placed → Ending → ℕ → Type 0
FaultBehind before [] (Whole end) column = (column ≡ end) × ((c : Command) → Spells c before → ⊥)
FaultBehind before [] (Stuck place) column = column ≡ place
FaultBehind before (t ∷ ts) ending column =
    ((column ≡ t.column) × (Begins (before ++ t.token ∷ []) → ⊥))
    ⊎ (Begins (before ++ t.token ∷ []) × FaultBehind (before ++ t.token ∷ []) ts ending column)

-- the line spells no command, and this is the column of its fault
pub record IsFault (line : List ℕ) (column : ℕ) : Type 0 where
  pub tokens : List Placed
  pub ending : Ending
  pub is_row : IsRow line tokens ending
  pub fault : FaultBehind [] tokens ending column

-- a line of more than 4,096 bytes
abbrev pub is_long : List ℕ → Bool
is_long line = nat_lt 4096 (length line)

-- what a line says: a command, or at which column it is bad
pub data Item : Type 0 where
  Says : Command → Item
  Bad : ℕ → Item

-- a line that is too long is bad at the first column behind the bytes that it may have; any other one where its fault is
abbrev pub IsItem : List ℕ → Item → Type 0
IsItem line (Says c) = (is_long line ≡ false) × IsCommand line c
IsItem line (Bad column) = ((is_long line ≡ true) × (column ≡ 4097)) ⊎ ((is_long line ≡ false) × IsFault line column)
