-- The tokens of a line, with their columns.
use Rattle.std.specs.Prelude.{◌≡◌, ◌≢◌, ℕ, ◌+◌, List, [], ◌∷◌, length, drop, take_while, map, Some, None}
use Rattle.sb_tokens.specs.declared.token.Token.{Token}
use Rattle.sb_tokens.specs.declared.token.Placed.{Placed}
use Rattle.sb_tokens.specs.declared.token.Ending.{Ending}
use Rattle.sb_tokens.specs.declared.token.Ending.TheVariants.{Whole, Stuck}
use Rattle.sb_tokens.specs.Tokens.{is_blank, front_token}

-- the blanks at the front of some bytes, and what stands behind them
abbrev pub blanks : List ℕ → ℕ
blanks bytes = length (take_while is_blank bytes)

abbrev pub behind_blanks : List ℕ → List ℕ
behind_blanks bytes = drop (blanks bytes) bytes

-- Behind so many bytes of a line come these bytes, which are these tokens, parted by blanks where they need it or not, up to this ending. A line that is read to its end ends at the column behind its last byte, and one that isn't at the first place where no token can be read. Columns are counted in bytes, from 1.
abbrev pub AreTokens : ℕ → List ℕ → List Placed → Ending → Type 0
AreTokens before bytes [] (Whole column) = (behind_blanks bytes ≡ []) × (column ≡ before + length bytes + 1)
AreTokens before bytes [] (Stuck column) = (behind_blanks bytes ≢ []) × (front_token (behind_blanks bytes) ≡ None) × (column ≡ before + blanks bytes + 1)
AreTokens before bytes (t ∷ ts) ending =
    (len : ℕ) × (front_token (behind_blanks bytes) ≡ Some (t.token, len)) × (t.column ≡ before + blanks bytes + 1)
    × AreTokens (before + blanks bytes + len) (drop len (behind_blanks bytes)) ts ending

-- the tokens of a whole line
abbrev pub IsRow : List ℕ → List Placed → Ending → Type 0
IsRow line tokens ending = AreTokens 0 line tokens ending

-- the tokens without their columns
abbrev pub tokens_of : List Placed → List Token
tokens_of tokens = map (λ t. t.token) tokens

-- each line has one row of tokens
abbrev pub HasOneRow : List ℕ → Type 0
HasOneRow line =
    (one other : List Placed) (ends other_ends : Ending) → IsRow line one ends → IsRow line other other_ends → (one ≡ other) × (ends ≡ other_ends)
