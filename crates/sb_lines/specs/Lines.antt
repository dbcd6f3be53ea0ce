-- Input as lines, and what each line says.
use Rattle.std.specs.Prelude.{◌≡◌, ℕ, ◌==◌, Bool, true, cond, not, ◌||◌, List, [], ◌∷◌, ◌++◌, map, filter, take}
use Rattle.sb_tokens.specs.Tokens.{is_blank}
use Rattle.sb_grammar.specs.Columns.{is_long, Item, IsItem}

-- ---- cutting
-- bytes cut behind each line end: the lines that have ended, and what has begun behind them
pub record Cut : Type 0 where
  pub ended : List (List ℕ)
  pub begun : List ℕ

-- a byte in front of the first line
abbrev pub in_front : ℕ → List (List ℕ) → List ℕ → Cut
in_front b [] begun = record { ended = []; begun = b ∷ begun }
in_front b (line ∷ lines) begun = record { ended = (b ∷ line) ∷ lines; begun = begun }

-- a line ends with the byte 10, which isn't of the line
abbrev pub cut : List ℕ → Cut
cut [] = record { ended = []; begun = [] }
cut (b ∷ bytes) = cond (b == 10) (record { ended = [] ∷ (cut bytes).ended; begun = (cut bytes).begun }) (in_front b (cut bytes).ended (cut bytes).begun)

-- the lines that have their end
abbrev pub whole_lines : List ℕ → List (List ℕ)
whole_lines bytes = (cut bytes).ended

-- bytes behind the last line end are a line too
abbrev pub last_line : List ℕ → List (List ℕ)
last_line [] = []
last_line (b ∷ bytes) = (b ∷ bytes) ∷ []

abbrev pub lines_of : List ℕ → List (List ℕ)
lines_of bytes = (cut bytes).ended ++ last_line (cut bytes).begun

-- ---- lines that ask for a reply
-- a line without the carriage return that it may end in
abbrev pub without_return : List ℕ → List ℕ
without_return [] = []
without_return (b ∷ []) = cond (b == 13) [] (b ∷ [])
without_return (b ∷ c ∷ bytes) = b ∷ without_return (c ∷ bytes)

-- a blank line, or a comment: its first byte that is no blank is #
abbrev pub is_passed_over : List ℕ → Bool
is_passed_over [] = true
is_passed_over (b ∷ bytes) = cond (is_blank b) (is_passed_over bytes) (b == 35)

-- a line asks for a reply where it is too long, blank or not, and where it is neither blank nor a comment
abbrev pub asks : List ℕ → Bool
asks line = is_long line || not (is_passed_over line)

-- the lines that ask for a reply
abbrev pub asking : List (List ℕ) → List (List ℕ)
asking lines = filter asks (map without_return lines)

-- ---- lines that are held
-- so many bytes at the front of a line tell what it says: those that it may have, a carriage return, and one more
abbrev pub most_held : ℕ
most_held = 4098

-- what is held of the line that has begun
abbrev pub held_of : List ℕ → List ℕ
held_of bytes = take most_held (cut bytes).begun

-- ---- what lines say
-- what each line says
abbrev pub AreItems : List (List ℕ) → List Item → Type 0
AreItems [] [] = Unit {0}
AreItems (line ∷ lines) (item ∷ items) = IsItem line item × AreItems lines items
AreItems _ _ = ⊥

-- what the first of the lines say
pub record AreFirstItems (lines : List (List ℕ)) (items : List Item) : Type 0 where
  pub first : List (List ℕ)
  pub others : List (List ℕ)
  pub are : AreItems first items
  pub whole : lines ≡ first ++ others

-- what all lines of the input say that ask for a reply
abbrev pub Commands : List ℕ → List Item → Type 0
Commands bytes items = AreItems (asking (lines_of bytes)) items
