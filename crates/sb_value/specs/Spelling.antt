-- The spelling of a value in stored bytes, and which values have one.
use Rattle.std.specs.Prelude.{ℕ, ◌≤◌, List, ◌∷◌, length, IsUtf8, FitsSigned}
use Rattle.std.specs.Int.{to_be_bytes, cast_unsigned, w64}
use Rattle.sb_value.specs.declared.value.Value.{Value}
use Rattle.sb_value.specs.declared.value.Value.TheVariants.{Int, Text}

-- 1 and the number in 8 bytes of two's complement, the highest first; or 2, the text's length and its bytes
abbrev pub value_spelling : Value → List ℕ
value_spelling (Int n) = 1 ∷ to_be_bytes w64 (cast_unsigned w64 n)
value_spelling (Text s) = 2 ∷ length s ∷ s

-- a text short enough to be stored: 255 bytes at most
abbrev pub IsShort : Value → Type 0
IsShort (Int n) = Unit {0}
IsShort (Text s) = length s ≤ 255

-- a value that can be stored: a number of 64 bits, or a text in UTF-8 of at most 255 bytes
abbrev pub IsStorable : Value → Type 0
IsStorable (Int n) = FitsSigned w64 n
IsStorable (Text s) = IsUtf8 s × (length s ≤ 255)
