-- The ordered code: bytes that stand in the order of the values.
use Rattle.std.specs.Prelude.{ℕ, ◌+◌, ◌-◌, ◌^◌, cond, ◌==◌, List, [], ◌∷◌, ◌++◌, ℤ, pos, negsuc}
use Rattle.std.specs.List.{flat_map}
use Rattle.std.specs.Int.{to_be_bytes, w64}
use Rattle.sb_value.specs.declared.value.Value.{Value}
use Rattle.sb_value.specs.declared.value.Value.TheVariants.{Int, Text}

-- the 64 bits of a number, the top one flipped, read without a sign
abbrev pub flipped : ℤ → ℕ
flipped (pos n) = 2 ^ 63 + n
flipped (negsuc n) = 2 ^ 63 - (n + 1)

-- a byte of a text; the byte 0 is followed by 255, so that the end is less than whatever goes on
abbrev pub escaped : ℕ → List ℕ
escaped b = cond (b == 0) (0 ∷ 255 ∷ []) (b ∷ [])

-- a number in 8 bytes, the highest first; a text with its end 0, 0
abbrev pub value_code : Value → List ℕ
value_code (Int n) = to_be_bytes w64 (flipped n)
value_code (Text s) = flat_map escaped s ++ 0 ∷ 0 ∷ []

-- the ordered code of some values
abbrev pub ordered_code : List Value → List ℕ
ordered_code = flat_map value_code
