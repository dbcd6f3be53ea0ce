-- The text of values, record keys and lists.
use Rattle.std.specs.Prelude.{ℕ, codes, List, [], ◌∷◌, ◌++◌, cond, ◌==◌}
use Rattle.std.specs.List.{flat_map}
use Rattle.std.specs.Fmt.{signed_decimal}
use Rattle.hex.specs.Hex.{encode_lower}
use Rattle.sb_value.specs.declared.value.Value.{Value}
use Rattle.sb_value.specs.declared.value.Value.TheVariants.{Int, Text}

-- a record key: @ and its bytes in hex, in lower case
abbrev pub key_text : List ℕ → List ℕ
key_text key = codes "@" ++ encode_lower key

-- a byte of a text, of which each quote is doubled
abbrev pub doubled : ℕ → List ℕ
doubled b = cond (b == 39) (39 ∷ 39 ∷ []) (b ∷ [])

-- a number without leading zeros, or a text between quotes
abbrev pub value_text : Value → List ℕ
value_text (Int n) = signed_decimal n
value_text (Text s) = codes "'" ++ flat_map doubled s ++ codes "'"

-- items, with a text between each two
abbrev pub joined : List ℕ → List (List ℕ) → List ℕ
joined between [] = []
joined between (item ∷ []) = item
joined between (item ∷ next ∷ items) = item ++ between ++ joined between (next ∷ items)

-- ( items with a comma between them )
abbrev pub listed : List (List ℕ) → List ℕ
listed items = codes "(" ++ joined (codes ", ") items ++ codes ")"
