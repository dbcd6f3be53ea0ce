-- The token at the front of some bytes.
use Rattle.std.specs.Prelude.{ℕ, zero, suc, ◌+◌, ◌-◌, ◌*◌, ◌/◌, ◌^◌, nat_le, nat_lt, ◌==◌, ◌&&◌, ◌||◌, List, [], ◌∷◌, ◌++◌, length, take, take_while, Bool, true, false, cond, Option, Some, None, Ok, ℤ, pos, negsuc}
use Rattle.std.specs.Str.{is_utf8}
use Rattle.hex.specs.Hex.{is_hex_digit, decode_of}
use Rattle.sb_tokens.specs.declared.token.Sign.{Sign}
use Rattle.sb_tokens.specs.declared.token.Sign.TheVariants.{Open, Close, Comma, Dot, Equal, Unequal, Less, LessOrEqual, Greater, GreaterOrEqual}
use Rattle.sb_tokens.specs.declared.token.Token.{Token}
use Rattle.sb_tokens.specs.declared.token.Token.TheVariants as token

-- a letter of ASCII, or _
abbrev pub is_letter : ℕ → Bool
is_letter b = ((nat_le 65 b && nat_le b 90) || (nat_le 97 b && nat_le b 122)) || b == 95

abbrev pub is_digit : ℕ → Bool
is_digit b = nat_le 48 b && nat_le b 57

abbrev pub is_word_byte : ℕ → Bool
is_word_byte b = is_letter b || is_digit b

-- a space or a tab
abbrev pub is_blank : ℕ → Bool
is_blank b = b == 32 || b == 9

abbrev pub is_quote : ℕ → Bool
is_quote b = b == 39

-- a token and its length, or None where none can be read
abbrev pub Found : Type 0
Found = Option (Token × ℕ)

-- ---- words: all letters, digits and _ that follow, at most 32 of them
abbrev pub word_token : List ℕ → Found
word_token text = cond (nat_le (length text) 32) (Some (token.Word text, length text)) None

-- ---- numbers: all digits that follow, within 64 bits
-- the value of decimal digits behind a front with a value
abbrev pub value_behind : ℕ → List ℕ → ℕ
value_behind n [] = n
value_behind n (d ∷ ds) = value_behind (10 * n + (d - 48)) ds

abbrev pub minus : ℕ → ℤ
minus zero = pos zero
minus (suc n) = negsuc n

abbrev pub number_token : Bool → ℕ → ℕ → Found
number_token false n len = cond (nat_lt n (2 ^ 63)) (Some (token.Int (pos n), len)) None
number_token true n len = cond (nat_le n (2 ^ 63)) (Some (token.Int (minus n), len)) None

abbrev pub digits_of : List ℕ → List ℕ
digits_of bytes = take_while is_digit bytes

-- ---- signs: the longest of ( ) , . = <> < <= > >=
-- whether a byte that passes the test stands at the front
abbrev pub starts : (ℕ → Bool) → List ℕ → Bool
starts p [] = false
starts p (b ∷ bs) = p b

-- a sign of one byte, or of two
abbrev pub one : Sign → Found
one sign = Some (token.Sign sign, 1)

abbrev pub two : Sign → Found
two sign = Some (token.Sign sign, 2)

abbrev pub less_token : List ℕ → Found
less_token bs = cond (starts (λ b. b == 62) bs) (two Unequal) (cond (starts (λ b. b == 61) bs) (two LessOrEqual) (one Less))

abbrev pub greater_token : List ℕ → Found
greater_token bs = cond (starts (λ b. b == 61) bs) (two GreaterOrEqual) (one Greater)

abbrev pub sign_token : ℕ → List ℕ → Found
sign_token b bs =
    cond (b == 40) (one Open) (cond (b == 41) (one Close) (cond (b == 44) (one Comma) (cond (b == 46) (one Dot) (cond (b == 61) (one Equal)
    (cond (b == 60) (less_token bs) (cond (b == 62) (greater_token bs) None))))))

-- ---- texts: UTF-8 between quotes, in which each quote is doubled
-- a text of these bytes and the length of what was read of it, with the quote at its end
abbrev pub ended : List ℕ → Option (List ℕ × ℕ)
ended text = cond (is_utf8 text) (Some (text, 1)) None

-- so many bytes more were read
abbrev pub longer : ℕ → Option (List ℕ × ℕ) → Option (List ℕ × ℕ)
longer n None = None
longer n (Some found) = Some (found.0, n + found.1)

-- the one, or else the other
abbrev pub or_else : {A : Type 0} → Option A → Option A → Option A
or_else None other = other
or_else (Some a) other = Some a

-- The longest text behind a quote and these bytes of it. A quote ends it, but for one that is doubled, where a longer text goes on.
abbrev pub text_behind : List ℕ → List ℕ → Option (List ℕ × ℕ)
text_behind text [] = None
text_behind text (b ∷ []) = cond (is_quote b) (ended text) None
text_behind text (b ∷ c ∷ bytes) =
    cond (is_quote b) (cond (is_quote c) (or_else (longer 2 (text_behind (text ++ 39 ∷ []) bytes)) (ended text)) (ended text))
    (longer 1 (text_behind (text ++ b ∷ []) (c ∷ bytes)))

abbrev pub text_token : Option (List ℕ × ℕ) → Found
text_token None = None
text_token (Some found) = Some (token.Text found.0, 1 + found.1)

-- ---- record keys: @ and an even number of hex digits, as many as follow
-- an even number of bytes at the front, as many as there are
abbrev pub even_front : List ℕ → List ℕ
even_front bytes = take (2 * (length bytes / 2)) bytes

abbrev pub key_of : List ℕ → Found
key_of digits = elim (decode_of digits) [ Ok key ↦ Some (token.Key key, 1 + length digits) | _ ↦ None ]

abbrev pub key_token : List ℕ → Found
key_token bytes = key_of (even_front (take_while is_hex_digit bytes))

-- ---- the longest token at the front of the bytes, by the first of them
abbrev pub front_token : List ℕ → Found
front_token [] = None
front_token (b ∷ bs) =
    cond (is_letter b) (word_token (take_while is_word_byte (b ∷ bs)))
    (cond (is_digit b) (number_token false (value_behind 0 (digits_of (b ∷ bs))) (length (digits_of (b ∷ bs))))
    (cond (b == 45 && starts is_digit bs) (number_token true (value_behind 0 (digits_of bs)) (1 + length (digits_of bs)))
    (cond (is_quote b) (text_token (text_behind [] bs))
    (cond (b == 64) (key_token bs)
    (sign_token b bs)))))
