-- What stands between quotes.
use Rattle.std.specs.Prelude.{◌≡◌, ◌≢◌, ℕ, ◌+◌, ◌<◌, ◌≤◌, List, [], ◌∷◌, ◌++◌, length, take, slice_index, Bool, true, false, cond, Option, None, MatchOption}
use Rattle.std.specs.Str.{IsUtf8}
use Rattle.sb_tokens.specs.Tokens.{is_quote, ended, longer, or_else}

-- one byte more at the front
abbrev pub with_byte : ℕ → List ℕ × Bool → List ℕ × Bool
with_byte b text = (b ∷ text.0, text.1)

-- the bytes up to the first quote that isn't doubled, with each doubled quote as one, and whether that quote is there; the flag says that a quote was read before
abbrev pub unquoted_behind : Bool → List ℕ → List ℕ × Bool
unquoted_behind is_behind_quote [] = ([], is_behind_quote)
unquoted_behind false (b ∷ bytes) = cond (is_quote b) (unquoted_behind true bytes) (with_byte b (unquoted_behind false bytes))
unquoted_behind true (b ∷ bytes) = cond (is_quote b) (with_byte b (unquoted_behind false bytes)) ([], true)

abbrev pub unquoted : List ℕ → List ℕ × Bool
unquoted bytes = unquoted_behind false bytes

-- the longest text behind some bytes of it and a byte
abbrev pub longest_at : List ℕ → ℕ → Option (List ℕ × ℕ) → Option (List ℕ × ℕ)
longest_at text b rest = cond (is_quote b) (or_else (longer 2 rest) (ended text)) (longer 1 rest)

-- the longest text behind some bytes of it, of bytes in which each quote stands for a doubled one, and where a quote ends them or not
abbrev pub longest : List ℕ → List ℕ → Bool → Option (List ℕ × ℕ)
longest text [] is_ended = cond is_ended (ended text) None
longest text (b ∷ bytes) is_ended = longest_at text b (longest (text ++ b ∷ []) bytes is_ended)

-- the first n bytes are UTF-8, and no longer front is
pub record IsValidFront (bytes : List ℕ) (n : ℕ) : Type 0 where
  pub within : n ≤ length bytes
  pub valid : IsUtf8 (take n bytes)
  pub most : (m : ℕ) → n < m → m ≤ length bytes → ¬ (IsUtf8 (take m bytes))

-- from a place on there is no quote
abbrev pub NoQuoteFrom : ℕ → List ℕ → Type 0
NoQuoteFrom from bytes = (k : ℕ) → from ≤ k → k < length bytes → slice_index bytes k ≢ 39

-- the place of the last quote, where there is one
abbrev pub IsLastQuote : List ℕ → Option ℕ → Type 0
IsLastQuote bytes place = MatchOption place (NoQuoteFrom 0 bytes) (λ n. (n < length bytes) × (slice_index bytes n ≡ 39) × NoQuoteFrom (n + 1) bytes)
