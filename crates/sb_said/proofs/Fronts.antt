-- What tokens of a line are.
use Rattle.std.proofs.Common.{◌≡◌, ℕ, zero, suc, ◌+◌, ◌^◌, ◌==◌, ◌&&◌, List, [], ◌∷◌, ◌++◌, length, drop, take_while, Bool, true, false, cond, Option, Some, None, IfSome, Result, Ok, Err, refl, sym, ap, subst, ◌∙◌}
use Rattle.std.specs.Prelude.{All, nat_lt, nat_le, pos, IsUtf8, FitsSigned}
use Rattle.std.specs.Int.{w64}
use Rattle.std.specs.List.{list_any}
use Rattle.std.specs.Str.{is_utf8}
use Rattle.std.proofs.lemmas.Bool.{true≢false, leb-true, ne_eqb, or_from}
use Rattle.std.proofs.lemmas.List.Elements.{All-nil, All-cons}
use Rattle.std.proofs.lemmas.List.Sums.{take_while-cons}
use Rattle.std.proofs.lemmas.Str.{IsUtf8-from_is_utf8}
use Rattle.hex.specs.Hex.{is_hex_digit, decode_of}
use Rattle.sb_tokens.specs.declared.token.Token.{Token}
use Rattle.sb_tokens.specs.declared.token.Token.TheVariants as token
use Rattle.sb_tokens.specs.declared.token.Placed.{Placed}
use Rattle.sb_tokens.specs.declared.token.Ending.{Ending}
use Rattle.sb_tokens.specs.Rows.{blanks, behind_blanks, AreTokens, tokens_of}
use Rattle.sb_tokens.specs.Tokens.{is_letter, is_digit, is_word_byte, is_quote, Found, word_token, value_behind, minus, number_token, digits_of, starts, sign_token, less_token, greater_token, ended, longer, or_else, text_behind, text_token, even_front, key_of, front_token}
use Rattle.sb_plain.proofs.ValueLemmas.{storable_int}
use Rattle.sb_lawful.specs.Laws.{IsDotless}

-- a word has no dot, a number has 64 bits, and a text is UTF-8
abbrev pub IsPlain : Token → Type 0
IsPlain (token.Word text) = IsDotless text
IsPlain (token.Int n) = FitsSigned w64 n
IsPlain (token.Text s) = IsUtf8 s
IsPlain (token.Key bytes) = Unit {0}
IsPlain (token.Sign sign) = Unit {0}

abbrev Finds : Found → Type 0
Finds found = IfSome found (λ f. IsPlain f.0)

either : (b : Bool) (f g : Found) → Finds f → Finds g → Finds (cond b f g)
either true f g h k = h
either false f g h k = k

-- ---- words
no_dot : (b : ℕ) → is_word_byte b ≡ true → ◌≡◌ {A = ℕ} b 46 → ⊥
no_dot b is e = true≢false (sym is ∙ ap is_word_byte e)

dotless_front : (bytes : List ℕ) → IsDotless (take_while is_word_byte bytes)
dotless_front [] = refl
dotless_front (b ∷ bytes) = subst IsDotless (sym (take_while-cons is_word_byte b bytes)) (of_test (is_word_byte b) refl (dotless_front bytes))
  where
    of_test : (p : Bool) → is_word_byte b ≡ p → IsDotless (take_while is_word_byte bytes) → IsDotless (cond p (b ∷ take_while is_word_byte bytes) [])
    of_test true is rest = or_from (b == 46) (list_any (λ x. x == 46) (take_while is_word_byte bytes)) (ne_eqb b 46 (no_dot b is)) rest
    of_test false is rest = refl

word_finds : (text : List ℕ) → IsDotless text → Finds (word_token text)
word_finds text dotless = either (nat_le (length text) 32) (Some (token.Word text, length text)) None dotless tt

-- ---- numbers
below_fits : (n : ℕ) → nat_le n (2 ^ 63) ≡ true → FitsSigned w64 (minus n)
below_fits zero e = storable_int (pos zero) refl
below_fits (suc n) e = record { sfits = leb-true (suc n) (2 ^ 63) e }

number_finds : (negative : Bool) (n len : ℕ) → Finds (number_token negative n len)
number_finds false n len = of_test (nat_lt n (2 ^ 63)) refl
  where
    of_test : (b : Bool) → nat_lt n (2 ^ 63) ≡ b → Finds (cond b (Some (token.Int (pos n), len)) None)
    of_test true e = storable_int (pos n) e
    of_test false e = tt
number_finds true n len = of_test (nat_le n (2 ^ 63)) refl
  where
    of_test : (b : Bool) → nat_le n (2 ^ 63) ≡ b → Finds (cond b (Some (token.Int (minus n), len)) None)
    of_test true e = below_fits n e
    of_test false e = tt

-- ---- signs
less_finds : (bs : List ℕ) → Finds (less_token bs)
less_finds bs = either (starts (λ b. b == 62) bs) _ _ tt (either (starts (λ b. b == 61) bs) _ _ tt tt)

greater_finds : (bs : List ℕ) → Finds (greater_token bs)
greater_finds bs = either (starts (λ b. b == 61) bs) _ _ tt tt

sign_finds : (b : ℕ) (bs : List ℕ) → Finds (sign_token b bs)
sign_finds b bs =
    either (b == 40) _ _ tt
    (either (b == 41) _ _ tt
    (either (b == 44) _ _ tt
    (either (b == 46) _ _ tt (either (b == 61) _ _ tt (either (b == 60) _ _ (less_finds bs) (either (b == 62) _ _ (greater_finds bs) tt))))))

-- ---- texts
abbrev IsText : Option (List ℕ × ℕ) → Type 0
IsText found = IfSome found (λ f. IsUtf8 f.0)

either_text : (b : Bool) (f g : Option (List ℕ × ℕ)) → IsText f → IsText g → IsText (cond b f g)
either_text true f g h k = h
either_text false f g h k = k

ended_text : (text : List ℕ) → IsText (ended text)
ended_text text = of_test (is_utf8 text) refl
  where
    of_test : (b : Bool) → is_utf8 text ≡ b → IsText (cond b (Some (text, 1)) None)
    of_test true e = IsUtf8-from_is_utf8 text e
    of_test false e = tt

longer_text : (n : ℕ) (found : Option (List ℕ × ℕ)) → IsText found → IsText (longer n found)
longer_text n None is = tt
longer_text n (Some f) is = is

or_text : (f g : Option (List ℕ × ℕ)) → IsText f → IsText g → IsText (or_else f g)
or_text None g h k = k
or_text (Some f) g h k = h

behind_text : (text bytes : List ℕ) → IsText (text_behind text bytes)
behind_text text [] = tt
behind_text text (b ∷ []) = either_text (is_quote b) (ended text) None (ended_text text) tt
behind_text text (b ∷ c ∷ bytes) =
    let doubled : Option (List ℕ × ℕ) = longer 2 (text_behind (text ++ 39 ∷ []) bytes) in
    let is_doubled : IsText doubled = longer_text 2 (text_behind (text ++ 39 ∷ []) bytes) (behind_text (text ++ 39 ∷ []) bytes) in
    either_text (is_quote b) (cond (is_quote c) (or_else doubled (ended text)) (ended text)) (longer 1 (text_behind (text ++ b ∷ []) (c ∷ bytes)))
    (either_text (is_quote c) (or_else doubled (ended text)) (ended text) (or_text doubled (ended text) is_doubled (ended_text text)) (ended_text text))
    (longer_text 1 (text_behind (text ++ b ∷ []) (c ∷ bytes)) (behind_text (text ++ b ∷ []) (c ∷ bytes)))

text_finds : (found : Option (List ℕ × ℕ)) → IsText found → Finds (text_token found)
text_finds None is = tt
text_finds (Some f) is = is

-- ---- keys
key_finds : (digits : List ℕ) → Finds (key_of digits)
key_finds digits = of_decoded (decode_of digits)
  where
    of_decoded : {E : Type 0} (r : Result (List ℕ) E) → Finds (elim r as (λ _. Found) [ Ok key ↦ Some (token.Key key, 1 + length digits) | Err e ↦ None ])
    of_decoded (Ok key) = tt
    of_decoded (Err e) = tt

-- ---- the token at the front
front_finds : (bytes : List ℕ) → Finds (front_token bytes)
front_finds [] = tt
front_finds (b ∷ bs) =
    either (is_letter b) _ _ (word_finds (take_while is_word_byte (b ∷ bs)) (dotless_front (b ∷ bs)))
    (either (is_digit b) _ _ (number_finds false (value_behind 0 (digits_of (b ∷ bs))) (length (digits_of (b ∷ bs))))
    (either (b == 45 && starts is_digit bs) _ _ (number_finds true (value_behind 0 (digits_of bs)) (1 + length (digits_of bs)))
    (either (is_quote b) _ _ (text_finds (text_behind [] bs) (behind_text [] bs))
    (either (b == 64) _ _ (key_finds (even_front (take_while is_hex_digit bs))) (sign_finds b bs)))))

-- ---- all tokens
pub row_plain : (before : ℕ) (bytes : List ℕ) (tokens : List Placed) (ending : Ending) → AreTokens before bytes tokens ending → All IsPlain (tokens_of tokens)
row_plain before bytes [] ending is = All-nil IsPlain
row_plain before bytes (t ∷ ts) ending is =
    All-cons IsPlain t.token (tokens_of ts) (subst Finds is.1 (front_finds (behind_blanks bytes)))
    (row_plain (before + blanks bytes + is.0) (drop is.0 (behind_blanks bytes)) ts ending is.3)
