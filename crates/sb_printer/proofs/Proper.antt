-- What holds of each token that was read.
use Rattle.std.proofs.Common.{◌≡◌, ℕ, zero, suc, ◌+◌, ◌^◌, List, [], ◌∷◌, ◌++◌, refl, sym, ◌∙◌, ap, subst, Bool, true, false, cond, Option, Some, None, Result, Ok, Err, pos, negsuc, length, take_while, arith}
use Rattle.std.specs.Prelude.{nat_le, nat_lt, ◌==◌, ◌&&◌, ◌||◌}
use Rattle.std.specs.Str.{is_utf8}
use Rattle.std.proofs.lemmas.List.Sums.{take_while-cons}
use Rattle.std.proofs.lemmas.Bool.{ltb-true, leb-true}
use Rattle.hex.specs.Hex.{is_hex_digit, decode_of}
use Rattle.hex.specs.declared.error.FromHexError.{FromHexError}
use Rattle.hex.proofs.HexLemmas.{decode_of-ok}
use Rattle.sb_tokens.specs.declared.token.Token.{Token}
use Rattle.sb_tokens.specs.declared.token.Token.TheVariants as token
use Rattle.sb_tokens.specs.Tokens.{Found, starts, is_letter, is_digit, is_word_byte, is_quote, word_token, value_behind, number_token, digits_of, sign_token, ended, longer, or_else, text_behind, text_token, even_front, front_token}
use Rattle.sb_printer.proofs.Fronts.{when_true, each_taken, IsProper}

-- ---- what was read is proper
abbrev pub AreProper : Found → Type 0
AreProper None = Unit {0}
AreProper (Some found) = IsProper found.0

either_proper : (q : Bool) (x y : Found) → (q ≡ true → AreProper x) → AreProper y → AreProper (cond q x y)
either_proper true x y h k = h refl
either_proper false x y h k = k

word_proper : (b : ℕ) (bs : List ℕ) → is_letter b ≡ true → AreProper (word_token (take_while is_word_byte (b ∷ bs)))
word_proper b bs e =
    let text = take_while is_word_byte (b ∷ bs) in
    let first : text ≡ b ∷ take_while is_word_byte bs = take_while-cons is_word_byte b bs ∙ when_true (is_word_byte b) (b ∷ take_while is_word_byte bs) [] (ap (λ p. p || is_digit b) e) in
    either_proper (nat_le (length text) 32) (Some (token.Word text, length text)) None
    (λ short. record { letter = subst (λ w. starts is_letter w ≡ true) (sym first) e; each = each_taken is_word_byte (b ∷ bs); short = short }) tt

number_proper : (q : Bool) (n len : ℕ) → AreProper (number_token q n len)
number_proper false n len = either_proper (nat_lt n (2 ^ 63)) (Some (token.Int (pos n), len)) None (λ e. ltb-true n (2 ^ 63) e) tt
number_proper true zero len = either_proper (nat_le 0 (2 ^ 63)) (Some (token.Int (pos zero), len)) None (λ e. omega arith) tt
number_proper true (suc n) len = either_proper (nat_le (suc n) (2 ^ 63)) (Some (token.Int (negsuc n), len)) None (λ e. let h = leb-true (suc n) (2 ^ 63) e in omega arith) tt

abbrev IsText : Option (List ℕ × ℕ) → Type 0
IsText None = Unit {0}
IsText (Some found) = is_utf8 found.0 ≡ true

either_text : (q : Bool) (x y : Option (List ℕ × ℕ)) → IsText x → IsText y → IsText (cond q x y)
either_text true x y h k = h
either_text false x y h k = k

longer_text : (n : ℕ) (x : Option (List ℕ × ℕ)) → IsText x → IsText (longer n x)
longer_text n None h = tt
longer_text n (Some found) h = h

first_text : (x y : Option (List ℕ × ℕ)) → IsText x → IsText y → IsText (or_else x y)
first_text None y h k = k
first_text (Some found) y h k = h

ended_at : (text : List ℕ) (q : Bool) → is_utf8 text ≡ q → IsText (cond q (Some (text, 1)) None)
ended_at text true e = e
ended_at text false e = tt

behind_text : (text bytes : List ℕ) → IsText (text_behind text bytes)
behind_text text [] = tt
behind_text text (b ∷ []) = either_text (is_quote b) (ended text) None (ended_at text (is_utf8 text) refl) tt
behind_text text (b ∷ c ∷ bytes) =
    let doubled = text_behind (text ++ 39 ∷ []) bytes in
    let e : IsText (ended text) = ended_at text (is_utf8 text) refl in
    either_text (is_quote b) _ _
    (either_text (is_quote c) (or_else (longer 2 doubled) (ended text)) (ended text)
    (first_text (longer 2 doubled) (ended text) (longer_text 2 doubled (behind_text (text ++ 39 ∷ []) bytes)) e) e)
    (longer_text 1 (text_behind (text ++ b ∷ []) (c ∷ bytes)) (behind_text (text ++ b ∷ []) (c ∷ bytes)))

text_proper : (x : Option (List ℕ × ℕ)) → IsText x → AreProper (text_token x)
text_proper None h = tt
text_proper (Some found) h = h

key_proper_of : (digits : List ℕ) (r : Result (List ℕ) FromHexError) → decode_of digits ≡ r → AreProper (elim r [ Ok key ↦ Some (token.Key key, 1 + length digits) | Err x ↦ None ])
key_proper_of digits (Ok key) e = (decode_of-ok digits key e).3
key_proper_of digits (Err x) e = tt

sign_proper : (b : ℕ) (bs : List ℕ) → AreProper (sign_token b bs)
sign_proper b bs =
    either_proper (b == 40) _ _ (λ e. tt) (either_proper (b == 41) _ _ (λ e. tt) (either_proper (b == 44) _ _ (λ e. tt) (either_proper (b == 46) _ _ (λ e. tt)
    (either_proper (b == 61) _ _ (λ e. tt)
    (either_proper (b == 60) _ _ (λ e. either_proper (starts (λ b. b == 62) bs) _ _ (λ e. tt) (either_proper (starts (λ b. b == 61) bs) _ _ (λ e. tt) tt))
    (either_proper (b == 62) _ _ (λ e. either_proper (starts (λ b. b == 61) bs) _ _ (λ e. tt) tt) tt))))))

front_proper : (bytes : List ℕ) → AreProper (front_token bytes)
front_proper [] = tt
front_proper (b ∷ bs) =
    either_proper (is_letter b) _ _ (λ e. word_proper b bs e)
    (either_proper (is_digit b) _ _ (λ e. number_proper false (value_behind 0 (digits_of (b ∷ bs))) (length (digits_of (b ∷ bs))))
    (either_proper (b == 45 && starts is_digit bs) _ _ (λ e. number_proper true (value_behind 0 (digits_of bs)) (1 + length (digits_of bs)))
    (either_proper (is_quote b) _ _ (λ e. text_proper (text_behind [] bs) (behind_text [] bs))
    (either_proper (b == 64) _ _ (λ e. key_proper_of (even_front (take_while is_hex_digit bs)) (decode_of (even_front (take_while is_hex_digit bs))) refl)
    (sign_proper b bs)))))

pub read_proper : (bytes : List ℕ) (t : Token) (len : ℕ) → front_token bytes ≡ Some (t, len) → IsProper t
read_proper bytes t len e = subst AreProper e (front_proper bytes)
