-- The token at the front of a text that is printed.
use Rattle.std.proofs.Common.{◌≡◌, ℕ, suc, ◌+◌, ◌-◌, ◌*◌, ◌/◌, ◌%◌, ◌^◌, ◌<◌, List, [], ◌∷◌, ◌++◌, codes, refl, sym, ◌∙◌, ap, subst, inl, inr, ◌⊎◌, Bool, true, false, cond, Some, None, Ok, Err, ℤ, pos, negsuc, length, take, take_while, arith, append_assoc, length-append}
use Rattle.std.specs.Prelude.{nat_le, nat_lt, ◌==◌}
use Rattle.std.specs.List.{flat_map, All}
use Rattle.std.specs.Fmt.{decimal, signed_decimal}
use Rattle.std.specs.Str.{is_utf8}
use Rattle.std.proofs.lemmas.List.{append-nil}
use Rattle.std.proofs.lemmas.List.Sums.{take_while-cons}
use Rattle.std.proofs.lemmas.List.Elements.{All-head, All-tail}
use Rattle.std.proofs.lemmas.Fmt.{decimal_by_steps}
use Rattle.std.proofs.lemmas.Bool.{lt-ltb, le-leb}
use Rattle.std.proofs.lemmas.Bool.Decides.{nat_tests}
use Rattle.std.proofs.Math.Seq.{take-append_seam}
use Rattle.hex.specs.Hex.{IsBytes, is_hex_digit, encode_lower, decode_of}
use Rattle.hex.proofs.HexLemmas.{decode_of-encode_lower, decode_of-ok}
use Rattle.sb_tokens.specs.declared.token.Sign.{Sign}
use Rattle.sb_tokens.specs.declared.token.Sign.TheVariants.{Open, Close, Comma, Dot, Equal, Unequal, Less, LessOrEqual, Greater, GreaterOrEqual}
use Rattle.sb_tokens.specs.declared.token.Token.{Token}
use Rattle.sb_tokens.specs.declared.token.Token.TheVariants as token
use Rattle.sb_tokens.specs.Tokens.{starts, is_letter, is_digit, is_word_byte, is_quote, word_token, value_behind, number_token, less_token, greater_token, ended, longer, or_else, text_behind, text_token, even_front, key_of, front_token}
use Rattle.sb_plain.specs.Values.{doubled, key_text}

-- ---- tests
pub when_true : {A : Type 0} (q : Bool) (x y : A) → q ≡ true → cond q x y ≡ x
when_true q x y e = ap (λ p. cond p x y) e

pub when_false : {A : Type 0} (q : Bool) (x y : A) → q ≡ false → cond q x y ≡ y
when_false q x y e = ap (λ p. cond p x y) e

-- ---- what ends a token: a space, a bracket, a comma, a dot, or the end of the line
abbrev pub IsEnd : ℕ → Type 0
IsEnd b = (b ≡ 32) ⊎ (b ≡ 40) ⊎ (b ≡ 41) ⊎ (b ≡ 44) ⊎ (b ≡ 46)

abbrev pub Ends : List ℕ → Type 0
Ends [] = Unit {0}
Ends (b ∷ bytes) = IsEnd b

at_end : (P : ℕ → Type 0) → P 32 → P 40 → P 41 → P 44 → P 46 → (b : ℕ) → IsEnd b → P b
at_end P space left right comma dot b (inl e) = subst P (sym e) space
at_end P space left right comma dot b (inr (inl e)) = subst P (sym e) left
at_end P space left right comma dot b (inr (inr (inl e))) = subst P (sym e) right
at_end P space left right comma dot b (inr (inr (inr (inl e)))) = subst P (sym e) comma
at_end P space left right comma dot b (inr (inr (inr (inr e)))) = subst P (sym e) dot

none_starts : (p : ℕ → Bool) → ((b : ℕ) → IsEnd b → p b ≡ false) → (rest : List ℕ) → Ends rest → starts p rest ≡ false
none_starts p fails [] h = refl
none_starts p fails (b ∷ rest) h = fails b h

no_word_byte : (b : ℕ) → IsEnd b → is_word_byte b ≡ false
no_word_byte = at_end (λ b. is_word_byte b ≡ false) refl refl refl refl refl

no_digit : (b : ℕ) → IsEnd b → is_digit b ≡ false
no_digit = at_end (λ b. is_digit b ≡ false) refl refl refl refl refl

no_quote : (b : ℕ) → IsEnd b → is_quote b ≡ false
no_quote = at_end (λ b. is_quote b ≡ false) refl refl refl refl refl

no_hex_digit : (b : ℕ) → IsEnd b → is_hex_digit b ≡ false
no_hex_digit = at_end (λ b. is_hex_digit b ≡ false) refl refl refl refl refl

-- ---- fronts of bytes that pass a test
abbrev pub Each : (ℕ → Bool) → List ℕ → Type 0
Each p [] = Unit {0}
Each p (b ∷ bytes) = (p b ≡ true) × Each p bytes

taken_all : (p : ℕ → Bool) (xs rest : List ℕ) → Each p xs → starts p rest ≡ false → take_while p (xs ++ rest) ≡ xs
taken_all p [] [] h e = refl
taken_all p [] (b ∷ rest) h e = take_while-cons p b rest ∙ when_false (p b) (b ∷ take_while p rest) [] e
taken_all p (x ∷ xs) rest h e = take_while-cons p x (xs ++ rest) ∙ when_true (p x) (x ∷ take_while p (xs ++ rest)) [] h.0 ∙ ap (λ ys. x ∷ ys) (taken_all p xs rest h.1 e)

each_more : (p : ℕ → Bool) (b : ℕ) (front : List ℕ) (q : Bool) → p b ≡ q → Each p front → Each p (cond q (b ∷ front) [])
each_more p b front true e h = (e, h)
each_more p b front false e h = tt

pub each_taken : (p : ℕ → Bool) (bytes : List ℕ) → Each p (take_while p bytes)
each_taken p [] = tt
each_taken p (b ∷ bytes) = subst (Each p) (sym (take_while-cons p b bytes)) (each_more p b (take_while p bytes) (p b) refl (each_taken p bytes))

each_append : (p : ℕ → Bool) (xs ys : List ℕ) → Each p xs → Each p ys → Each p (xs ++ ys)
each_append p [] ys h k = k
each_append p (x ∷ xs) ys h k = (h.0, each_append p xs ys h.1 k)

each_from_All : (p : ℕ → Bool) (xs : List ℕ) → All (λ b. p b ≡ true) xs → Each p xs
each_from_All p [] h = tt
each_from_All p (x ∷ xs) h = (All-head (λ b. p b ≡ true) x xs h, each_from_All p xs (All-tail (λ b. p b ≡ true) x xs h))

-- ---- words
pub record IsWord (w : List ℕ) : Type 0 where
  pub letter : starts is_letter w ≡ true
  pub each : Each is_word_byte w
  pub short : nat_le (length w) 32 ≡ true

word_front : (w rest : List ℕ) → IsWord w → Ends rest → front_token (w ++ rest) ≡ Some (token.Word w, length w)
word_front [] rest h e = absurd (let f = h.letter in cc)
word_front (b ∷ w) rest h e =
    when_true (is_letter b) (word_token (take_while is_word_byte (b ∷ (w ++ rest)))) _ h.letter
    ∙ ap word_token (taken_all is_word_byte (b ∷ w) rest h.each (none_starts is_word_byte no_word_byte rest e))
    ∙ when_true (nat_le (length (b ∷ w)) 32) (Some (token.Word (b ∷ w), length (b ∷ w))) None h.short

-- ---- numbers
letter_or_digit : (b : ℕ) → is_digit b ≡ true → is_letter b ≡ false
letter_or_digit b e = grind (arith, nat_tests)

digits_front : (ds rest : List ℕ) → Each is_digit ds → starts is_digit ds ≡ true → Ends rest → front_token (ds ++ rest) ≡ number_token false (value_behind 0 ds) (length ds)
digits_front [] rest h s e = absurd (let f = s in cc)
digits_front (d ∷ ds) rest h s e =
    when_false (is_letter d) _ _ (letter_or_digit d s) ∙ when_true (is_digit d) _ _ s
    ∙ ap (λ xs. number_token false (value_behind 0 xs) (length xs)) (taken_all is_digit (d ∷ ds) rest h (none_starts is_digit no_digit rest e))

value_more : (n : ℕ) (ds : List ℕ) (d : ℕ) → value_behind n (ds ++ d ∷ []) ≡ 10 * value_behind n ds + (d - 48)
value_more n [] d = refl
value_more n (c ∷ ds) d = value_more (10 * n + (c - 48)) ds d

record AreDigits (n : ℕ) (ds : List ℕ) : Type 0 where
  each : Each is_digit ds
  some : starts is_digit ds ≡ true
  value : value_behind 0 ds ≡ n

starts_more : (p : ℕ → Bool) (xs ys : List ℕ) → starts p xs ≡ true → starts p (xs ++ ys) ≡ true
starts_more p [] ys e = absurd (let f = e in cc)
starts_more p (x ∷ xs) ys e = e

a_digit : (n : ℕ) → n < 10 → is_digit (48 + n) ≡ true
a_digit n h = grind (arith, nat_tests)

decimal_digits : (n : ℕ) → n < 2 ^ 64 → AreDigits n (decimal n)
decimal_digits n h = decimal_by_steps AreDigits
    (λ n h. record { each = (a_digit n h, tt); some = a_digit n h; value = omega arith })
    (λ n ds h a. let d : is_digit (48 + n % 10) ≡ true = a_digit (n % 10) (omega arith) in
    let v : value_behind 0 ds ≡ n / 10 = a.value in
    record {
      each = each_append is_digit ds ((48 + n % 10) ∷ []) a.each (d, tt);
      some = starts_more is_digit ds ((48 + n % 10) ∷ []) a.some;
      value = value_more 0 ds (48 + n % 10) ∙ omega arith;
    }) n h

abbrev pub IsNumber : ℤ → Type 0
IsNumber (pos n) = n < 2 ^ 63
IsNumber (negsuc n) = n < 2 ^ 63

number_front : (z : ℤ) (rest : List ℕ) → IsNumber z → Ends rest → front_token (signed_decimal z ++ rest) ≡ Some (token.Int z, length (signed_decimal z))
number_front (pos n) rest h e =
    let d = decimal_digits n (omega arith) in
    digits_front (decimal n) rest d.each d.some e ∙ ap (λ v. number_token false v (length (decimal n))) d.value
    ∙ when_true (nat_lt n (2 ^ 63)) (Some (token.Int (pos n), length (decimal n))) None (lt-ltb n (2 ^ 63) h)
number_front (negsuc n) rest h e =
    let d = decimal_digits (suc n) (omega arith) in
    let len : 1 + length (decimal (suc n)) ≡ suc (length (decimal (suc n))) = omega arith in
    when_true (starts is_digit (decimal (suc n) ++ rest)) _ _ (starts_more is_digit (decimal (suc n)) rest d.some)
    ∙ ap (λ xs. number_token true (value_behind 0 xs) (1 + length xs)) (taken_all is_digit (decimal (suc n)) rest d.each (none_starts is_digit no_digit rest e))
    ∙ ap (λ v. number_token true v (1 + length (decimal (suc n)))) d.value
    ∙ when_true (nat_le (suc n) (2 ^ 63)) (Some (token.Int (negsuc n), 1 + length (decimal (suc n)))) None (le-leb (suc n) (2 ^ 63) (omega arith))
    ∙ ap (λ k. Some (token.Int (negsuc n), k)) len

-- ---- texts
ended_text : (text : List ℕ) → is_utf8 text ≡ true → ended text ≡ Some (text, 1)
ended_text text u = when_true (is_utf8 text) (Some (text, 1)) None u

closed : (done rest : List ℕ) → is_utf8 done ≡ true → starts is_quote rest ≡ false → text_behind done (39 ∷ rest) ≡ Some (done, 1)
closed done [] u e = ended_text done u
closed done (c ∷ rest) u e = when_false (is_quote c) (or_else (longer 2 (text_behind (done ++ 39 ∷ []) rest)) (ended done)) (ended done) e ∙ ended_text done u

-- a byte that is no quote
other_byte : (done bytes : List ℕ) (b : ℕ) → is_quote b ≡ false → text_behind done (b ∷ bytes) ≡ longer 1 (text_behind (done ++ b ∷ []) bytes)
other_byte done [] b e = when_false (is_quote b) (ended done) None e
other_byte done (c ∷ bytes) b e = when_false (is_quote b) _ _ e

is_39 : (b : ℕ) → is_quote b ≡ true → b ≡ 39
is_39 b e = grind (arith, nat_tests)

-- a byte more of a text
text_more : (done s rest : List ℕ) (b : ℕ) (q : Bool) → is_quote b ≡ q → text_behind (done ++ b ∷ []) (flat_map doubled s ++ 39 ∷ rest) ≡ Some ((done ++ b ∷ []) ++ s, length (flat_map doubled s) + 1) →
    text_behind done ((doubled b ++ flat_map doubled s) ++ 39 ∷ rest) ≡ Some (done ++ b ∷ s, length (doubled b ++ flat_map doubled s) + 1)
text_more done s rest b true e h =
    let d : doubled b ≡ 39 ∷ 39 ∷ [] = when_true (b == 39) (39 ∷ 39 ∷ []) (b ∷ []) e in
    let more : text_behind (done ++ 39 ∷ []) (flat_map doubled s ++ 39 ∷ rest) ≡ Some ((done ++ b ∷ []) ++ s, length (flat_map doubled s) + 1) = subst (λ c. text_behind (done ++ c ∷ []) (flat_map doubled s ++ 39 ∷ rest) ≡ Some ((done ++ b ∷ []) ++ s, length (flat_map doubled s) + 1)) (is_39 b e) h in
    let len : 2 + (length (flat_map doubled s) + 1) ≡ length (39 ∷ 39 ∷ flat_map doubled s) + 1 = omega arith in
    ap (λ x. text_behind done ((x ++ flat_map doubled s) ++ 39 ∷ rest)) d
    ∙ ap (λ found. or_else (longer 2 found) (ended done)) more
    ∙ (λ i. Some (append_assoc done (b ∷ []) s i, len i))
    ∙ ap (λ x. Some (done ++ b ∷ s, length (x ++ flat_map doubled s) + 1)) (sym d)
text_more done s rest b false e h =
    let d : doubled b ≡ b ∷ [] = when_false (b == 39) (39 ∷ 39 ∷ []) (b ∷ []) e in
    let len : 1 + (length (flat_map doubled s) + 1) ≡ length (b ∷ flat_map doubled s) + 1 = omega arith in
    ap (λ x. text_behind done ((x ++ flat_map doubled s) ++ 39 ∷ rest)) d
    ∙ other_byte done (flat_map doubled s ++ 39 ∷ rest) b e ∙ ap (longer 1) h
    ∙ (λ i. Some (append_assoc done (b ∷ []) s i, len i))
    ∙ ap (λ x. Some (done ++ b ∷ s, length (x ++ flat_map doubled s) + 1)) (sym d)

quoted_text : (done s rest : List ℕ) → is_utf8 (done ++ s) ≡ true → starts is_quote rest ≡ false → text_behind done (flat_map doubled s ++ 39 ∷ rest) ≡ Some (done ++ s, length (flat_map doubled s) + 1)
quoted_text done [] rest u e = closed done rest (subst (λ t. is_utf8 t ≡ true) (append-nil done) u) e ∙ ap (λ t. Some (t, 1)) (sym (append-nil done))
quoted_text done (b ∷ s) rest u e = text_more done s rest b (is_quote b) refl (quoted_text (done ++ b ∷ []) s rest (subst (λ t. is_utf8 t ≡ true) (sym (append_assoc done (b ∷ []) s)) u) e)

abbrev pub quoted : List ℕ → List ℕ
quoted s = codes "'" ++ flat_map doubled s ++ codes "'"

text_front : (s rest : List ℕ) → is_utf8 s ≡ true → Ends rest → front_token (quoted s ++ rest) ≡ Some (token.Text s, length (quoted s))
text_front s rest u e =
    let len : 1 + (length (flat_map doubled s) + 1) ≡ length (39 ∷ (flat_map doubled s ++ 39 ∷ [])) = omega (arith, length-append (flat_map doubled s) (39 ∷ [])) in
    ap (λ bytes. text_token (text_behind [] bytes)) (append_assoc (flat_map doubled s) (39 ∷ []) rest)
    ∙ ap text_token (quoted_text [] s rest u (none_starts is_quote no_quote rest e))
    ∙ ap (λ n. Some (token.Text s, n)) len

-- ---- record keys
half : (n : ℕ) → n % 2 ≡ 0 → 2 * (n / 2) ≡ n
half n e = omega arith

whole_front : (bytes : List ℕ) → length bytes % 2 ≡ 0 → even_front bytes ≡ bytes
whole_front bytes e = ap (λ n. take n bytes) (half (length bytes) e) ∙ ap (λ xs. take (length bytes) xs) (sym (append-nil bytes)) ∙ take-append_seam bytes []

key_front : (k rest : List ℕ) → IsBytes k → Ends rest → front_token (key_text k ++ rest) ≡ Some (token.Key k, length (key_text k))
key_front k rest b e =
    let d : decode_of (encode_lower k) ≡ Ok k = decode_of-encode_lower k b in
    let o = decode_of-ok (encode_lower k) k d in
    let taken : take_while is_hex_digit (encode_lower k ++ rest) ≡ encode_lower k = taken_all is_hex_digit (encode_lower k) rest (each_from_All is_hex_digit (encode_lower k) o.1) (none_starts is_hex_digit no_hex_digit rest e) in
    let len : 1 + length (encode_lower k) ≡ suc (length (encode_lower k)) = omega arith in
    ap (λ xs. key_of (even_front xs)) taken ∙ ap key_of (whole_front (encode_lower k) o.0)
    ∙ ap (λ r. elim r [ Ok key ↦ Some (token.Key key, 1 + length (encode_lower k)) | Err x ↦ None ]) d
    ∙ ap (λ n. Some (token.Key k, n)) len

-- ---- signs
abbrev pub sign_text : Sign → List ℕ
sign_text Open = codes "("
sign_text Close = codes ")"
sign_text Comma = codes ","
sign_text Dot = codes "."
sign_text Equal = codes "="
sign_text Unequal = codes "<>"
sign_text Less = codes "<"
sign_text LessOrEqual = codes "<="
sign_text Greater = codes ">"
sign_text GreaterOrEqual = codes ">="

less_front : (rest : List ℕ) → Ends rest → less_token rest ≡ Some (token.Sign Less, 1)
less_front rest e =
    when_false (starts (λ b. b == 62) rest) _ _ (none_starts (λ b. b == 62) (at_end (λ b. (b == 62) ≡ false) refl refl refl refl refl) rest e)
    ∙ when_false (starts (λ b. b == 61) rest) _ _ (none_starts (λ b. b == 61) (at_end (λ b. (b == 61) ≡ false) refl refl refl refl refl) rest e)

greater_front : (rest : List ℕ) → Ends rest → greater_token rest ≡ Some (token.Sign Greater, 1)
greater_front rest e = when_false (starts (λ b. b == 61) rest) _ _ (none_starts (λ b. b == 61) (at_end (λ b. (b == 61) ≡ false) refl refl refl refl refl) rest e)

sign_front : (s : Sign) (rest : List ℕ) → Ends rest → front_token (sign_text s ++ rest) ≡ Some (token.Sign s, length (sign_text s))
sign_front Open rest e = refl
sign_front Close rest e = refl
sign_front Comma rest e = refl
sign_front Dot rest e = refl
sign_front Equal rest e = refl
sign_front Unequal rest e = refl
sign_front Less rest e = less_front rest e
sign_front LessOrEqual rest e = refl
sign_front Greater rest e = greater_front rest e
sign_front GreaterOrEqual rest e = refl

-- ---- any token
abbrev pub token_text : Token → List ℕ
token_text (token.Word w) = w
token_text (token.Int z) = signed_decimal z
token_text (token.Text s) = quoted s
token_text (token.Key k) = key_text k
token_text (token.Sign s) = sign_text s

-- what holds of a token that was read
abbrev pub IsProper : Token → Type 0
IsProper (token.Word w) = IsWord w
IsProper (token.Int z) = IsNumber z
IsProper (token.Text s) = is_utf8 s ≡ true
IsProper (token.Key k) = IsBytes k
IsProper (token.Sign s) = Unit {0}

-- where it ends it is read again
pub printed_front : (t : Token) (rest : List ℕ) → IsProper t → Ends rest → front_token (token_text t ++ rest) ≡ Some (t, length (token_text t))
printed_front (token.Word w) rest h e = word_front w rest h e
printed_front (token.Int z) rest h e = number_front z rest h e
printed_front (token.Text s) rest h e = text_front s rest h e
printed_front (token.Key k) rest h e = key_front k rest h e
printed_front (token.Sign s) rest h e = sign_front s rest e
