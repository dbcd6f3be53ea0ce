-- Texts that are UTF-8: words in ASCII, numbers, record keys, texts between quotes, and lists of such.
use Rattle.std.proofs.Common.{◌≡◌, ℕ, suc, ◌^◌, ◌<◌, ◌≤◌, codes, Bool, true, false, cond, ◌&&◌, ◌==◌, nat_lt, List, [], ◌∷◌, ◌++◌, length, get_or, map, All, IsUtf8, FitsSigned, inl, inr, refl, sym, ap, ap₂, subst, arith, append-nil, ltb-true}
use Rattle.std.specs.Prelude.{ℤ}
use Rattle.std.specs.Fmt.{decimal, signed_decimal}
use Rattle.std.specs.Int.{w64}
use Rattle.std.specs.List.{flat_map}
use Rattle.std.specs.Str.{IsAscii}
use Rattle.std.proofs.lemmas.Bool.{and_parts, cases_lt, ne_eqb}
use Rattle.std.proofs.lemmas.Fmt.{IsAscii-decimal, IsAscii-signed}
use Rattle.std.proofs.lemmas.Grind.{flat_map-append}
use Rattle.std.proofs.lemmas.List.Elements.{All-head, All-tail}
use Rattle.std.proofs.lemmas.Str.{IsUtf8-append, IsUtf8-encode, IsUtf8-from_ascii, IsUtf8-nil, encode_ascii, inside_one}
use Rattle.std.proofs.lemmas.Str.Ascii.{IsAscii-cons, IsAscii-nil}
use lib.Utf8.{scalar, scalars, encode, encodes}
use Rattle.hex.specs.Hex.{encode_lower, lower_digits}
use Rattle.hex.proofs.HexLemmas.{IsAscii-encode_with}
use Rattle.sb_value.specs.declared.value.Value.{Value}
use Rattle.sb_value.specs.declared.value.Value.TheVariants.{Int, Text}
use Rattle.sb_value.specs.Spelling.{IsStorable}
use Rattle.sb_pred.specs.Spelling.{IsStorableName}
use Rattle.sb_plain.specs.Values.{doubled, joined, key_text, listed, value_text}
use Rattle.sb_plain.specs.Printing.{also_if, in_brackets_if, spaced}

-- ---- words
abbrev pub are_ascii : List ℕ → Bool
are_ascii [] = true
are_ascii (b ∷ bs) = nat_lt b 128 && are_ascii bs

ascii-word : (bs : List ℕ) → are_ascii bs ≡ true → IsAscii bs
ascii-word [] low = IsAscii-nil
ascii-word (b ∷ bs) low = let both = and_parts _ _ low in IsAscii-cons b bs (ltb-true _ _ both.0) (ascii-word bs both.1)

pub utf8-word : (bs : List ℕ) → are_ascii bs ≡ true → IsUtf8 bs
utf8-word bs low = IsUtf8-from_ascii bs (ascii-word bs low)

pub utf8-cond : (q : Bool) (a b : List ℕ) → IsUtf8 a → IsUtf8 b → IsUtf8 (cond q a b)
utf8-cond true a b u v = u
utf8-cond false a b u v = v

-- ---- numbers and record keys
pub utf8-decimal : (n : ℕ) → n < 2 ^ 16 → IsUtf8 (decimal n)
utf8-decimal n small = IsUtf8-from_ascii (decimal n) (IsAscii-decimal n (omega arith))

pub utf8-signed : (n : ℤ) → FitsSigned w64 n → IsUtf8 (signed_decimal n)
utf8-signed n fits = IsUtf8-from_ascii (signed_decimal n) (IsAscii-signed n fits.sfits)

pub utf8-key : (key : List ℕ) → IsUtf8 (key_text key)
utf8-key key =
    IsUtf8-append (codes "@") (encode_lower key) (utf8-word (codes "@") refl)
    (IsUtf8-from_ascii (encode_lower key) (IsAscii-encode_with lower_digits key (ascii-word lower_digits refl)))

-- ---- texts between quotes
-- no byte of a character that has more than one is a quote
not-doubled : (bs : List ℕ) → ((k : ℕ) → k < length bs → 128 ≤ get_or bs k 0) → flat_map doubled bs ≡ bs
not-doubled [] high = refl
not-doubled (b ∷ bs) high =
    let here : 128 ≤ b = high 0 (omega arith) in
    let other : (b == 39) ≡ false = ne_eqb b 39 (λ same. omega arith) in
    ap₂ (λ (xs ys : List ℕ). xs ++ ys) (ap (λ q. cond q (39 ∷ 39 ∷ []) (b ∷ [])) other) (not-doubled bs (λ k below. high (suc k) (omega arith)))

utf8-doubled : (b : ℕ) → b < 128 → IsUtf8 (doubled b)
utf8-doubled b low = utf8-cond (b == 39) (39 ∷ 39 ∷ []) (b ∷ []) (utf8-word (39 ∷ 39 ∷ []) refl) (IsUtf8-from_ascii (b ∷ []) (IsAscii-cons b [] low IsAscii-nil))

doubled-char : (c : ℕ) → scalar c ≡ true → IsUtf8 (flat_map doubled (encode c))
doubled-char c ok = elim (cases_lt c 128) [
  | inl small ↦ rw (encode_ascii c small, append-nil) (utf8-doubled c small)
  | inr big ↦
      let high : (k : ℕ) → k < length (encode c) → 128 ≤ get_or (encode c) k 0 = λ k below. elim (cases_lt (get_or (encode c) k 0) 128) [
        | inl low ↦ absurd (omega (arith, inside_one c [] (encode c) k (sym (append-nil _)) below low))
        | inr h ↦ h
      ] in
      subst IsUtf8 (sym (not-doubled (encode c) high)) (IsUtf8-encode c ok)
]

doubled-chars : (cs : List ℕ) → scalars cs ≡ true → IsUtf8 (flat_map doubled (encodes cs))
doubled-chars [] ok = IsUtf8-nil
doubled-chars (c ∷ cs) ok =
    let both = and_parts _ _ ok in
    subst IsUtf8 (sym (flat_map-append doubled (encode c) (encodes cs))) (IsUtf8-append _ _ (doubled-char c both.0) (doubled-chars cs both.1))

quoted-inside : (s : List ℕ) → IsUtf8 s → IsUtf8 (flat_map doubled s)
quoted-inside s u = subst (λ (l : List ℕ). IsUtf8 (flat_map doubled l)) u.1.1 (doubled-chars u.0 u.1.0)

pub utf8-value : (v : Value) → IsStorable v → IsUtf8 (value_text v)
utf8-value (Int n) fits = utf8-signed n fits
utf8-value (Text s) is =
    IsUtf8-append (codes "'" ++ flat_map doubled s) (codes "'") (IsUtf8-append (codes "'") (flat_map doubled s) (utf8-word (codes "'") refl) (quoted-inside s is.0))
    (utf8-word (codes "'") refl)

-- ---- lists
abbrev pub AreUtf8 : List (List ℕ) → Type 0
AreUtf8 [] = Unit {0}
AreUtf8 (text ∷ texts) = IsUtf8 text × AreUtf8 texts

pub utf8-joined : (between : List ℕ) (texts : List (List ℕ)) → IsUtf8 between → AreUtf8 texts → IsUtf8 (joined between texts)
utf8-joined between [] u all = IsUtf8-nil
utf8-joined between (text ∷ []) u all = all.0
utf8-joined between (text ∷ next ∷ texts) u all =
    IsUtf8-append (text ++ between) (joined between (next ∷ texts)) (IsUtf8-append text between all.0 u) (utf8-joined between (next ∷ texts) u all.1)

pub utf8-spaced : (texts : List (List ℕ)) → AreUtf8 texts → IsUtf8 (spaced texts)
utf8-spaced texts all = utf8-joined (codes " ") texts (utf8-word (codes " ") refl) all

bracketed : (text : List ℕ) → IsUtf8 text → IsUtf8 (codes "(" ++ text ++ codes ")")
bracketed text u =
    IsUtf8-append (codes "(" ++ text) (codes ")") (IsUtf8-append (codes "(") text (utf8-word (codes "(") refl) u) (utf8-word (codes ")") refl)

pub utf8-listed : (texts : List (List ℕ)) → AreUtf8 texts → IsUtf8 (listed texts)
utf8-listed texts all = bracketed (joined (codes ", ") texts) (utf8-joined (codes ", ") texts (utf8-word (codes ", ") refl) all)

pub utf8-brackets : (wanted : Bool) (text : List ℕ) → IsUtf8 text → IsUtf8 (in_brackets_if wanted text)
utf8-brackets wanted text u = utf8-cond wanted (codes "(" ++ text ++ codes ")") text (bracketed text u) u

pub utf8-also : (wanted : Bool) (text : List ℕ) → IsUtf8 text → IsUtf8 (also_if wanted text)
utf8-also wanted text u = utf8-cond wanted (codes " " ++ text) [] (IsUtf8-append (codes " ") text (utf8-word (codes " ") refl) u) IsUtf8-nil

pub AreUtf8-map : {X : Type 0} (IsSo : X → Type 0) (text : X → List ℕ) → ((x : X) → IsSo x → IsUtf8 (text x)) → (xs : List X) → All IsSo xs → AreUtf8 (map text xs)
AreUtf8-map IsSo text each [] all = tt
AreUtf8-map IsSo text each (x ∷ xs) all = (each x (All-head IsSo x xs all), AreUtf8-map IsSo text each xs (All-tail IsSo x xs all))

pub AreUtf8-names : (names : List (List ℕ)) → All IsStorableName names → AreUtf8 names
AreUtf8-names [] all = tt
AreUtf8-names (name ∷ names) all = ((All-head IsStorableName name names all).0, AreUtf8-names names (All-tail IsStorableName name names all))
