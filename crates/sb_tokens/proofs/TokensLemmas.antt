-- Facts on the token at the front.
use Rattle.std.proofs.Common.{◌≡◌, ℕ, zero, suc, ◌+◌, ◌-◌, ◌*◌, ◌^◌, ◌<◌, ◌≤◌, List, [], ◌∷◌, ◌++◌, refl, sym, ◌∙◌, ap, subst, Bool, true, false, cond, Option, Some, None, IfOk, IfSome, Result, Ok, Err, length, drop, take, take_while, arith, get_or, drop-cons}
use Rattle.std.specs.List.{prefix_len}
use Rattle.std.specs.Str.{IsAscii, is_utf8}
use Rattle.std.proofs.lemmas.List.{length-take}
use Rattle.std.proofs.lemmas.List.Folds.{length-prefix_len}
use Rattle.std.proofs.lemmas.List.Sums.{take_while-cons}
use Rattle.std.proofs.lemmas.Bool.Decides.{nat_tests}
use Rattle.sb_tokens.specs.Tokens.{is_word_byte, is_quote, Found, value_behind, ended, longer, or_else, text_behind, text_token}

-- ---- fronts of bytes
pub taken_front : (p : ℕ → Bool) (xs : List ℕ) (n : ℕ) → n ≡ length (take_while p xs) → take n xs ≡ take_while p xs
taken_front p xs n e = ap (λ k. take k xs) (e ∙ length-prefix_len p xs)

word_byte_small : (b : ℕ) → is_word_byte b ≡ true → b < 128
word_byte_small b e = grind (arith, nat_tests)

word_small : (b : ℕ) (front : List ℕ) (passes : Bool) → is_word_byte b ≡ passes → IsAscii front → IsAscii (cond passes (b ∷ front) [])
word_small b front true e h zero = word_byte_small b e
word_small b front true e h (suc i) = h i
word_small b front false e h i = omega arith

pub IsAscii-word : (bytes : List ℕ) → IsAscii (take_while is_word_byte bytes)
IsAscii-word [] = λ i. omega arith
IsAscii-word (b ∷ bytes) = subst IsAscii (sym (take_while-cons is_word_byte b bytes)) (word_small b (take_while is_word_byte bytes) (is_word_byte b) refl (IsAscii-word bytes))

-- ---- values of digits
value_grows : (n : ℕ) (digits : List ℕ) → n ≤ value_behind n digits
value_grows n [] = omega arith
value_grows n (d ∷ digits) = let h = value_grows (10 * n + (d - 48)) digits in omega arith

-- where the value so far is too large with the next digit, it is with all of them
pub value_beyond : (n i : ℕ) (digits : List ℕ) → i < length digits → value_behind n (drop i digits) ≡ value_behind 0 digits → (10 * n + (get_or digits i 0 - 48) < 2 ^ 64 → ⊥) → value_behind 0 digits < 2 ^ 64 → ⊥
value_beyond n i digits h e beyond small =
    let d = get_or digits i 0 in
    let g = value_grows (10 * n + (d - 48)) (drop (suc i) digits) in
    let w : value_behind n (d ∷ drop (suc i) digits) ≡ value_behind 0 digits = ap (value_behind n) (sym (drop-cons digits i 0 h)) ∙ e in
    beyond (omega arith)

-- ---- the token at the front
abbrev Within : ℕ → Found → Type 0
Within n found = IfSome found (λ t. (0 < t.1) × (t.1 ≤ n))

pub taken_within : (p : ℕ → Bool) (bytes : List ℕ) → length (take_while p bytes) ≤ length bytes
taken_within p bytes = omega (arith, length-take (prefix_len p bytes) bytes)

-- ---- texts
abbrev Reads : ℕ → Option (List ℕ × ℕ) → Type 0
Reads n found = IfSome found (λ f. f.1 ≤ n)

either_reads : (n : ℕ) (p : Bool) (f g : Option (List ℕ × ℕ)) → Reads n f → Reads n g → Reads n (cond p f g)
either_reads n true f g h k = h
either_reads n false f g h k = k

longer_reads : (k m n : ℕ) (found : Option (List ℕ × ℕ)) → k + m ≤ n → Reads m found → Reads n (longer k found)
longer_reads k m n None le h = tt
longer_reads k m n (Some f) le h = omega arith

or_else_reads : (n : ℕ) (f g : Option (List ℕ × ℕ)) → Reads n f → Reads n g → Reads n (or_else f g)
or_else_reads n None g h k = k
or_else_reads n (Some f) g h k = h

ended_reads : (n : ℕ) (text : List ℕ) → Reads (suc n) (ended text)
ended_reads n text = either_reads (suc n) (is_utf8 text) (Some (text, 1)) None (omega arith) tt

pub text_reads : (text bytes : List ℕ) → Reads (length bytes) (text_behind text bytes)
text_reads text [] = tt
text_reads text (b ∷ []) = either_reads 1 (is_quote b) (ended text) None (ended_reads 0 text) tt
text_reads text (b ∷ c ∷ bytes) =
    let n = length bytes in
    let doubled = text_behind (text ++ 39 ∷ []) bytes in
    let more = text_behind (text ++ b ∷ []) (c ∷ bytes) in
    either_reads (suc (suc n)) (is_quote b) _ _
    (either_reads (suc (suc n)) (is_quote c) _ _
    (or_else_reads (suc (suc n)) (longer 2 doubled) (ended text) (longer_reads 2 n (suc (suc n)) doubled (omega arith) (text_reads (text ++ 39 ∷ []) bytes)) (ended_reads (suc n) text))
    (ended_reads (suc n) text))
    (longer_reads 1 (suc n) (suc (suc n)) more (omega arith) (text_reads (text ++ b ∷ []) (c ∷ bytes)))

text_within : (n : ℕ) (found : Option (List ℕ × ℕ)) → Reads n found → Within (suc n) (text_token found)
text_within n None h = tt
text_within n (Some f) h = (omega arith, omega arith)

pub text_taken : {E : Type 0} (r : Result Found E) (bytes : List ℕ) → 0 < length bytes → IfOk r (λ found. found ≡ text_token (text_behind [] (drop 1 bytes))) → IfOk r (λ found. Within (length bytes) found)
text_taken (Ok found) [] h e = absurd (omega arith)
text_taken (Ok found) (b ∷ bytes) h e = subst (Within (suc (length bytes))) (sym e) (text_within (length bytes) (text_behind [] bytes) (text_reads [] bytes))
text_taken (Err fault) bytes h e = tt
