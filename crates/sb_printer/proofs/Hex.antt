-- The hex text of bytes.
use Rattle.std.proofs.Common.{◌≡◌, ◌<◌, ◌+◌, ◌/◌, ◌%◌, ℕ, zero, suc, List, [], ◌∷◌, ◌++◌, refl, sym, ◌∙◌, ap, length, take, get_or, arith, add-one, append_assoc}
use Rattle.std.proofs.lemmas.List.{append-nil}
use Rattle.hex.specs.Hex.{encode_with, encode_lower}

-- the text of one byte more
encode_more : (table bytes : List ℕ) (i : ℕ) → i < length bytes → encode_with table (take (suc i) bytes) ≡ encode_with table (take i bytes) ++ encode_with table (get_or bytes i 0 ∷ [])
unfolding encode_with
encode_more table [] i h = absurd (omega arith)
encode_more table (b ∷ bytes) zero h = refl
encode_more table (b ∷ bytes) (suc i) h = ap (λ s. get_or table (b / 16) 0 ∷ get_or table (b % 16) 0 ∷ s) (encode_more table bytes i (omega arith))

pub none_encoded : (old : List ℕ) → old ≡ old ++ encode_lower []
unfolding encode_with
none_encoded old = sym (append-nil old)

pub hex_more : (old out new bytes digits : List ℕ) (i : ℕ) → i < length bytes → out ≡ old ++ encode_lower (take i bytes) → new ≡ out ++ digits → digits ≡ encode_lower (get_or bytes i 0 ∷ []) → new ≡ old ++ encode_lower (take (i + 1) bytes)
hex_more old out new bytes digits i h e f g =
    f ∙ ap (λ s. s ++ digits) e ∙ append_assoc old (encode_lower (take i bytes)) digits
    ∙ ap (λ s. old ++ s) (ap (λ s. encode_lower (take i bytes) ++ s) g ∙ sym (encode_more _ bytes i h) ∙ ap (λ n. encode_lower (take n bytes)) (sym (add-one i)))
