-- A length field, as sb_bytes reads and writes it.
use Rattle.std.proofs.Common.{◌≡◌, ℕ, ◌<◌, List, [], ◌∷◌, length, get_or, sym, ◌∙◌, arith}
use Rattle.std.proofs.lemmas.List.{append-nil}
use Rattle.std.proofs.lemmas.List.Elements.{All-from_recursion}
use Rattle.std.specs.Int.{to_be_bytes, w32}
use Rattle.sb_bytes.specs.Field.{number_at, with_number}
use Rattle.sb_bytes.proofs.FieldLaws.{writes_back}

-- the number that four bytes hold is spelled by them
pub to_be_bytes-number_at : (bytes : List ℕ) → length bytes ≡ 4 → ((i : ℕ) → get_or bytes i 0 < 256) → to_be_bytes w32 (number_at 4 bytes 0) ≡ bytes
unfolding with_number
to_be_bytes-number_at (a ∷ b ∷ c ∷ d ∷ []) four small =
    let bytes = a ∷ b ∷ c ∷ d ∷ [] in
    sym (append-nil (to_be_bytes w32 (number_at 4 bytes 0)))
    ∙ writes_back 4 0 bytes (omega arith) (All-from_recursion (λ (b : ℕ). b < 256) bytes (small 0, (small 1, (small 2, (small 3, tt)))))
to_be_bytes-number_at [] four small = absurd (omega arith)
to_be_bytes-number_at (a ∷ []) four small = absurd (omega arith)
to_be_bytes-number_at (a ∷ b ∷ []) four small = absurd (omega arith)
to_be_bytes-number_at (a ∷ b ∷ c ∷ []) four small = absurd (omega arith)
to_be_bytes-number_at (a ∷ b ∷ c ∷ d ∷ e ∷ rest) four small = absurd (omega arith)

-- a field of four bytes that was written holds the spelling
pub with_number-to_be_bytes : (bytes : List ℕ) (n : ℕ) → length bytes ≡ 4 → with_number 4 bytes 0 n ≡ to_be_bytes w32 n
unfolding with_number
with_number-to_be_bytes (a ∷ b ∷ c ∷ d ∷ []) n four = append-nil (to_be_bytes w32 n)
with_number-to_be_bytes [] n four = absurd (omega arith)
with_number-to_be_bytes (a ∷ []) n four = absurd (omega arith)
with_number-to_be_bytes (a ∷ b ∷ []) n four = absurd (omega arith)
with_number-to_be_bytes (a ∷ b ∷ c ∷ []) n four = absurd (omega arith)
with_number-to_be_bytes (a ∷ b ∷ c ∷ d ∷ e ∷ rest) n four = absurd (omega arith)
