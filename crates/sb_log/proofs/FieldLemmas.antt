-- Fields and byte strings that stand one behind the other.
use Rattle.std.proofs.Common.{◌≡◌, ℕ, zero, suc, ◌+◌, ◌^◌, ◌<◌, ◌≤◌, List, ◌++◌, length, take, drop, get_or, refl, sym, ap, ◌∙◌, arith}
use Rattle.std.specs.Int.{bytes_high_first}
use Rattle.std.proofs.lemmas.List.{take_at, drop_at, drop-drop, get_or-drop, length-append, length-take, length-drop}
use Rattle.std.proofs.lemmas.Grind.{get_or_default_zero}
use Rattle.sb_bytes.specs.Field.{number_at, with_number, AreBytes}
use Rattle.sb_bytes.proofs.FieldLaws.{reads_back}
use Rattle.sb_bytes.proofs.Fronts.{front_and_rest}

pub are_bytes : (bytes : List ℕ) → ((i : ℕ) → get_or bytes i 0 < 256) → AreBytes bytes
are_bytes bytes small k d within = rw (get_or_default_zero bytes k d within) (small k)

AreBytes-drop : (n : ℕ) (bytes : List ℕ) → AreBytes bytes → AreBytes (drop n bytes)
AreBytes-drop n bytes are k d within = rw (get_or-drop n bytes k d) (are (n + k) d (omega (arith, length-drop n bytes)))

number_at-drop : (k at : ℕ) (bytes : List ℕ) → number_at k (drop at bytes) 0 ≡ number_at k bytes at
unfolding number_at
number_at-drop k at bytes = refl

-- the bytes from a place on are the field there and what stands behind it
pub field_and_rest : (k at n : ℕ) (bytes : List ℕ) → at + k ≤ length bytes → AreBytes bytes → n ≡ number_at k bytes at
    → drop at bytes ≡ bytes_high_first k n ++ drop (at + k) bytes
field_and_rest k at n bytes long are is =
    front_and_rest k (drop at bytes) (omega (arith, length-drop at bytes)) (AreBytes-drop at bytes are)
    ∙ ap (λ (m : ℕ). bytes_high_first k m ++ drop k (drop at bytes)) (number_at-drop k at bytes ∙ sym is)
    ∙ ap (λ (l : List ℕ). bytes_high_first k n ++ l) (drop-drop k at bytes)

length-field : (k n : ℕ) → length (bytes_high_first k n) ≡ k
length-field zero n = refl
length-field (suc zero) n = refl
length-field (suc (suc k)) n = omega (arith, length-field (suc k) n)

-- a field in front is one that was put there
with_number-front : (k n : ℕ) (rest : List ℕ) → with_number k (bytes_high_first k n ++ rest) 0 n ≡ bytes_high_first k n ++ rest
unfolding with_number
with_number-front k n rest = ap (λ (l : List ℕ). bytes_high_first k n ++ l) (drop_at (bytes_high_first k n) rest (0 + k) (omega (arith, length-field k n)))

-- a field in front is read
pub number_at-front : (k n : ℕ) (rest : List ℕ) → n < 256 ^ k → number_at k (bytes_high_first k n ++ rest) 0 ≡ n
number_at-front k n rest below =
    ap (λ (l : List ℕ). number_at k l 0) (sym (with_number-front k n rest))
    ∙ reads_back k 0 n (bytes_high_first k n ++ rest) (omega (arith, length-append (bytes_high_first k n) rest, length-field k n)) below

-- a field is read behind what stands in front of it
pub number_at-behind : (k n at : ℕ) (front rest : List ℕ) → length front ≡ n → number_at k (front ++ rest) (n + at) ≡ number_at k rest at
unfolding number_at
number_at-behind k n at front rest long =
    sym (number_at-drop k (n + at) (front ++ rest))
    ∙ ap (λ (l : List ℕ). number_at k l 0) (sym (drop-drop at n (front ++ rest)) ∙ ap (λ (l : List ℕ). drop at l) (drop_at front rest n long))
    ∙ number_at-drop k at rest

-- the bytes up to the end of a field that was put
pub take-with_number : (k at n : ℕ) (bytes : List ℕ) → at + k ≤ length bytes → take (at + k) (with_number k bytes at n) ≡ take at bytes ++ bytes_high_first k n
unfolding with_number
take-with_number k at n bytes long =
    take_at (take at bytes ++ bytes_high_first k n) (drop (at + k) bytes) (at + k)
    (omega (arith, length-append (take at bytes) (bytes_high_first k n), length-take at bytes, length-field k n))

-- of two rows of bytes in front, of one length, neither goes on behind the other
pub same_fronts_of : (a b x y : List ℕ) → length a ≡ length b → a ++ x ≡ b ++ y → (a ≡ b) × (x ≡ y)
same_fronts_of a b x y long same = (
  sym (take_at a x (length b) long) ∙ ap (λ (l : List ℕ). take (length b) l) same ∙ take_at b y (length b) refl,
  sym (drop_at a x (length b) long) ∙ ap (λ (l : List ℕ). drop (length b) l) same ∙ drop_at b y (length b) refl,
)
