-- Fields of fixed width in a row of bytes, the highest byte first.
use Rattle.std.specs.Prelude.{◌≡◌, ℕ, ◌+◌, ◌^◌, ◌<◌, ◌≤◌, ◌⊎◌, List, ◌++◌, length, take, drop, All}
use Rattle.byteorder.specs.Endian.{big_number, big_bytes}

-- the number in the n bytes from a place
unfoldable pub number_at : ℕ → List ℕ → ℕ → ℕ
number_at n bytes at = big_number n (drop at bytes)

-- the bytes with a number in the n bytes from a place: those before it, the field, those behind it
unfoldable pub with_number : ℕ → List ℕ → ℕ → ℕ → List ℕ
with_number n bytes at number = take at bytes ++ big_bytes n number ++ drop (at + n) bytes

-- each is a byte
abbrev pub AreBytes : List ℕ → Type 0
AreBytes = All (λ b. b < 256)

-- reading a field gives the number that was written to it
abbrev pub ReadsBack : Type 0
ReadsBack =
    (n at number : ℕ) (bytes : List ℕ) → at + n ≤ length bytes → number < 256 ^ n
    → number_at n (with_number n bytes at number) at ≡ number

-- a field that was read and is written again leaves the bytes
abbrev pub WritesBack : Type 0
WritesBack =
    (n at : ℕ) (bytes : List ℕ) → at + n ≤ length bytes → AreBytes bytes
    → with_number n bytes at (number_at n bytes at) ≡ bytes

-- a field that lies elsewhere is read as before
abbrev pub LeavesOthers : Type 0
LeavesOthers =
    (n at number m place : ℕ) (bytes : List ℕ) → at + n ≤ length bytes → (place + m ≤ at) ⊎ (at + n ≤ place)
    → number_at m (with_number n bytes at number) place ≡ number_at m bytes place
