-- What an image reads as: the chunks behind open gates.
use Rattle.std.specs.Prelude.{◌≡◌, ℕ, ◌+◌, ◌^◌, ◌<◌, ◌≤◌, List, [], ◌∷◌, ◌++◌, length, slice_index, take, drop}
use Rattle.std.specs.Int.{to_be_bytes, w32}
use Rattle.sb_disk.specs.Disk.{Range}

-- the gate at this place is open
abbrev pub IsOpen : List ℕ → ℕ → Type 0
IsOpen image gate = slice_index image gate ≡ 165

-- Chunk number i counts where the gates up to i are open. It is its length in four bytes, the highest first, and so many bytes.
abbrev pub ReadsFrom : ℕ → ℕ → ℕ → ℕ → List ℕ → List (List ℕ) → Type 0
ReadsFrom gate gates_end at log_end image [] = gate < gates_end → ¬ IsOpen image gate
ReadsFrom gate gates_end at log_end image (chunk ∷ chunks) =
    (gate < gates_end) × IsOpen image gate
    × (at + 4 + length chunk ≤ log_end)
    × (take (4 + length chunk) (drop at image) ≡ to_be_bytes w32 (length chunk) ++ chunk)
    × ReadsFrom (gate + 1) gates_end (at + 4 + length chunk) log_end image chunks

-- with these two regions the image reads as these chunks
abbrev pub ReadsAs : Range → Range → List ℕ → List (List ℕ) → Type 0
ReadsAs gates log image chunks =
    ReadsFrom gates.start (gates.start + gates.len) log.start (log.start + log.len) image chunks

-- the bytes that chunks of these lengths take, with their length fields
abbrev pub bytes_of : List ℕ → ℕ
bytes_of [] = 0
bytes_of (n ∷ lens) = 4 + n + bytes_of lens

-- the chunks of these lengths that stand from a place on
abbrev pub chunks_from : ℕ → List ℕ → List ℕ → List (List ℕ)
chunks_from at [] image = []
chunks_from at (n ∷ lens) image = take n (drop (at + 4) image) ∷ chunks_from (at + 4 + n) lens image

-- where chunks of these lengths begin, from a place on
abbrev pub places_from : ℕ → List ℕ → List ℕ
places_from at [] = []
places_from at (n ∷ lens) = at ∷ places_from (at + 4 + n) lens

-- an image reads as one list of chunks at most, in a log as short as a journal's
abbrev pub ReadsOneWay : Type 0
ReadsOneWay =
    (gates log : Range) (image : List ℕ) (xs ys : List (List ℕ)) → log.len < 2 ^ 32
    → ReadsAs gates log image xs → ReadsAs gates log image ys → xs ≡ ys
