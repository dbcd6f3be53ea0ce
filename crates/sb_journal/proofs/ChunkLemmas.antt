-- Images that agree where the chunks stand read alike.
use Rattle.std.proofs.Common.{◌≡◌, ◌≢◌, ℕ, suc, zero, ◌+◌, ◌<◌, ◌≤◌, List, [], ◌∷◌, ◌++◌, length, get_or, take, drop, refl, sym, ◌∙◌, ap, subst, arith, length-drop}
use Rattle.std.proofs.lemmas.List.{length-take}
use Rattle.std.specs.Int.{to_be_bytes, w32}
use Rattle.sb_disk.proofs.RangeLemmas.{same_slice}
use Rattle.sb_journal.specs.Chunks.{ReadsFrom, bytes_of, chunks_from, places_from}

-- the bytes that these chunks take, with their length fields
abbrev pub total : List (List ℕ) → ℕ
total [] = 0
total (chunk ∷ chunks) = 4 + length chunk + total chunks

pub length-chunks_from : (at : ℕ) (lens image : List ℕ) → length (chunks_from at lens image) ≡ length lens
length-chunks_from at [] image = refl
length-chunks_from at (n ∷ lens) image = ap suc (length-chunks_from (at + 4 + n) lens image)

pub total-chunks_from : (at : ℕ) (lens image : List ℕ) → at + bytes_of lens ≤ length image → total (chunks_from at lens image) ≡ bytes_of lens
total-chunks_from at [] image fits = refl
total-chunks_from at (n ∷ lens) image fits =
    omega (arith, length-take n (drop (at + 4) image), length-drop (at + 4) image, total-chunks_from (at + 4 + n) lens image (omega (arith, fits)))

pub chunks_from_kept : (at : ℕ) (lens old new : List ℕ) → length old ≡ length new → ((i : ℕ) → at ≤ i → i < at + bytes_of lens → get_or old i 0 ≡ get_or new i 0) → chunks_from at lens old ≡ chunks_from at lens new
chunks_from_kept at [] old new size same = refl
chunks_from_kept at (n ∷ lens) old new size same =
    let first : take n (drop (at + 4) old) ≡ take n (drop (at + 4) new) = same_slice (at + 4) n old new size (λ i from to. same i (omega arith) (omega arith)) in
    let rest = chunks_from_kept (at + 4 + n) lens old new size (λ i from to. same i (omega arith) (omega arith)) in
    cc

pub reads_kept : (chunks : List (List ℕ)) (gate gates_end at log_end : ℕ) (old new : List ℕ) → length old ≡ length new
    → ((i : ℕ) → gate ≤ i → i < gate + length chunks + 1 → i < gates_end → get_or old i 0 ≡ get_or new i 0)
    → ((i : ℕ) → at ≤ i → i < at + total chunks → get_or old i 0 ≡ get_or new i 0)
    → ReadsFrom gate gates_end at log_end old chunks → ReadsFrom gate gates_end at log_end new chunks
reads_kept [] gate gates_end at log_end old new size gates log reads = λ below is. reads below (gates gate (omega arith) (omega arith) below ∙ is)
reads_kept (chunk ∷ chunks) gate gates_end at log_end old new size gates log reads = (
  reads.0,
  sym (gates gate (omega arith) (omega arith) reads.0) ∙ reads.1,
  reads.2,
  sym (same_slice at (4 + length chunk) old new size (λ i from to. log i from (omega arith))) ∙ reads.3,
  reads_kept chunks (gate + 1) gates_end (at + 4 + length chunk) log_end old new size (λ i from to below. gates i (omega arith) (omega arith) below) (λ i from to. log i (omega arith) (omega arith)) reads.4,
)

-- the gate behind them is closed
pub reads_closed : (chunks : List (List ℕ)) (gate gates_end at log_end : ℕ) (old new : List ℕ) → length old ≡ length new
    → ((i : ℕ) → gate ≤ i → i < gate + length chunks → get_or old i 0 ≡ get_or new i 0)
    → ((i : ℕ) → at ≤ i → i < at + total chunks → get_or old i 0 ≡ get_or new i 0)
    → (gate + length chunks < gates_end → get_or new (gate + length chunks) 0 ≢ 165)
    → ReadsFrom gate gates_end at log_end old chunks → ReadsFrom gate gates_end at log_end new chunks
reads_closed [] gate gates_end at log_end old new size gates log shut reads =
    let same_gate : gate + 0 ≡ gate = omega arith in
    λ below is. shut (omega arith) (subst (λ (k : ℕ). get_or new k 0 ≡ 165) (sym same_gate) is)
reads_closed (chunk ∷ chunks) gate gates_end at log_end old new size gates log shut reads =
    let next_gate : gate + suc (length chunks) ≡ gate + 1 + length chunks = omega arith in (
      reads.0,
      sym (gates gate (omega arith) (omega arith)) ∙ reads.1,
      reads.2,
      sym (same_slice at (4 + length chunk) old new size (λ i from to. log i from (omega arith))) ∙ reads.3,
      reads_closed chunks (gate + 1) gates_end (at + 4 + length chunk) log_end old new size (λ i from to. gates i (omega arith) (omega arith)) (λ i from to. log i (omega arith) (omega arith))
          (λ below. subst (λ (k : ℕ). get_or new k 0 ≢ 165) next_gate (shut (omega arith))) reads.4,
    )

-- one chunk more, behind a gate that was opened
pub reads_more : (chunks : List (List ℕ)) (chunk : List ℕ) (gate gates_end at log_end : ℕ) (old new : List ℕ) → length old ≡ length new
    → ((i : ℕ) → gate ≤ i → i < gate + length chunks → get_or old i 0 ≡ get_or new i 0)
    → ((i : ℕ) → at ≤ i → i < at + total chunks → get_or old i 0 ≡ get_or new i 0)
    → gate + length chunks < gates_end → get_or new (gate + length chunks) 0 ≡ 165 → (gate + length chunks + 1 < gates_end → get_or new (gate + length chunks + 1) 0 ≢ 165)
    → at + total chunks + 4 + length chunk ≤ log_end → take (4 + length chunk) (drop (at + total chunks) new) ≡ to_be_bytes w32 (length chunk) ++ chunk
    → ReadsFrom gate gates_end at log_end old chunks → ReadsFrom gate gates_end at log_end new (chunks ++ chunk ∷ [])
reads_more [] chunk gate gates_end at log_end old new size gates log below is next fits spelled reads =
    let same_gate : gate + 0 ≡ gate = omega arith in
    let same_place : at + 0 ≡ at = omega arith in (
      omega arith,
      subst (λ (k : ℕ). get_or new k 0 ≡ 165) same_gate is,
      omega (arith, fits),
      subst (λ (k : ℕ). take (4 + length chunk) (drop k new) ≡ to_be_bytes w32 (length chunk) ++ chunk) same_place spelled,
      (λ next_below next_open. next (omega arith) (subst (λ (k : ℕ). get_or new (k + 1) 0 ≡ 165) (sym same_gate) next_open)),
    )
reads_more (first ∷ chunks) chunk gate gates_end at log_end old new size gates log below is next fits spelled reads =
    let next_gate : gate + suc (length chunks) ≡ gate + 1 + length chunks = omega arith in
    let next_place : at + (4 + length first + total chunks) ≡ at + 4 + length first + total chunks = omega arith in (
      reads.0,
      sym (gates gate (omega arith) (omega arith)) ∙ reads.1,
      reads.2,
      sym (same_slice at (4 + length first) old new size (λ i from to. log i from (omega arith))) ∙ reads.3,
      reads_more chunks chunk (gate + 1) gates_end (at + 4 + length first) log_end old new size (λ i from to. gates i (omega arith) (omega arith)) (λ i from to. log i (omega arith) (omega arith))
          (omega arith) (subst (λ (k : ℕ). get_or new k 0 ≡ 165) next_gate is) (λ next_below. subst (λ (k : ℕ). get_or new (k + 1) 0 ≢ 165) next_gate (next (omega arith)))
          (omega (arith, fits)) (subst (λ (k : ℕ). take (4 + length chunk) (drop k new) ≡ to_be_bytes w32 (length chunk) ++ chunk) next_place spelled) reads.4,
    )

pub chunks_from_more : (at n : ℕ) (lens image : List ℕ) → chunks_from at (lens ++ n ∷ []) image ≡ chunks_from at lens image ++ take n (drop (at + bytes_of lens + 4) image) ∷ []
chunks_from_more at n [] image = let place_is : at + 0 + 4 ≡ at + 4 = omega arith in ap (λ (k : ℕ). take n (drop k image) ∷ []) (sym place_is)
chunks_from_more at n (m ∷ lens) image =
    let place_is : at + (4 + m + bytes_of lens) + 4 ≡ at + 4 + m + bytes_of lens + 4 = omega arith in
    ap (λ (l : List (List ℕ)). take m (drop (at + 4) image) ∷ l)
    (chunks_from_more (at + 4 + m) n lens image ∙ ap (λ (k : ℕ). chunks_from (at + 4 + m) lens image ++ take n (drop k image) ∷ []) (sym place_is))

pub bytes_of_more : (lens : List ℕ) (n : ℕ) → bytes_of (lens ++ n ∷ []) ≡ bytes_of lens + 4 + n
bytes_of_more [] n = omega arith
bytes_of_more (m ∷ lens) n = omega (arith, bytes_of_more lens n)

-- ---- places
pub length-places_from : (at : ℕ) (lens : List ℕ) → length (places_from at lens) ≡ length lens
length-places_from at [] = refl
length-places_from at (n ∷ lens) = ap suc (length-places_from (at + 4 + n) lens)

pub places_from_more : (at n : ℕ) (lens : List ℕ) → places_from at (lens ++ n ∷ []) ≡ places_from at lens ++ (at + bytes_of lens) ∷ []
places_from_more at n [] = let place_is : at + 0 ≡ at = omega arith in ap (λ (k : ℕ). k ∷ []) (sym place_is)
places_from_more at n (m ∷ lens) =
    let place_is : at + (4 + m + bytes_of lens) ≡ at + 4 + m + bytes_of lens = omega arith in
    ap (λ (l : List ℕ). at ∷ l) (places_from_more (at + 4 + m) n lens ∙ ap (λ (k : ℕ). places_from (at + 4 + m) lens ++ k ∷ []) (sym place_is))

-- each chunk lies among the bytes of all
pub place_room : (at : ℕ) (lens : List ℕ) (i : ℕ) → i < length lens → get_or (places_from at lens) i 0 + 4 + get_or lens i 0 ≤ at + bytes_of lens
place_room at [] i below = absurd (omega arith)
place_room at (n ∷ lens) zero below = omega arith
place_room at (n ∷ lens) (suc i) below = let rest = place_room (at + 4 + n) lens i (omega arith) in omega arith

-- the chunk of a number is found at its place
pub chunk_at : (start at : ℕ) (lens image : List ℕ) (i : ℕ) → i < length lens → get_or (chunks_from (start + at) lens image) i [] ≡ take (get_or lens i 0) (drop (start + get_or (places_from at lens) i 0 + 4) image)
chunk_at start at [] image i below = absurd (omega arith)
chunk_at start at (n ∷ lens) image zero below = refl
chunk_at start at (n ∷ lens) image (suc i) below =
    let place_is : start + (at + 4 + n) ≡ start + at + 4 + n = omega arith in
    ap (λ (k : ℕ). get_or (chunks_from k lens image) i []) (sym place_is) ∙ chunk_at start (at + 4 + n) lens image i (omega arith)
