-- An image reads as one list of chunks at most, and as none where a chunk runs past the region.
use Rattle.std.proofs.Common.{◌≡◌, ⊎_elim, ℕ, suc, ◌+◌, ◌^◌, ◌<◌, ◌≤◌, List, [], ◌∷◌, ◌++◌, length, take, drop, refl, sym, ◌∙◌, ap, subst, arith}
use Rattle.std.proofs.lemmas.List.{take-take}
use Rattle.std.proofs.lemmas.Nat.{from_be_bytes-to_be_bytes_4}
use Rattle.std.specs.Int.{to_be_bytes, from_be_bytes, w32}
use Rattle.sb_journal.specs.Chunks.{IsOpen, ReadsFrom, ReadsOneWay, bytes_of}
use Rattle.sb_journal.specs.Opening.{BeginsFrom, EndsPast, PastIsUnread, PastIsOne}

-- four bytes spell one number
same_number : (m n : ℕ) (field : List ℕ) → m < 2 ^ 32 → n < 2 ^ 32 → field ≡ to_be_bytes w32 m → field ≡ to_be_bytes w32 n → m ≡ n
same_number m n field m_short n_short m_is n_is =
    sym (from_be_bytes-to_be_bytes_4 m m_short) ∙ ap (from_be_bytes w32) (sym m_is ∙ n_is) ∙ from_be_bytes-to_be_bytes_4 n n_short

-- the length field of a chunk
field_of : (chunk bytes : List ℕ) → take (4 + length chunk) bytes ≡ to_be_bytes w32 (length chunk) ++ chunk → take 4 bytes ≡ to_be_bytes w32 (length chunk)
field_of chunk bytes spelled = sym (take-take 4 (4 + length chunk) bytes (omega arith)) ∙ ap (take 4) spelled

-- chunks that stand at one place are one
same_chunk : (first second bytes : List ℕ) → length first < 2 ^ 32 → length second < 2 ^ 32
    → take (4 + length first) bytes ≡ to_be_bytes w32 (length first) ++ first
    → take (4 + length second) bytes ≡ to_be_bytes w32 (length second) ++ second → first ≡ second
same_chunk first second bytes first_short second_short first_is second_is =
    let long : length first ≡ length second =
    same_number (length first) (length second) (take 4 bytes) first_short second_short (field_of first bytes first_is) (field_of second bytes second_is) in
    sym (ap (drop 4) first_is) ∙ ap (λ (n : ℕ). drop 4 (take (4 + n) bytes)) long ∙ ap (drop 4) second_is

same_chunks : (xs ys : List (List ℕ)) (gate gates_end at log_end : ℕ) (image : List ℕ) → log_end < at + 2 ^ 32
    → ReadsFrom gate gates_end at log_end image xs → ReadsFrom gate gates_end at log_end image ys → xs ≡ ys
same_chunks [] [] gate gates_end at log_end image short first second = refl
same_chunks [] (y ∷ ys) gate gates_end at log_end image short first second = absurd (first second.0 second.1)
same_chunks (x ∷ xs) [] gate gates_end at log_end image short first second = absurd (second first.0 first.1)
same_chunks (x ∷ xs) (y ∷ ys) gate gates_end at log_end image short first second =
    let first_fits = first.2 in
    let second_fits = second.2 in
    let chunk : x ≡ y = same_chunk x y (drop at image) (omega arith) (omega arith) first.3 second.3 in
    let again = subst (λ (c : List ℕ). ReadsFrom (gate + 1) gates_end (at + 4 + length c) log_end image ys) (sym chunk) second.4 in
    let rest = same_chunks xs ys (gate + 1) gates_end (at + 4 + length x) log_end image (omega arith) first.4 again in
    λ i. chunk i ∷ rest i

pub one_reading : ReadsOneWay
one_reading gates log image xs ys short first second =
    same_chunks xs ys gates.start (gates.start + gates.len) log.start (log.start + log.len) image (omega arith) first second

-- a length that runs past leaves no room
past_room : (n at log_end : ℕ) (image : List ℕ) → log_end < at + 2 ^ 32 → EndsPast at log_end image
    → at + 4 + n ≤ log_end → take 4 (drop at image) ≡ to_be_bytes w32 n → ⊥
past_room n at log_end image short past fits spelled = ⊎_elim
    (λ (field : log_end < at + 4). absurd (omega arith))
    (λ (body : (m : ℕ) × (m < 2 ^ 32) × (take 4 (drop at image) ≡ to_be_bytes w32 m) × (log_end < at + 4 + m)).
    let over = body.3 in
    let same : n ≡ body.0 = same_number n body.0 (take 4 (drop at image)) (omega arith) body.1 spelled body.2 in
    absurd (omega arith))
    past

past_chunks : (lens : List ℕ) (chunks : List (List ℕ)) (gate gates_end at log_end : ℕ) (image : List ℕ) → log_end < at + 2 ^ 32
    → BeginsFrom gate gates_end at log_end image lens → gate + length lens < gates_end → IsOpen image (gate + length lens)
    → EndsPast (at + bytes_of lens) log_end image → ReadsFrom gate gates_end at log_end image chunks → ⊥
past_chunks [] [] gate gates_end at log_end image short begins below is_open past reads =
    let same_gate : gate + 0 ≡ gate = omega arith in
    reads (omega arith) (subst (λ (k : ℕ). IsOpen image k) same_gate is_open)
past_chunks [] (chunk ∷ chunks) gate gates_end at log_end image short begins below is_open past reads =
    let same_place : at + 0 ≡ at = omega arith in
    past_room (length chunk) at log_end image short (subst (λ (k : ℕ). EndsPast k log_end image) same_place past) reads.2 (field_of chunk (drop at image) reads.3)
past_chunks (n ∷ lens) [] gate gates_end at log_end image short begins below is_open past reads = absurd (reads begins.0 begins.1)
past_chunks (n ∷ lens) (chunk ∷ chunks) gate gates_end at log_end image short begins below is_open past reads =
    let fits = begins.2 in
    let chunk_fits = reads.2 in
    let long : length chunk ≡ n = same_number (length chunk) n (take 4 (drop at image)) (omega arith) (omega arith) (field_of chunk (drop at image) reads.3) begins.3 in
    let next_gate : gate + suc (length lens) ≡ gate + 1 + length lens = omega arith in
    let next_place : at + (4 + n + bytes_of lens) ≡ at + 4 + n + bytes_of lens = omega arith in
    past_chunks lens chunks (gate + 1) gates_end (at + 4 + n) log_end image (omega arith) begins.4 (omega arith)
    (subst (λ (k : ℕ). IsOpen image k) next_gate is_open)
    (subst (λ (k : ℕ). EndsPast k log_end image) next_place past)
    (subst (λ (k : ℕ). ReadsFrom (gate + 1) gates_end (at + 4 + k) log_end image chunks) long reads.4)

pub past_is_unread : PastIsUnread
past_is_unread s gates log chunk chunks short past reads =
    let at = past.2 in
    past_chunks past.0 chunks gates.start (gates.start + gates.len) log.start (log.start + log.len) s.now.reads (omega arith)
    at.before (let gate = at.gate in omega arith) at.is_open at.past reads

same_past : (lens others : List ℕ) (gate gates_end at log_end : ℕ) (image : List ℕ) → log_end < at + 2 ^ 32
    → BeginsFrom gate gates_end at log_end image lens → EndsPast (at + bytes_of lens) log_end image
    → BeginsFrom gate gates_end at log_end image others → EndsPast (at + bytes_of others) log_end image → length lens ≡ length others
same_past [] [] gate gates_end at log_end image short begins past begins_too past_too = refl
same_past [] (m ∷ others) gate gates_end at log_end image short begins past begins_too past_too =
    let same_place : at + 0 ≡ at = omega arith in
    absurd (past_room m at log_end image short (subst (λ (k : ℕ). EndsPast k log_end image) same_place past) begins_too.2 begins_too.3)
same_past (n ∷ lens) [] gate gates_end at log_end image short begins past begins_too past_too =
    let same_place : at + 0 ≡ at = omega arith in
    absurd (past_room n at log_end image short (subst (λ (k : ℕ). EndsPast k log_end image) same_place past_too) begins.2 begins.3)
same_past (n ∷ lens) (m ∷ others) gate gates_end at log_end image short begins past begins_too past_too =
    let fits = begins.2 in
    let fits_too = begins_too.2 in
    let same : m ≡ n = same_number m n (take 4 (drop at image)) (omega arith) (omega arith) begins_too.3 begins.3 in
    let next_place : at + (4 + n + bytes_of lens) ≡ at + 4 + n + bytes_of lens = omega arith in
    let next_too : at + (4 + m + bytes_of others) ≡ at + 4 + n + bytes_of others = omega arith in
    ap suc (same_past lens others (gate + 1) gates_end (at + 4 + n) log_end image (omega arith)
    begins.4 (subst (λ (k : ℕ). EndsPast k log_end image) next_place past)
    (subst (λ (k : ℕ). BeginsFrom (gate + 1) gates_end (at + 4 + k) log_end image others) same begins_too.4)
    (subst (λ (k : ℕ). EndsPast k log_end image) next_too past_too))

pub past_is_one : PastIsOne
past_is_one s gates log chunk other short past past_too =
    let at = past.2 in
    let at_too = past_too.2 in
    sym past.1
    ∙ same_past past.0 past_too.0 gates.start (gates.start + gates.len) log.start (log.start + log.len) s.now.reads (omega arith)
    at.before at.past at_too.before at_too.past
    ∙ past_too.1
