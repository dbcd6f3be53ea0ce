-- Reading the chunks one after another.
use Rattle.std.proofs.Common.{◌≡◌, ◌⊎◌, inl, inr, ⊎_elim, ℕ, suc, ◌+◌, ◌-◌, ◌^◌, ◌<◌, ◌≤◌, Bool, true, false, Option, Some, None, List, [], ◌∷◌, ◌++◌, length, get_or, take, drop, refl, sym, ◌∙◌, ap, subst, arith, length-drop}
use Rattle.std.proofs.lemmas.List.{length-take, drop-drop, get_or-take, get_or-drop}
use Rattle.std.proofs.lemmas.Bool.{cases_lt}
use Rattle.std.specs.Int.{to_be_bytes, w32}
use Rattle.sb_disk.specs.Disk.{Range, Story, Fits, Reads}
use Rattle.sb_journal.specs.Chunks.{IsOpen, ReadsFrom, bytes_of, chunks_from}
use Rattle.sb_journal.specs.Opening.{GateIs, OpenGates, IsShut, LengthIs, BeginsFrom, Begins, ReadAll, RunsPast, AllShut, opened}
use Rattle.sb_journal.specs.State.{StandsOn}
use Rattle.sb_disk.specs.Moments.{IsSettled}
use Rattle.sb_journal.proofs.RegionLemmas.{take_two}

-- one chunk more
begins_more : (lens : List ℕ) (n gate gates_end at log_end : ℕ) (image : List ℕ)
    → gate + length lens < gates_end → IsOpen image (gate + length lens)
    → at + bytes_of lens + 4 + n ≤ log_end → take 4 (drop (at + bytes_of lens) image) ≡ to_be_bytes w32 n
    → BeginsFrom gate gates_end at log_end image lens → BeginsFrom gate gates_end at log_end image (lens ++ n ∷ [])
begins_more [] n gate gates_end at log_end image free is_open room spelled begins =
    let same_gate : gate + 0 ≡ gate = omega arith in
    let same_place : at + 0 ≡ at = omega arith in (
      omega arith,
      subst (λ (k : ℕ). get_or image k 0 ≡ 165) same_gate is_open,
      omega (arith, room),
      subst (λ (k : ℕ). take 4 (drop k image) ≡ to_be_bytes w32 n) same_place spelled,
      tt,
    )
begins_more (m ∷ lens) n gate gates_end at log_end image free is_open room spelled begins =
    let next_gate : gate + suc (length lens) ≡ gate + 1 + length lens = omega arith in
    let next_place : at + (4 + m + bytes_of lens) ≡ at + 4 + m + bytes_of lens = omega arith in (
      begins.0,
      begins.1,
      begins.2,
      begins.3,
      begins_more lens n (gate + 1) gates_end (at + 4 + m) log_end image
          (omega arith)
          (subst (λ (k : ℕ). get_or image k 0 ≡ 165) next_gate is_open)
          (omega (arith, room))
          (subst (λ (k : ℕ). take 4 (drop k image) ≡ to_be_bytes w32 n) next_place spelled)
          begins.4,
    )

-- a closed gate behind them, or none, and these are all chunks
BeginsFrom-ReadsFrom : (lens : List ℕ) (gate gates_end at log_end : ℕ) (image : List ℕ) → log_end ≤ length image
    → BeginsFrom gate gates_end at log_end image lens → (gate + length lens < gates_end → ¬ IsOpen image (gate + length lens))
    → ReadsFrom gate gates_end at log_end image (chunks_from at lens image)
BeginsFrom-ReadsFrom [] gate gates_end at log_end image inside begins shut =
    let same_gate : gate + 0 ≡ gate = omega arith in
    λ below is_open. shut (omega arith) (subst (λ (k : ℕ). get_or image k 0 ≡ 165) (sym same_gate) is_open)
BeginsFrom-ReadsFrom (n ∷ lens) gate gates_end at log_end image inside begins shut =
    let chunk = take n (drop (at + 4) image) in
    let fits = begins.2 in
    let long : length (take n (drop (at + 4) image)) ≡ n = omega (arith, length-take n (drop (at + 4) image), length-drop (at + 4) image) in
    let next_gate : gate + suc (length lens) ≡ gate + 1 + length lens = omega arith in
    let spelled : take (4 + n) (drop at image) ≡ to_be_bytes w32 n ++ chunk =
    take_two 4 n (drop at image)
    ∙ ap (λ (bytes : List ℕ). take 4 (drop at image) ++ take n bytes) (drop-drop 4 at image)
    ∙ ap (λ (field : List ℕ). field ++ chunk) begins.3 in
    let rest = BeginsFrom-ReadsFrom lens (gate + 1) gates_end (at + 4 + n) log_end image inside begins.4
    (λ below. subst (λ (k : ℕ). ¬ IsOpen image k) next_gate (shut (omega arith))) in (
      begins.0,
      begins.1,
      omega arith,
      subst (λ (k : ℕ). take (4 + k) (drop at image) ≡ to_be_bytes w32 k ++ chunk) (sym long) spelled,
      subst (λ (k : ℕ). ReadsFrom (gate + 1) gates_end (at + 4 + k) log_end image (chunks_from (at + 4 + n) lens image)) (sym long) rest,
    )

-- ---- the same of what is told
pub none_read : (told : Option Story) (gates log : Range) → Begins told gates log []
none_read None gates log = tt
none_read (Some s) gates log = tt

-- a closed gate, or the end of the gates
pub all_read : (told : Option Story) (size clock : ℕ) (gates log : Range) (lens : List ℕ) (n : ℕ) → Fits size clock told → log.start + log.len ≤ size
    → n ≡ length lens → Begins told gates log lens → (n ≡ gates.len) ⊎ GateIs told (gates.start + n) false → ReadAll told gates log lens
all_read None size clock gates log lens n fits lies is begins last = tt
all_read (Some s) size clock gates log lens n fits lies is begins last =
    let long : length s.now.reads ≡ size = fits.bytes in
    BeginsFrom-ReadsFrom lens gates.start (gates.start + gates.len) log.start (log.start + log.len) s.now.reads (omega arith) begins
    (λ below is_open. ⊎_elim
    (λ (end : n ≡ gates.len). absurd (omega arith))
    (λ (shut : GateIs (Some s) (gates.start + n) false). absurd (cc (shut.1 (ap (λ (k : ℕ). get_or s.now.reads (gates.start + k) 0) is ∙ is_open))))
    last)

-- one chunk more
pub one_read : (told : Option Story) (gates log : Range) (lens next : List ℕ) (n len : ℕ) → n ≡ length lens → n < gates.len
    → bytes_of lens + 4 + len ≤ log.len → next ≡ lens ++ len ∷ [] → GateIs told (gates.start + n) true → LengthIs told (log.start + bytes_of lens) len
    → Begins told gates log lens → Begins told gates log next
one_read None gates log lens next n len is below room next_is is_open spelled begins = tt
one_read (Some s) gates log lens next n len is below room next_is is_open spelled begins =
    subst (λ (l : List ℕ). Begins (Some s) gates log l) (sym next_is)
    (begins_more lens len gates.start (gates.start + gates.len) log.start (log.start + log.len) s.now.reads (omega arith)
    (subst (λ (k : ℕ). IsOpen s.now.reads (gates.start + k)) is (is_open.0 refl)) (omega arith) spelled begins)

-- the length field of an open chunk runs past the region
pub no_field : (told : Option Story) (gates log : Range) (lens : List ℕ) (n : ℕ) → length lens ≡ n → n < gates.len → Begins told gates log lens
    → GateIs told (gates.start + n) true → log.len < bytes_of lens + 4 → RunsPast told gates log n
no_field None gates log lens n is below begins is_open past = tt
no_field (Some s) gates log lens n is below begins is_open past = (
  lens,
  is,
  record {
    before = begins;
    gate = omega arith;
    is_open = subst (λ (k : ℕ). IsOpen s.now.reads (gates.start + k)) (sym is) (is_open.0 refl);
    past = inl (omega arith);
  },
)

-- and in its bytes
pub no_room : (told : Option Story) (gates log : Range) (lens : List ℕ) (n len : ℕ) → length lens ≡ n → n < gates.len → len < 2 ^ 32 → Begins told gates log lens
    → GateIs told (gates.start + n) true → LengthIs told (log.start + bytes_of lens) len → log.len < bytes_of lens + 4 + len → RunsPast told gates log n
no_room None gates log lens n len is below short begins is_open spelled past = tt
no_room (Some s) gates log lens n len is below short begins is_open spelled past = (
  lens,
  is,
  record {
    before = begins;
    gate = omega arith;
    is_open = subst (λ (k : ℕ). IsOpen s.now.reads (gates.start + k)) (sym is) (is_open.0 refl);
    past = inr (len, short, spelled, omega arith);
  },
)

-- a journal that is opened where no byte is pending stands
pub opens : (told : Option Story) (gates log : Range) (lens : List ℕ) (clean : Bool) → ReadAll told gates log lens
    → AllShut told (gates.start + length lens) (gates.start + gates.len) clean → IsSettled told → StandsOn told (opened gates log lens clean)
opens None gates log lens clean read shut settled = tt
opens (Some s) gates log lens clean read shut settled = λ up. record {
  reads = read;
  gates = λ i from to. settled i;
  chunks = λ i from to. settled i;
  shut = shut;
}

-- ---- gates in pieces
-- a byte of what was read is the byte at its place
read_byte : (s : Story) (at : ℕ) (piece : List ℕ) (k : ℕ) → Reads (Some s) at piece → k < length piece → get_or piece k 0 ≡ get_or s.now.reads (at + k) 0
read_byte s at piece k reads below = ap (λ (l : List ℕ). get_or l k 0) reads ∙ get_or-take (length piece) (drop at s.now.reads) k 0 below ∙ get_or-drop at s.now.reads k 0

byte_open : (told : Option Story) (at : ℕ) (piece : List ℕ) (k : ℕ) → Reads told at piece → k < length piece → get_or piece k 0 ≡ 165 → GateIs told (at + k) true
byte_open None at piece k reads below is = tt
byte_open (Some s) at piece k reads below is = ((λ yes. sym (read_byte s at piece k reads below) ∙ is), (λ gate. refl))

byte_closed : (told : Option Story) (at : ℕ) (piece : List ℕ) (k : ℕ) → Reads told at piece → k < length piece → ¬ (get_or piece k 0 ≡ 165) → GateIs told (at + k) false
byte_closed None at piece k reads below other = tt
byte_closed (Some s) at piece k reads below other = ((λ yes. absurd (cc yes)), (λ gate. absurd (other (read_byte s at piece k reads below ∙ gate))))

-- the first gates of a piece
pub piece_open : (told : Option Story) (at len count : ℕ) (piece : List ℕ) → length piece ≡ len → Reads told at piece → count ≤ length piece
    → ((k : ℕ) → k < count → get_or piece k 0 ≡ 165) → (count < length piece → ¬ (get_or piece count 0 ≡ 165)) → OpenGates told at (at + len) count
piece_open told at len count piece long reads most first next = record {
  within = omega arith;
  each = λ i from to.
      let same : at + (i - at) ≡ i = omega arith in
      subst (λ (k : ℕ). GateIs told k true) same (byte_open told at piece (i - at) reads (omega arith) (first (i - at) (omega arith)));
  last = ⊎_elim
      (λ (less : count < length piece). inr (byte_closed told at piece count reads less (next less)))
      (λ (all : length piece ≤ count). inl (omega arith))
      (cases_lt count (length piece));
}

-- open gates, and more behind them
pub open_more : (told : Option Story) (from to at len count : ℕ) → from ≤ at → at + len ≤ to → ((i : ℕ) → from ≤ i → i < at → GateIs told i true) → OpenGates told at (at + len) count
    → (i : ℕ) → from ≤ i → i < at + count → GateIs told i true
open_more told from to at len count order within first more i low high = ⊎_elim
    (λ (before : i < at). first i low before)
    (λ (behind : at ≤ i). more.each i behind high)
    (cases_lt i at)

-- the last of them
pub open_all : (told : Option Story) (from to at len count : ℕ) → from ≤ at → at + len ≤ to → ((i : ℕ) → from ≤ i → i < at → GateIs told i true) → OpenGates told at (at + len) count → count < len
    → OpenGates told from to (at + count - from)
open_all told from to at len count order within first more less =
    let same : from + (at + count - from) ≡ at + count = omega arith in
    record {
      within = omega arith;
      each = λ i low high. open_more told from to at len count order within first more i low (omega arith);
      last = ⊎_elim
          (λ (all : at + count ≡ at + len). absurd (omega arith))
          (λ (closed : GateIs told (at + count) false). inr (subst (λ (k : ℕ). GateIs told k false) (sym same) closed))
          more.last;
    }

-- ---- gates of which none is open
pub piece_shut : (told : Option Story) (at len : ℕ) (piece : List ℕ) (shut : Bool) → length piece ≡ len → Reads told at piece → IsShut piece shut → AllShut told at (at + len) shut
piece_shut None at len piece shut long reads is = tt
piece_shut (Some s) at len piece true long reads none = (
  (λ yes i from to gate.
      let same : at + (i - at) ≡ i = omega arith in
      none (i - at) (omega arith) (read_byte s at piece (i - at) reads (omega arith) ∙ ap (λ (k : ℕ). get_or s.now.reads k 0) same ∙ gate)),
  (λ shut. refl),
)
piece_shut (Some s) at len piece false long reads (k, below, is) = (
  (λ yes. absurd (cc yes)),
  (λ none. absurd (none (at + k) (omega arith) (omega arith) (sym (read_byte s at piece k reads below) ∙ is))),
)

pub shut_none : (told : Option Story) (at : ℕ) → AllShut told at at true
shut_none None at = tt
shut_none (Some s) at = ((λ yes i from to. absurd (omega arith)), (λ none. refl))

pub shut_more : (told : Option Story) (from at to : ℕ) → AllShut told from at true → AllShut told at to true → AllShut told from to true
shut_more None from at to first more = tt
shut_more (Some s) from at to first more = (
  (λ yes i low high. ⊎_elim (λ (before : i < at). first.0 refl i low before) (λ (behind : at ≤ i). more.0 refl i behind high) (cases_lt i at)),
  (λ none. refl),
)

pub shut_not : (told : Option Story) (from at end to : ℕ) → from ≤ at → end ≤ to → AllShut told at end false → AllShut told from to false
shut_not None from at end to low high more = tt
shut_not (Some s) from at end to low high more = (
  (λ yes. absurd (cc yes)),
  (λ none. more.1 (λ i above below. none i (omega arith) (omega arith))),
)
