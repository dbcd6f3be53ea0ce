-- What opening a journal finds.
use Rattle.std.specs.Prelude.{◌≡◌, ◌⊎◌, ◌↔◌, ℕ, ◌+◌, ◌^◌, ◌<◌, ◌≤◌, Bool, true, false, Option, Some, None, IsTrue, List, [], ◌∷◌, length, slice_index, take, drop}
use Rattle.std.specs.Int.{to_be_bytes, w32}
use Rattle.sb_disk.specs.Disk.{Range, Story}
use Rattle.sb_journal.specs.Chunks.{IsOpen, ReadsAs, bytes_of, chunks_from, places_from}
use Rattle.sb_journal.specs.State.{State}

-- the answer says whether the gate is open
abbrev pub GateIs : Option Story → ℕ → Bool → Type 0
GateIs None at answer = Unit {0}
GateIs (Some s) at answer = IsTrue answer ↔ IsOpen s.now.reads at

-- So many gates from one on are open, and the next isn't, where there is one.
pub record OpenGates (told : Option Story) (from to count : ℕ) : Type 0 where
  pub within : from + count ≤ to
  pub each : (i : ℕ) → from ≤ i → i < from + count → GateIs told i true
  pub last : (from + count ≡ to) ⊎ GateIs told (from + count) false

-- the answer says whether none of these gates is open
abbrev pub IsShut : List ℕ → Bool → Type 0
IsShut gates true = (k : ℕ) → k < length gates → ¬ (slice_index gates k ≡ 165)
IsShut gates false = (k : ℕ) × (k < length gates) × (slice_index gates k ≡ 165)

-- four bytes spell the number
abbrev pub LengthIs : Option Story → ℕ → ℕ → Type 0
LengthIs None at n = Unit {0}
LengthIs (Some s) at n = take 4 (drop at s.now.reads) ≡ to_be_bytes w32 n

-- The first chunks have these lengths: each stands behind an open gate, below the end, with its length in front of it.
abbrev pub BeginsFrom : ℕ → ℕ → ℕ → ℕ → List ℕ → List ℕ → Type 0
BeginsFrom gate gates_end at log_end image [] = Unit {0}
BeginsFrom gate gates_end at log_end image (n ∷ lens) =
    (gate < gates_end) × IsOpen image gate
    × (at + 4 + n ≤ log_end) × (take 4 (drop at image) ≡ to_be_bytes w32 n)
    × BeginsFrom (gate + 1) gates_end (at + 4 + n) log_end image lens

-- the first chunks of the contents
abbrev pub Begins : Option Story → Range → Range → List ℕ → Type 0
Begins None gates log lens = Unit {0}
Begins (Some s) gates log lens =
    BeginsFrom gates.start (gates.start + gates.len) log.start (log.start + log.len) s.now.reads lens

-- these are all the chunks
abbrev pub ReadAll : Option Story → Range → Range → List ℕ → Type 0
ReadAll None gates log lens = Unit {0}
ReadAll (Some s) gates log lens = ReadsAs gates log s.now.reads (chunks_from log.start lens s.now.reads)

-- a chunk at this place runs past the end, in its length field or in its bytes
abbrev pub EndsPast : ℕ → ℕ → List ℕ → Type 0
EndsPast at log_end image =
    (log_end < at + 4)
    ⊎ ((n : ℕ) × (n < 2 ^ 32) × (take 4 (drop at image) ≡ to_be_bytes w32 n) × (log_end < at + 4 + n))

-- behind chunks of these lengths an open one runs past the region
pub record PastAt (s : Story) (gates log : Range) (lens : List ℕ) : Type 0 where
  pub before : Begins (Some s) gates log lens
  pub gate : length lens < gates.len
  pub is_open : IsOpen s.now.reads (gates.start + length lens)
  pub past : EndsPast (log.start + bytes_of lens) (log.start + log.len) s.now.reads

-- so it is with the chunk of this number
abbrev pub RunsPast : Option Story → Range → Range → ℕ → Type 0
RunsPast None gates log chunk = Unit {0}
RunsPast (Some s) gates log chunk = (lens : List ℕ) × (length lens ≡ chunk) × PastAt s gates log lens

-- the answer says whether no gate from this one on is open
abbrev pub AllShut : Option Story → ℕ → ℕ → Bool → Type 0
AllShut None from to shut = Unit {0}
AllShut (Some s) from to shut = (shut ≡ true) ↔ ((i : ℕ) → from ≤ i → i < to → ¬ IsOpen s.now.reads i)

-- The lengths of all chunks, their places in the log, and the bytes that they take of it.
pub record Measured (told : Option Story) (gates log : Range) (lens starts : List ℕ) (total : ℕ)
    : Type 0 where
  pub read : ReadAll told gates log lens
  pub count : length lens ≤ gates.len
  pub places : starts ≡ places_from 0 lens
  pub used : total ≡ bytes_of lens
  pub fits : total ≤ log.len

-- A call that only reads: the disk tells what it told, has the length that it had, and its count of faults didn't fall.
pub record OnlyReads {D : Type 0} (told : D → Option Story) (len faults : D → ℕ) (old new : D)
    : Type 0 where
  pub story : told new ≡ told old
  pub size : len new ≡ len old
  pub later : faults old ≤ faults new

-- a journal of these chunks, in which nothing is pending
abbrev pub opened : Range → Range → List ℕ → Bool → State
opened gates log lens clean = record {
  gates = gates;
  log = log;
  lens = lens;
  pending = 0;
  forces = 0;
  clean = clean;
  failed = false;
}

-- The journal that is answered: it is as it is opened, and of the chunks that the contents read as.
pub record Opened (told : Option Story) (gates log : Range) (j : State) : Type 0 where
  pub state : j ≡ opened gates log j.lens j.clean
  pub read : ReadAll told gates log j.lens
  pub clean : AllShut told (gates.start + length j.lens) (gates.start + gates.len) j.clean

-- where a chunk runs past the region, the contents read as no chunks
abbrev pub PastIsUnread : Type 0
PastIsUnread =
    (s : Story) (gates log : Range) (chunk : ℕ) (chunks : List (List ℕ)) → log.len < 2 ^ 32
    → RunsPast (Some s) gates log chunk → ¬ ReadsAs gates log s.now.reads chunks

-- no two chunks of the contents run past the region
abbrev pub PastIsOne : Type 0
PastIsOne =
    (s : Story) (gates log : Range) (chunk other : ℕ) → log.len < 2 ^ 32
    → RunsPast (Some s) gates log chunk → RunsPast (Some s) gates log other → chunk ≡ other
