-- A journal and the disk that it stands on.
use Rattle.std.specs.Prelude.{◌≡◌, ◌⊎◌, ◌↔◌, ℕ, zero, suc, ◌+◌, ◌-◌, ◌^◌, ◌<◌, ◌≤◌, min, Bool, true, false, Option, Some, None, List, [], ◌∷◌, ◌++◌, length, take, drop}
use Rattle.sb_disk.specs.Disk.{Range, Story, Covered, AgreesBut}
use Rattle.sb_disk.specs.Moments.{Sure}
use Rattle.sb_journal.specs.Chunks.{IsOpen, ReadsAs, bytes_of, chunks_from}

-- The two regions, the lengths of the chunks, how many bytes are pending behind them, how often a force has made a chunk, whether no other gate is open, and whether a call has failed.
pub record State : Type 0 where
  pub gates : Range
  pub log : Range
  pub lens : List ℕ
  pub pending : ℕ
  pub forces : ℕ
  pub clean : Bool
  pub failed : Bool

-- the chunks of the journal in an image
abbrev pub chunks_of : State → List ℕ → List (List ℕ)
chunks_of j image = chunks_from j.log.start j.lens image

-- the bytes that are pending
abbrev pub pending_of : State → List ℕ → List ℕ
pending_of j image = take j.pending (drop (j.log.start + bytes_of j.lens + 4) image)

-- the bytes that the pending chunk takes, with its length field
abbrev pub room_of : ℕ → ℕ
room_of zero = 0
room_of (suc n) = 4 + suc n

-- the bytes that the chunks and the pending one take
abbrev pub used_of : State → ℕ
used_of j = bytes_of j.lens + room_of j.pending

-- the bytes that so many more take: a length field too, where nothing is pending
abbrev pub need_of : ℕ → ℕ → ℕ
need_of zero n = 4 + n
need_of (suc p) n = n

-- the two regions lie in a disk of so many bytes, apart, and are no larger than a journal may have
pub record Lies (size : ℕ) (gates log : Range) : Type 0 where
  pub gates_fit : gates.start + gates.len ≤ size
  pub log_fits : log.start + log.len ≤ size
  pub apart : (gates.start + gates.len ≤ log.start) ⊎ (log.start + log.len ≤ gates.start)
  pub most : gates.len ≤ 65536
  pub short : log.len < 2 ^ 32

-- there are gates for the chunks, and room for them and for what is pending
pub record Sound (j : State) : Type 0 where
  pub gates : length j.lens ≤ j.gates.len
  pub most : j.gates.len ≤ 65536
  pub log : bytes_of j.lens + room_of j.pending ≤ j.log.len
  pub short : j.log.len < 2 ^ 32

-- The contents read as the chunks, and no byte of these or of the gates is pending. The journal is clean exactly where no gate behind theirs is open.
pub record Stands (s : Story) (j : State) : Type 0 where
  pub reads : ReadsAs j.gates j.log s.now.reads (chunks_of j s.now.reads)
  pub gates : Sure j.gates.start j.gates.len s.now.written
  pub chunks : Sure j.log.start (bytes_of j.lens) s.now.written
  pub shut : (j.clean ≡ true)
      ↔ ((i : ℕ) → j.gates.start + length j.lens ≤ i → i < j.gates.start + j.gates.len
      → ¬ IsOpen s.now.reads i)

-- the same of what is told, until a call fails
abbrev pub StandsOn : Option Story → State → Type 0
StandsOn None j = Unit {0}
StandsOn (Some s) j = j.failed ≡ false → Stands s j

-- so many bytes from a place on lie in neither region
pub record IsOff (j : State) (at count : ℕ) : Type 0 where
  pub of_gates : (j.gates.start + j.gates.len ≤ at) ⊎ (at + count ≤ j.gates.start)
  pub of_log : (j.log.start + j.log.len ≤ at) ⊎ (at + count ≤ j.log.start)

-- the gate of the next chunk, where there is one
abbrev pub gate_of : State → Range
gate_of j = record {
  start = j.gates.start + length j.lens;
  len = min 1 (j.gates.len - length j.lens);
}

-- ---- what each call makes of the state
-- so many bytes more are pending
abbrev pub after_append : ℕ → State → State
after_append n j = record j { pending = j.pending + n }

-- the pending bytes are a chunk now, where there are any
abbrev pub sealed : ℕ → List ℕ → List ℕ
sealed zero lens = lens
sealed (suc n) lens = lens ++ suc n ∷ []

-- a force more that made a chunk, up to the greatest u32
abbrev pub counted : ℕ → ℕ → ℕ
counted zero forces = forces
counted (suc n) forces = min (forces + 1) (2 ^ 32 - 1)

abbrev pub after_force : State → State
after_force j = record j {
  lens = sealed j.pending j.lens;
  pending = 0;
  forces = counted j.pending j.forces;
}

abbrev pub after_close : State → State
after_close j = record j { lens = []; pending = 0; clean = true }

abbrev pub after_fault : State → State
after_fault j = record j { failed = true }

-- ---- what each call makes of the contents
-- the pending bytes as a chunk, where there are any
abbrev pub pending_chunk : ℕ → List ℕ → List (List ℕ)
pending_chunk zero bytes = []
pending_chunk (suc n) bytes = bytes ∷ []

-- The bytes stand behind those that were pending. Nothing else has changed or is pending that wasn't.
pub record Appended (bytes : List ℕ) (j k : State) (s t : Story) : Type 0 where
  pub stands : Stands t k
  pub chunks : chunks_of k t.now.reads ≡ chunks_of j s.now.reads
  pub pending : pending_of k t.now.reads ≡ pending_of j s.now.reads ++ bytes
  pub elsewhere : AgreesBut (j.log ∷ []) s.now.reads t.now.reads
  pub written : (i : ℕ) → Covered i t.now.written → Covered i s.now.written ⊎ Covered i (j.log ∷ [])

-- The pending bytes are the last chunk, where there are any, and nothing changes but its gate and the log; else all is as it was.
pub record Forced (j k : State) (s t : Story) : Type 0 where
  pub stands : Stands t k
  pub chunks : chunks_of k t.now.reads
      ≡ chunks_of j s.now.reads ++ pending_chunk j.pending (pending_of j s.now.reads)
  pub elsewhere : AgreesBut (gate_of j ∷ j.log ∷ []) s.now.reads t.now.reads
  pub settled : 0 < j.pending → t.now.written ≡ []
  pub idle : j.pending ≡ 0 → t ≡ s

-- No gate is open, and nothing is pending. Outside the gates all is as it was.
pub record Closed (j k : State) (s t : Story) : Type 0 where
  pub stands : Stands t k
  pub elsewhere : AgreesBut (j.gates ∷ []) s.now.reads t.now.reads
  pub settled : t.now.written ≡ []

-- ---- what a crash leaves at each moment of a call
-- the chunks; outside the log what was there, but for what was pending
pub record IsKept (s : Story) (j : State) (image : List ℕ) : Type 0 where
  pub chunks : ReadsAs j.gates j.log image (chunks_of j s.now.reads)
  pub elsewhere : AgreesBut (j.log ∷ s.now.written) s.now.reads image

-- the chunks, or the chunks and the pending one; outside its gate and the log the same
pub record IsForced (s : Story) (j : State) (image : List ℕ) : Type 0 where
  pub chunks : ReadsAs j.gates j.log image (chunks_of j s.now.reads)
      ⊎ ReadsAs j.gates j.log image (chunks_of j s.now.reads ++ pending_of j s.now.reads ∷ [])
  pub elsewhere : AgreesBut (gate_of j ∷ j.log ∷ s.now.written) s.now.reads image

-- all chunks, or none; outside the gates what was there, but for what was pending
pub record IsClosing (s : Story) (j : State) (image : List ℕ) : Type 0 where
  pub chunks : ReadsAs j.gates j.log image (chunks_of j s.now.reads) ⊎ ReadsAs j.gates j.log image []
  pub elsewhere : AgreesBut (j.gates ∷ s.now.written) s.now.reads image

-- Each of them of what is told, until a call fails. Of a disk that tells nothing no image is ever said to be left.
abbrev pub IsKeptOn : Option Story → State → List ℕ → Type 0
IsKeptOn None j image = ⊥
IsKeptOn (Some s) j image = j.failed ≡ false → IsKept s j image

abbrev pub IsForcedOn : Option Story → State → List ℕ → Type 0
IsForcedOn None j image = ⊥
IsForcedOn (Some s) j image = j.failed ≡ false → IsForced s j image

abbrev pub IsClosingOn : Option Story → State → List ℕ → Type 0
IsClosingOn None j image = ⊥
IsClosingOn (Some s) j image = j.failed ≡ false → IsClosing s j image
