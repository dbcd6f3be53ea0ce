-- What the calls of a journal answer where they are refused, and what each of them leaves as it was.
use Rattle.std.specs.Prelude.{◌≡◌, ◌⊎◌, ℕ, ◌+◌, ◌<◌, ◌≤◌, true, false, Option, Some, None, Result, IsErrOf, List, [], length, take, drop, slice_index_or}
use Rattle.sb_disk.specs.Causes.{Rose}
use Rattle.sb_disk.specs.Disk.{Range, Story}
use Rattle.sb_journal.specs.declared.fault.JournalFault.{JournalFault}
use Rattle.sb_journal.specs.declared.fault.JournalFault.TheVariants.{Fault, LogFull, GatesFull, BadChunk, NoMemory}
use Rattle.sb_journal.specs.State.{State, Sound, StandsOn, chunks_of, used_of, need_of, after_fault}
use Rattle.sb_journal.specs.Opening.{RunsPast}

-- the disk and the journal are as they were: no call was made on the device
pub record IsIdle {D : Type 0} (old new : D) (j k : State) : Type 0 where
  pub disk : new ≡ old
  pub journal : k ≡ j

-- Behind a fault each call answers Fault, and leaves disk and journal alone.
pub record IsDown {D T : Type 0} (old new : D) (j k : State) (result : Result T JournalFault)
    : Type 0 where
  pub fault : IsErrOf result Fault
  pub idle : IsIdle old new j k

-- What each call keeps: the disk's length, the two regions, that the state is sound and that the journal stands until a call fails. Its Fault means
-- that the disk failed a call, now or earlier.
pub record KeepsJournal {D T : Type 0} (told : D → Option Story) (len faults : D → ℕ)
    (old new : D) (j k : State) (result : Result T JournalFault) : Type 0 where
  pub size : len new ≡ len old
  pub later : faults old ≤ faults new
  pub cause : IsErrOf result Fault → (j.failed ≡ true) ⊎ Rose (faults old) (faults new)
  pub gates : k.gates ≡ j.gates
  pub log : k.log ≡ j.log
  pub sound : Sound k
  pub stands : StandsOn (told new) k

-- so many bytes more run past the log's region, of a journal that hasn't failed
pub record IsLogFull (n : ℕ) (j : State) : Type 0 where
  pub up : j.failed ≡ false
  pub over : j.log.len < used_of j + need_of j.pending n

-- bytes are pending and no gate is left for them, of a journal that hasn't failed
pub record IsGatesFull (j : State) : Type 0 where
  pub up : j.failed ≡ false
  pub some : 0 < j.pending
  pub full : j.gates.len ≤ length j.lens

-- the refusal of an append of n bytes that don't fit
abbrev pub log_full : ℕ → State → JournalFault
log_full n j = LogFull (used_of j) (need_of j.pending n) j.log.len

-- the refusal of a force for which there is no gate
abbrev pub gates_full : State → JournalFault
gates_full j = GatesFull (length j.lens) j.gates.len

-- what a refused append leaves
abbrev pub AppendErr : {D : Type 0} → JournalFault → ℕ → D → D → State → State → Type 0
AppendErr Fault n old new j k = k ≡ after_fault j
AppendErr (LogFull used need total) n old new j k =
    (LogFull used need total ≡ log_full n j) × IsIdle old new j k
AppendErr other n old new j k = ⊥

-- what a refused force leaves
abbrev pub ForceErr : {D : Type 0} → JournalFault → D → D → State → State → Type 0
ForceErr Fault old new j k = k ≡ after_fault j
ForceErr (GatesFull used total) old new j k = (GatesFull used total ≡ gates_full j) × IsIdle old new j k
ForceErr other old new j k = ⊥

-- the one refusal is Fault, and it is kept
abbrev pub OnlyFault : JournalFault → State → State → Type 0
OnlyFault Fault j k = k ≡ after_fault j
OnlyFault other j k = ⊥

-- the bytes stand in the chunk of this number from a place on
abbrev pub ReadsChunk : Option Story → State → ℕ → ℕ → List ℕ → Type 0
ReadsChunk None j i at bytes = Unit {0}
ReadsChunk (Some s) j i at bytes =
    bytes ≡ take (length bytes) (drop at (slice_index_or (chunks_of j s.now.reads) i []))

-- why a journal isn't opened
abbrev pub OpenErr : Option Story → Range → Range → JournalFault → Type 0
OpenErr told gates log Fault = Unit {0}
OpenErr told gates log NoMemory = Unit {0}
OpenErr told gates log (BadChunk chunk offset) =
    (offset ≡ 0) × (chunk < gates.len) × RunsPast told gates log chunk
OpenErr told gates log other = ⊥
