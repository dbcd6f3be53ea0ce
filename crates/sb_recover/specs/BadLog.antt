-- A log that is no row of records, and what reading a log answers.
use Rattle.std.specs.Prelude.{◌≡◌, ◌⊎◌, ℕ, ◌+◌, ◌^◌, ◌<◌, false, Option, Some, None, List, [], ◌∷◌, ◌++◌, length, take, drop, slice_index_or}
use Rattle.sb_disk.specs.Disk.{Story}
use Rattle.sb_journal.specs.Chunks.{IsOpen, bytes_of, chunks_from}
use Rattle.sb_journal.specs.Opening.{Begins, EndsPast}
use Rattle.sb_journal.specs.State.{State, Sound, StandsOn, chunks_of}
use Rattle.sb_log.specs.declared.geometry.Geometry.{Geometry}
use Rattle.sb_log.specs.Records.{HasRecords, IsBadAt}
use Rattle.sb_images.specs.Layout.{gates_start, log_start, gates_of, log_of}
use Rattle.sb_images.specs.Store.{AreChunks}
use Rattle.sb_recover.specs.declared.fault.OpenFault.{OpenFault}
use Rattle.sb_recover.specs.declared.fault.OpenFault.TheVariants.{Fault, BadLog, NoMemory}

-- no chunk holds anything but whole records
abbrev pub AreRows : List (List ℕ) → Type 0
AreRows [] = Unit {0}
AreRows (chunk ∷ chunks) = ((n : ℕ) × HasRecords chunk n) × AreRows chunks

-- each chunk is as short as its length field can say
abbrev pub AreShort : List (List ℕ) → Type 0
AreShort [] = Unit {0}
AreShort (chunk ∷ chunks) = (length chunk < 2 ^ 32) × AreShort chunks

-- this chunk is no row of records: where its first bytes begin that are none; those before it are rows
pub record BadRow (chunks : List (List ℕ)) (chunk offset : ℕ) : Type 0 where
  pub within : chunk < length chunks
  pub rows : AreRows (take chunk chunks)
  pub bad : IsBadAt (slice_index_or chunks chunk []) offset

-- the refusal names the first chunk that is no row of records
abbrev pub IsFirstBad : List (List ℕ) → OpenFault → Type 0
IsFirstBad chunks (BadLog chunk offset) = BadRow chunks chunk offset
IsFirstBad chunks other = ⊥

-- ---- a bad log
-- behind chunks of these lengths an open one ends outside the region: its length field does, or its bytes do
pub record IsPast (s : Story) (g : Geometry) (lens : List ℕ) : Type 0 where
  pub is_open : IsOpen s.now.reads (gates_start + length lens)
  pub past : EndsPast (log_start + bytes_of lens) (log_start + g.log) s.now.reads

-- behind them stands one of this length that is no row of records, whose first bytes that are none begin at the offset
pub record IsNoRow (s : Story) (g : Geometry) (lens : List ℕ) (offset : ℕ) : Type 0 where
  pub n : ℕ
  pub begins : Begins (Some s) (gates_of g) (log_of g) (lens ++ n ∷ [])
  pub bad : IsBadAt (take n (drop (log_start + bytes_of lens + 4) s.now.reads)) offset

-- The first open chunk that runs past the region or is no row of whole records has this number: those before it have these lengths and are rows.
pub record IsBadLog (s : Story) (g : Geometry) (chunk offset : ℕ) : Type 0 where
  pub lens : List ℕ
  pub count : length lens ≡ chunk
  pub gate : chunk < 65536
  pub begins : Begins (Some s) (gates_of g) (log_of g) lens
  pub rows : AreRows (chunks_from log_start lens s.now.reads)
  pub bad : ((offset ≡ 0) × IsPast s g lens) ⊎ IsNoRow s g lens offset

-- the same of what is told
abbrev pub IsBadLogOn : Option Story → Geometry → ℕ → ℕ → Type 0
IsBadLogOn None g chunk offset = Unit {0}
IsBadLogOn (Some s) g chunk offset = IsBadLog s g chunk offset

-- ---- what reading answers
-- the bytes are the chunk of this number
abbrev pub ChunkIs : Option Story → State → ℕ → List ℕ → Type 0
ChunkIs None j i bytes = Unit {0}
ChunkIs (Some s) j i bytes = bytes ≡ slice_index_or (chunks_of j s.now.reads) i []

-- this chunk of the journal is no row of records, and it is the first
abbrev pub BadRowOn : Option Story → State → ℕ → ℕ → Type 0
BadRowOn None j chunk offset = Unit {0}
BadRowOn (Some s) j chunk offset = BadRow (chunks_of j s.now.reads) chunk offset

-- why the chunks aren't read
abbrev pub RowsErr : Option Story → State → OpenFault → Type 0
RowsErr told j Fault = Unit {0}
RowsErr told j NoMemory = Unit {0}
RowsErr told j (BadLog chunk offset) = (chunk < length j.lens) × BadRowOn told j chunk offset
RowsErr told j other = ⊥

-- the journal of a store and its chunks, which are rows of records
pub record IsLog (told : Option Story) (g : Geometry) (j : State) (chunks : List (List ℕ)) : Type 0 where
  pub gates : j.gates ≡ gates_of g
  pub log : j.log ≡ log_of g
  pub sound : Sound j
  pub up : j.failed ≡ false
  pub none : j.pending ≡ 0
  pub stands : StandsOn told j
  pub are : AreChunks told j chunks
  pub rows : AreRows chunks

-- why a log isn't read
abbrev pub LogErr : Option Story → Geometry → OpenFault → Type 0
LogErr told g Fault = Unit {0}
LogErr told g NoMemory = Unit {0}
LogErr told g (BadLog chunk offset) = IsBadLogOn told g chunk offset
LogErr told g other = ⊥
