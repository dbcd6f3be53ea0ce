-- The records of the log, and how they are spelled.
use Rattle.std.specs.Prelude.{◌≡◌, ℕ, ◌+◌, ◌^◌, ◌<◌, ◌≤◌, List, [], ◌∷◌, ◌++◌, length, drop}
use Rattle.std.specs.Int.{to_be_bytes, w16, w32}

-- a transaction's change of a range of a page: its bytes before and after
pub record Change : Type 0 where
  pub tx : ℕ
  pub owner : ℕ
  pub page : ℕ
  pub offset : ℕ
  pub before : List ℕ
  pub after : List ℕ

-- A transaction begins, a page is as these bytes, a range is changed, of a transaction's changes the first n stand, it is committed.
pub data Record : Type 0 where
  Begin : ℕ → Record
  Image : ℕ → List ℕ → Record
  Changed : Change → Record
  Back : ℕ → ℕ → Record
  Commit : ℕ → Record

-- a byte that says which record it is, its numbers with the highest byte first, and its bytes
abbrev pub spelling : Record → List ℕ
spelling (Begin tx) = 1 ∷ to_be_bytes w32 tx
spelling (Image page bytes) = 2 ∷ to_be_bytes w32 page ++ bytes
spelling (Changed c) =
    3 ∷ to_be_bytes w32 c.tx ++ to_be_bytes w16 c.owner ++ to_be_bytes w32 c.page
    ++ to_be_bytes w16 c.offset ++ to_be_bytes w16 (length c.after) ++ c.before ++ c.after
spelling (Back tx n) = 4 ∷ to_be_bytes w32 tx ++ to_be_bytes w32 n
spelling (Commit tx) = 5 ∷ to_be_bytes w32 tx

-- its numbers fit their fields, it changes some bytes, as many before as after, and lies within the page
pub record IsChange (c : Change) : Type 0 where
  pub tx : c.tx < 2 ^ 32
  pub owner : c.owner < 2 ^ 16
  pub page : c.page < 2 ^ 32
  pub some : 0 < length c.after
  pub same : length c.before ≡ length c.after
  pub within : c.offset + length c.after ≤ 4096

-- a record as a log may hold it
abbrev pub IsRecord : Record → Type 0
IsRecord (Begin tx) = tx < 2 ^ 32
IsRecord (Image page bytes) = (page < 2 ^ 32) × (length bytes ≡ 4096)
IsRecord (Changed c) = IsChange c
IsRecord (Back tx n) = (tx < 2 ^ 32) × (n < 2 ^ 32)
IsRecord (Commit tx) = tx < 2 ^ 32

-- each of them is one
abbrev pub AreRecords : List Record → Type 0
AreRecords [] = Unit {0}
AreRecords (r ∷ recs) = IsRecord r × AreRecords recs

-- the first n bytes spell the record
pub record Begins (bytes : List ℕ) (r : Record) (n : ℕ) : Type 0 where
  pub sound : IsRecord r
  pub front : bytes ≡ spelling r ++ drop n bytes
  pub len : n ≡ length (spelling r)

-- no record is spelled in front
abbrev pub NoneBegins : List ℕ → Type 0
NoneBegins bytes = (r : Record) (n : ℕ) → Begins bytes r n → ⊥

-- the spellings of records, one behind the other
abbrev pub spelled : List Record → List ℕ
spelled [] = []
spelled (r ∷ recs) = spelling r ++ spelled recs

-- these records in order fill the chunks, each chunk with whole ones
abbrev pub Spells : List (List ℕ) → List Record → Type 0
Spells [] recs = recs ≡ []
Spells (chunk ∷ chunks) recs =
    (first rest : List Record) × (recs ≡ first ++ rest) × (chunk ≡ spelled first) × Spells chunks rest

-- the first bytes of a chunk, up to a place, are these records
pub record IsRow (chunk : List ℕ) (at : ℕ) (recs : List Record) : Type 0 where
  pub sound : AreRecords recs
  pub front : chunk ≡ spelled recs ++ drop at chunk
  pub len : at ≡ length (spelled recs)

-- the chunk is n whole records
pub record HasRecords (chunk : List ℕ) (n : ℕ) : Type 0 where
  pub recs : List Record
  pub sound : AreRecords recs
  pub whole : chunk ≡ spelled recs
  pub count : n ≡ length recs

-- up to the place there are whole records, and the bytes from there on, which are some, begin with none
pub record IsBadAt (chunk : List ℕ) (at : ℕ) : Type 0 where
  pub recs : List Record
  pub row : IsRow chunk at recs
  pub some : at < length chunk
  pub none : NoneBegins (drop at chunk)
