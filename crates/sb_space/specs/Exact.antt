-- Changes of no more bytes than have to change.
use Rattle.std.specs.Prelude.{◌≡◌, ◌≢◌, ◌⊎◌, ℕ, ◌+◌, ◌-◌, ◌*◌, ◌/◌, ◌%◌, ◌<◌, List, [], ◌∷◌, length, slice_index_or}
use Rattle.sb_txn.specs.Book.{Undo}
use Rattle.sb_txn.specs.Clauses.{unwound}

-- the range is the entry that one of so many pages has in the table
pub record IsTableEntry (pages page offset size : ℕ) : Type 0 where
  pub of : ℕ
  pub within : of < pages
  pub table : page ≡ of / 2048
  pub place : offset ≡ 2 * (of % 2048)
  pub two : size ≡ 2

-- the first byte of the range has become another one, and so has its last
pub record DiffersAtEnds (offset size : ℕ) (before after : List ℕ) : Type 0 where
  pub some : 0 < size
  pub first : slice_index_or before offset 0 ≢ slice_index_or after offset 0
  pub last : slice_index_or before (offset + (size - 1)) 0 ≢ slice_index_or after (offset + (size - 1)) 0

-- A change of a range is one of an entry of the table, or of the range in which the page before it and the page behind it differ.
abbrev pub IsExact : ℕ → ℕ → ℕ → ℕ → List ℕ → List ℕ → Type 0
IsExact pages page offset size before after = IsTableEntry pages page offset size ⊎ DiffersAtEnds offset size before after

-- so is each change that this undo list takes back, its last undo first
abbrev pub AreExact : ℕ → List Undo → (ℕ → List ℕ) → Type 0
AreExact pages [] now = Unit {0}
AreExact pages (u ∷ us) now = IsExact pages u.page u.offset (length u.before) (unwound (u ∷ us) now u.page) (unwound us now u.page) × AreExact pages us now
