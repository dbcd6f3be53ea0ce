-- A pool of pages as contracts see it.
use Rattle.std.specs.Prelude.{◌≡◌, ℕ, ◌<◌, Bool, true, false, Option, Some, None, IsSome, List, map, replicate, slice_index_or}
use Rattle.sb_log.specs.declared.geometry.Geometry.{Geometry}

-- a page in memory, and whether it was written since the last flush
pub record Held : Type 0 where
  pub bytes : List ℕ
  pub dirty : Bool

-- The sizes of the store, what is held of each page by its number, and the position of the last write since the last flush: how far the log reached then.
pub record State : Type 0 where
  pub geometry : Geometry
  pub pages : List (Option Held)
  pub position : ℕ

-- what is held of page p
abbrev pub held : State → ℕ → Option Held
held pool p = slice_index_or pool.pages p None

-- the page is held
abbrev pub IsHeld : State → ℕ → Type 0
IsHeld pool p = IsSome (held pool p)

-- it was written since the last flush
abbrev pub IsWritten : Option Held → Type 0
IsWritten None = ⊥
IsWritten (Some h) = h.dirty ≡ true

-- whether it was
abbrev pub is_dirty : Option Held → Bool
is_dirty None = false
is_dirty (Some h) = h.dirty

-- page p was written since the last flush
abbrev pub IsDirty : State → ℕ → Type 0
IsDirty pool p = IsWritten (held pool p)

-- no page of the store was written since the last flush
abbrev pub AreClean : State → Type 0
AreClean pool = (p : ℕ) → p < pool.geometry.pages → IsDirty pool p → ⊥

-- each page that is dirty was so before
abbrev pub NoneMoreDirty : State → State → Type 0
NoneMoreDirty pool new = (p : ℕ) → IsDirty new p → IsDirty pool p

-- a pool that holds nothing
abbrev pub empty_pool : Geometry → State
empty_pool g = record { geometry = g; pages = replicate g.pages None; position = 0 }

-- a page that isn't dirty any more
abbrev pub cleaned : Option Held → Option Held
cleaned None = None
cleaned (Some h) = Some (record { bytes = h.bytes; dirty = false })

-- the pool with no page dirty
abbrev pub flushed : State → State
flushed pool = record { geometry = pool.geometry; pages = map cleaned pool.pages; position = 0 }
