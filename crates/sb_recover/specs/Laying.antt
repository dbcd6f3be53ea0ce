-- What runs of writes leave of a disk.
use Rattle.std.specs.Prelude.{◌≡◌, ℕ, ◌+◌, ◌*◌, ◌<◌, ◌≤◌, Option, Some, None, List, [], ◌∷◌, slice_index, take, drop}
use Rattle.sb_disk.specs.Disk.{Story, WhereTold, Covered, AgreesBut}
use Rattle.sb_disk.specs.Moments.{LeavesOnly, LeavesTorn, IsSettled}
use Rattle.sb_journal.specs.Chunks.{IsOpen}
use Rattle.sb_log.specs.declared.geometry.Geometry.{Geometry}
use Rattle.sb_images.specs.Layout.{gates_start, log_start, page_at}
use Rattle.sb_recover.specs.FirstPages.{super_page, first_page}

-- each byte outside of this range is as it was, and pending only if it was
pub record IsWithin (at count : ℕ) (s t : Story) : Type 0 where
  pub bytes : AgreesBut (record { start = at; len = count } ∷ []) s.now.reads t.now.reads
  pub pending : (i : ℕ) → Covered i t.now.written → Covered i (record { start = at; len = count } ∷ s.now.written)

-- these pages stand one behind the other from a place on, and nothing else was written
pub record AreLaid (at count : ℕ) (page : ℕ → List ℕ) (s t : Story) : Type 0 where
  pub pages : (k : ℕ) → k < count → take 4096 (drop (at + 4096 * k) t.now.reads) ≡ page k
  pub within : IsWithin at (4096 * count) s t

-- so many of the pages that are to be written from a place on are laid, and a crash so far leaves what was there but for theirs
pub record Lays (at count k : ℕ) (page : ℕ → List ℕ) (old new : Option Story) : Type 0 where
  pub laid : WhereTold old new (AreLaid at k page)
  pub leaves : LeavesOnly old new (LeavesTorn at (4096 * count) old)

-- the first byte of the contents
abbrev pub IsGate : Option Story → ℕ → Type 0
IsGate None gate = Unit {0}
IsGate (Some s) gate = slice_index s.now.reads 0 ≡ gate

-- The gate of the store is shut. Nothing is pending but what was, and no byte but the gate has changed.
pub record ShutsGate (s t : Story) : Type 0 where
  pub gate : ¬ IsOpen t.now.reads 0
  pub within : IsWithin 0 1 s t
  pub settled : IsSettled (Some s) → IsSettled (Some t)

-- each byte of the log's region is as it was
abbrev pub KeepsLog : Geometry → Story → Story → Type 0
KeepsLog g s t =
    (i : ℕ) → log_start ≤ i → i < log_start + g.log → slice_index t.now.reads i ≡ slice_index s.now.reads i

-- the bytes of a store behind its gate
abbrev pub behind_gate : Geometry → ℕ
behind_gate g = 69631 + g.log + 4096 * g.pages

-- All of a new store but its gate is on the disk, and the gate and the log's region are as they were.
pub record IsLaid (g : Geometry) (s t : Story) : Type 0 where
  pub settled : t.now.written ≡ []
  pub super : take 4095 (drop 1 t.now.reads) ≡ drop 1 (super_page g)
  pub gates : (i : ℕ) → gates_start ≤ i → i < log_start → slice_index t.now.reads i ≡ 0
  pub pages : (p : ℕ) → p < g.pages → page_at g p t.now.reads ≡ first_page g.pages p
  pub log : KeepsLog g s t
  pub within : IsWithin 1 (behind_gate g) s t
