-- What a pool over a disk says of the pages of a store.
use Rattle.std.specs.Prelude.{◌≡◌, ℕ, ◌<◌, ◌≤◌, false, cond, ◌==◌, Option, Some, None, List}
use Rattle.sb_bytes.specs.Bytes.{splice}
use Rattle.sb_disk.specs.Disk.{Story, WhereTold}
use Rattle.sb_disk.specs.Moments.{contents}
use Rattle.sb_journal.specs.State.{used_of}
use Rattle.sb_journal.specs.State as journal
use Rattle.sb_images.specs.Layout.{page_at}
use Rattle.sb_images.specs.Store.{OnDisk}
use Rattle.sb_pool.specs.State.{Held, State, held}

-- the bytes of a page that is held, or else these
abbrev pub bytes_or : List ℕ → Option Held → List ℕ
bytes_or disk None = disk
bytes_or disk (Some h) = h.bytes

-- page p as it was last written: as it is held, or else as the disk has it
abbrev pub pool_page : Option Story → State → ℕ → List ℕ
pool_page told pool p = bytes_or (page_at pool.geometry p (contents told)) (held pool p)

-- the pages with these bytes at a place of one of them
abbrev pub with_bytes : ℕ → ℕ → List ℕ → (ℕ → List ℕ) → ℕ → List ℕ
with_bytes page offset bytes pages p = cond (page == p) (splice offset bytes (pages p)) (pages p)

-- a page that is held and isn't dirty is these bytes
abbrev pub IsClean : Option Held → List ℕ → Type 0
IsClean None disk = Unit {0}
IsClean (Some h) disk = h.dirty ≡ false → h.bytes ≡ disk

-- Each page that is held and isn't dirty is as the disk has it, until the journal fails.
abbrev pub PagesAgreeOn : Option Story → journal.State → State → Type 0
PagesAgreeOn None j pool = Unit {0}
PagesAgreeOn (Some s) j pool =
    j.failed ≡ false → (p : ℕ) → p < pool.geometry.pages → IsClean (held pool p) (page_at pool.geometry p s.now.reads)

-- So it is, and the position of the last write lies no further than the chunks of the log and what is pending reach.
pub record AgreesOn (told : Option Story) (j : journal.State) (pool : State) : Type 0 where
  pub pages : PagesAgreeOn told j pool
  pub position : pool.position ≤ used_of j

-- These are the pages as they were last written, until the journal fails.
abbrev pub ArePagesOn : (ℕ → List ℕ) → Option Story → journal.State → State → Type 0
ArePagesOn pages None j pool = Unit {0}
ArePagesOn pages (Some s) j pool = j.failed ≡ false → (p : ℕ) → p < pool.geometry.pages → pool_page (Some s) pool p ≡ pages p

-- The pages as they were last written become these, until the journal fails.
abbrev pub Becomes : (ℕ → List ℕ) → journal.State → State → Option Story → Option Story → Type 0
Becomes pages k pool old new = WhereTold old new (λ s t. ArePagesOn pages (Some t) k pool)

-- Each page is as it was last written, until the journal fails.
abbrev pub KeepsPages : journal.State → State → State → Option Story → Option Story → Type 0
KeepsPages k pool after old new = Becomes (pool_page old pool) k after old new

-- each page is on the disk as it was last written, and no byte of it is pending
abbrev pub AreFlushed : State → Option Story → Option Story → Type 0
AreFlushed pool old new = WhereTold old new (λ s t. OnDisk (pool_page old pool) (Some t) pool.geometry)
