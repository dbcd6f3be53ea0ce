-- Where a store has its parts on a disk.
use Rattle.std.specs.Prelude.{◌≡◌, ℕ, ◌+◌, ◌*◌, ◌≤◌, List, [], ◌∷◌, length, slice_index, take, drop}
use Rattle.sb_bytes.specs.Field.{number_at}
use Rattle.sb_disk.specs.Disk.{Range}
use Rattle.sb_log.specs.declared.geometry.Geometry.{Geometry}

-- where the gates of the chunks begin, behind the super page
abbrev pub gates_start : ℕ
gates_start = 4096

-- where the log begins, behind the gates
abbrev pub log_start : ℕ
log_start = 69632

-- the bytes that a store of so many pages takes of a disk, with a log of so many bytes
abbrev pub need : ℕ → ℕ → ℕ
need pages log = log_start + log + 4096 * pages

-- the sizes that a store may have
pub record IsGeometry (g : Geometry) : Type 0 where
  pub version : g.version ≡ 1
  pub pages : (64 ≤ g.pages) × (g.pages ≤ 65536)
  pub log : (2097152 ≤ g.log) × (g.log ≤ 16777216)

-- the sizes of a store of so many pages, with a log of so many bytes
abbrev pub geometry_of : ℕ → ℕ → Geometry
geometry_of pages log = record { pages = pages; log = log; version = 1 }

-- the gates of the chunks
abbrev pub gates_of : Geometry → Range
gates_of g = record { start = gates_start; len = 65536 }

-- the region of the log, behind them
abbrev pub log_of : Geometry → Range
log_of g = record { start = log_start; len = g.log }

-- where page p begins, behind the log
abbrev pub place_of : Geometry → ℕ → ℕ
place_of g p = log_start + g.log + 4096 * p

-- page p of an image
abbrev pub page_at : Geometry → ℕ → List ℕ → List ℕ
page_at g p image = take 4096 (drop (place_of g p) image)

-- the super page of an image, in front
abbrev pub super_of : List ℕ → List ℕ
super_of image = take 4096 image

-- the eight letters STARBRST
abbrev pub name_of_store : List ℕ
name_of_store = 83 ∷ 84 ∷ 65 ∷ 82 ∷ 66 ∷ 82 ∷ 83 ∷ 84 ∷ []

-- the super page of a store of these sizes: its gate is open, and the name and the numbers are there
pub record IsSuper (g : Geometry) (super : List ℕ) : Type 0 where
  pub gate : slice_index super 0 ≡ 165
  pub name : take 8 (drop 8 super) ≡ name_of_store
  pub version : number_at 2 super 16 ≡ g.version
  pub pages : number_at 4 super 20 ≡ g.pages
  pub log : number_at 8 super 24 ≡ g.log

-- an image of a store of these sizes, which are in range: its super page says so, and the store fits the image
pub record IsStoreOf (g : Geometry) (image : List ℕ) : Type 0 where
  pub sizes : IsGeometry g
  pub super : IsSuper g (super_of image)
  pub room : need g.pages g.log ≤ length image
