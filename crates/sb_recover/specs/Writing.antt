-- Pages that are written to the disk.
use Rattle.std.specs.Prelude.{◌≡◌, ℕ, ◌+◌, ◌<◌, ◌≤◌, true, Option, Some, None, List, [], ◌∷◌, length, slice_index}
use Rattle.sb_disk.specs.Disk.{Story, Covered, WhereTold, wrote}
use Rattle.sb_disk.specs.Moments.{LeavesOnly}
use Rattle.sb_log.specs.declared.geometry.Geometry.{Geometry}
use Rattle.sb_images.specs.Layout.{place_of, page_at}
use Rattle.sb_recover.specs.Frames.{has, held}

-- the byte is one of a page that is held
pub record IsHeld (g : Geometry) (frames : List (List ℕ)) (i : ℕ) : Type 0 where
  pub p : ℕ
  pub below : p < g.pages
  pub held_is : has frames p ≡ true
  pub from : place_of g p ≤ i
  pub to : i < place_of g p + 4096

-- as many bytes, and the same but for pages that are held
pub record AgreesOff (g : Geometry) (frames : List (List ℕ)) (old new : List ℕ) : Type 0 where
  pub size : length old ≡ length new
  pub bytes : (i : ℕ) → ¬ IsHeld g frames i → slice_index old i ≡ slice_index new i

-- a crash leaves what is told, but for pages that are held
abbrev pub LeavesPages : Geometry → List (List ℕ) → Option Story → List ℕ → Type 0
LeavesPages g frames None image = ⊥
LeavesPages g frames (Some s) image = AgreesOff g frames s.now.reads image

-- what the write of a page makes of what is told, where it has bytes
abbrev pub with_page : Geometry → ℕ → List ℕ → Option Story → Option Story
with_page g p [] told = told
with_page g p (b ∷ bytes) told = wrote (place_of g p) (b ∷ bytes) told

-- The pages that are held are on the disk, and nothing is pending. Elsewhere all is as it was.
pub record AllWritten (g : Geometry) (frames : List (List ℕ)) (s t : Story) : Type 0 where
  pub pages : (p : ℕ) → p < g.pages → page_at g p t.now.reads ≡ held frames p (page_at g p s.now.reads)
  pub elsewhere : AgreesOff g frames s.now.reads t.now.reads
  pub settled : t.now.written ≡ []

-- so for the first n pages, and only bytes of pages that are held are pending
pub record FirstWritten (g : Geometry) (frames : List (List ℕ)) (n : ℕ) (s t : Story) : Type 0 where
  pub first : (p : ℕ) → p < n → p < g.pages → page_at g p t.now.reads ≡ held frames p (page_at g p s.now.reads)
  pub rest : (p : ℕ) → n ≤ p → p < g.pages → page_at g p t.now.reads ≡ page_at g p s.now.reads
  pub elsewhere : AgreesOff g frames s.now.reads t.now.reads
  pub pending : (i : ℕ) → Covered i t.now.written → IsHeld g frames i

-- a run of writes of the first n pages, with what a crash may leave all along
pub record Wrote (g : Geometry) (frames : List (List ℕ)) (n : ℕ) (old new : Option Story) : Type 0 where
  pub leaves : LeavesOnly old new (LeavesPages g frames old)
  pub so_far : WhereTold old new (FirstWritten g frames n)
