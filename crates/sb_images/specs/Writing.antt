-- Runs of writes of whole pages, each of which has an Image in an open chunk.
use Rattle.std.specs.Prelude.{◌≡◌, ◌⊎◌, ℕ, ◌<◌, Option, Some, None, List}
use Rattle.sb_disk.specs.Disk.{Story, WhereTold}
use Rattle.sb_disk.specs.Moments.{LeavesOnly}
use Rattle.sb_journal.specs.State.{State}
use Rattle.sb_log.specs.declared.geometry.Geometry.{Geometry}
use Rattle.sb_log.specs.Records.{Record}
use Rattle.sb_images.specs.Layout.{page_at}
use Rattle.sb_images.specs.Images.{Restores}
use Rattle.sb_images.specs.Store.{IsReadyOn, KeepsRest}

-- each page that was so, or is one of those that are done, is so on the disk now
abbrev pub AreWritten : (ℕ → List ℕ) → Geometry → (ℕ → Type 0) → Story → Story → Type 0
AreWritten pages g Done s t =
    (p : ℕ) → p < g.pages → (page_at g p s.now.reads ≡ pages p) ⊎ Done p → page_at g p t.now.reads ≡ pages p

-- The pages wanted are restored at each moment. Those that are done are on the disk as these pages, and no page without an Image has changed.
pub record Writes (want pages : ℕ → List ℕ) (j : State) (g : Geometry) (opened pending : List Record)
    (Done : ℕ → Type 0) (old new : Option Story) : Type 0 where
  pub leaves : LeavesOnly old new (Restores g want)
  pub ready : IsReadyOn want new j g opened pending
  pub written : WhereTold old new (AreWritten pages g Done)
  pub rest : WhereTold old new (KeepsRest g opened)

-- each page is one of those, or is so on the disk
abbrev pub HasRest : (ℕ → List ℕ) → Option Story → Geometry → (ℕ → Type 0) → Type 0
HasRest pages None g Done = Unit {0}
HasRest pages (Some s) g Done =
    (p : ℕ) → p < g.pages → (page_at g p s.now.reads ≡ pages p) ⊎ Done p
