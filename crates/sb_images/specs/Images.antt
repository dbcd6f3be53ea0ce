-- What an image of a store restores.
use Rattle.std.specs.Prelude.{◌≡◌, ◌⊎◌, ℕ, ◌<◌, List}
use Rattle.sb_journal.specs.Chunks.{ReadsAs}
use Rattle.sb_log.specs.declared.geometry.Geometry.{Geometry}
use Rattle.sb_log.specs.Records.{Record, AreRecords, Spells}
use Rattle.sb_log.specs.Restored.{restored, IsCovered}
use Rattle.sb_images.specs.Layout.{gates_of, log_of, page_at, IsStoreOf}

-- the open chunks of the image are these records
pub record Logs (g : Geometry) (image : List ℕ) (recs : List Record) : Type 0 where
  pub chunks : List (List ℕ)
  pub reads : ReadsAs (gates_of g) (log_of g) image chunks
  pub spells : Spells chunks recs
  pub sound : AreRecords recs

-- The image is one of a store of these sizes. What it restores are these pages, and its log is covered.
pub record Restores (g : Geometry) (want : ℕ → List ℕ) (image : List ℕ) : Type 0 where
  pub recs : List Record
  pub store : IsStoreOf g image
  pub logs : Logs g image recs
  pub covered : IsCovered recs
  pub each : (p : ℕ) → p < g.pages → restored recs p (page_at g p image) ≡ want p

-- the image restores the old pages or the new ones
abbrev pub IsOldOrNew : Geometry → (ℕ → List ℕ) → (ℕ → List ℕ) → List ℕ → Type 0
IsOldOrNew g old new image = Restores g old image ⊎ Restores g new image
