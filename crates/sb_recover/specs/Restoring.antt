-- Pages as a log restores them.
use Rattle.std.specs.Prelude.{◌≡◌, ℕ, ◌<◌, true, Option, Some, None, List}
use Rattle.sb_disk.specs.Disk.{Story}
use Rattle.sb_log.specs.declared.geometry.Geometry.{Geometry}
use Rattle.sb_log.specs.Records.{Record, AreRecords, Spells}
use Rattle.sb_log.specs.Restored.{restored, imaged, IsCovered}
use Rattle.sb_images.specs.Layout.{page_at}
use Rattle.sb_recover.specs.Frames.{has, held}

-- With the disk's page where none is held, each page is as these records restore it. If they are covered, each page that is held has an Image.
pub record AreRestored (pages : ℕ) (disk : ℕ → List ℕ) (recs : List Record) (frames : List (List ℕ)) : Type 0 where
  pub each : (p : ℕ) → p < pages → held frames p (disk p) ≡ restored recs p (disk p)
  pub logged : IsCovered recs → (p : ℕ) → p < pages → has frames p ≡ true → imaged recs p ≡ true

-- so it is by the records of the chunks, with the pages of the disk that are told
abbrev pub RestoredOn : Option Story → Geometry → List (List ℕ) → List (List ℕ) → Type 0
RestoredOn None g chunks frames = Unit {0}
RestoredOn (Some s) g chunks frames =
    (recs : List Record) → AreRecords recs → Spells chunks recs
    → AreRestored g.pages (λ p. page_at g p s.now.reads) recs frames
