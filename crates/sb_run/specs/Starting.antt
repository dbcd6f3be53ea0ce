-- A session that is opened over a mounted disk, as the words ask.
use Rattle.std.specs.Prelude.{◌≡◌, ◌⊎◌, ℕ, ◌≤◌, Bool, true, false, Option, None, is_some, List, []}
use Rattle.sb_disk.specs.Disk.{Story}
use Rattle.sb_disk.specs.Moments.{IsSettled, LeavesOnly}
use Rattle.sb_images.specs.Images.{Restores}
use Rattle.sb_images.specs.Layout.{geometry_of, IsGeometry}
use Rattle.sb_images.specs.Store.{IfTold, IsMounted}
use Rattle.sb_log.specs.declared.geometry.Geometry.{Geometry}
use Rattle.sb_recover.specs.Formatting.{IsFormatting}
use Rattle.sb_recover.specs.Geometries.{HoldsNone}
use Rattle.sb_recover.specs.SuperPage.{IsNoStore}
use Rattle.sb_relation.specs.Db.{Db}
use Rattle.sb_registry.specs.Boxes.{Meanings}
use Rattle.sb_drive.specs.Spaces.{Wanted}
use Rattle.sb_sound_plays.specs.Session.{Session}
use Rattle.sb_sound_plays.specs.Named.{Named}
use Rattle.sb_sound_plays.specs.Naming.{HasLive, named_in}
use Rattle.sb_sound_plays.specs.Opening.{HasBoxes, IsStored, Wants, opened}
use Rattle.sb_sound_plays.specs.Sessions.{parts_of, sizes_of}
use Rattle.sb_sound_plays.specs.World.{World, IsNow}
use Rattle.sb_sound_plays.specs.Crashes.{HoldsDatabase}
use Rattle.sb_words.specs.declared.words.Words.{Words}

-- the sizes are those that a store may have, and so is the number of frames
pub record AreSizes (words : Words) : Type 0 where
  pub store : IsGeometry (geometry_of words.pages words.log)
  pub frames : (8 ≤ words.frames) × (words.frames ≤ 65536)

-- The session stands for the database, with those of the boxes live that were, and the named ones. Meanwhile a crash left what is said of early
-- images.
pub record StartsAt {B D : Type 0} (w : World B D) (m : Meanings) (g : Geometry) (named : List Named) (IsEarly : List ℕ → Type 0) (db : Db) (mounted here : D)
    (x : Session B) : Type 0 where
  pub live : HasLive m named (w.meanings x.boxes)
  pub sizes : sizes_of x ≡ g
  pub later : w.faults mounted ≤ w.faults here
  pub now : IsNow w m here x (opened (w.meanings x.boxes) db)
  pub early : LeavesOnly (w.told mounted) (w.told here) IsEarly

-- The disk comes to hold a new store of the sizes that the words ask for; meanwhile a crash left none, or that one.
abbrev pub MakesStore : Words → (mounted here : Option Story) → Type 0
MakesStore words mounted here = LeavesOnly mounted here (IsFormatting (geometry_of words.pages words.log))

-- What the contents' store restores a crash has left meanwhile, and it is wanted of the session's store, whatever it stands for. No transaction is open.
pub record KeepsStored {B D : Type 0} (w : World B D) (mounted here : D) (x : Session B) : Type 0 where
  pub outside : x.open ≡ None
  pub leaves : (want : ℕ → List ℕ) (g : Geometry) → IsMounted want (w.told mounted) g → LeavesOnly (w.told mounted) (w.told here) (Restores g want)
  pub sizes : (want : ℕ → List ℕ) (g : Geometry) → IsMounted want (w.told mounted) g → IfTold (w.told mounted) (sizes_of x ≡ g)
  pub wanted : (want : ℕ → List ℕ) (g : Geometry) → IsMounted want (w.told mounted) g → Wants want (parts_of w.told w.len here x)

-- Over contents that stand for a database the session stands for it; a new store's database is empty. No store is opened of which a box is missing, and
-- none is made where one is.
abbrev pub HasStarted : {B D : Type 0} → World B D → Meanings → Words → (create : Bool) → (mounted now : D) → Session B → Type 0
HasStarted w m words false mounted now x =
    HasBoxes m (w.told mounted)
    × ((g : Geometry) (want : Wanted) (db : Db) (stored : IsStored m (w.told mounted) g want db)
    → StartsAt w m g (named_in stored.committed.kept) (λ image. HoldsDatabase m image db) db mounted now x)
    × KeepsStored w mounted now x
HasStarted w m words true mounted now x =
    HoldsNone (w.told mounted)
    × (is_some (w.told mounted) ≡ true → IsSettled (w.told mounted)
    → StartsAt w m (geometry_of words.pages words.log) [] (λ image. IsNoStore image ⊎ HoldsDatabase m image []) [] mounted now x × MakesStore words (w.told mounted) (w.told now))
