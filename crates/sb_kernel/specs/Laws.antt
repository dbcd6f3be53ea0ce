-- What one run leaves the next one finds.
use Rattle.std.specs.Prelude.{◌≡◌, ℕ, true, false, is_some, List, Option}
use Rattle.sb_disk.specs.Disk.{Story}
use Rattle.sb_disk.specs.Moments.{IsSettled, LeavesNow, contents}
use Rattle.sb_log.specs.declared.geometry.Geometry.{Geometry}
use Rattle.sb_relation.specs.Db.{Db}
use Rattle.sb_plain.specs.State.{State, committed}
use Rattle.sb_registry.specs.Boxes.{Meanings}
use Rattle.sb_drive.specs.Spaces.{Wanted}
use Rattle.sb_opening.specs.Naming.{HasSameNamed, named_in}
use Rattle.sb_opening.specs.Opening.{IsStored}
use Rattle.sb_opening.specs.Session.{Session}
use Rattle.sb_kernel.specs.World.{World, IsNow}
use Rattle.sb_kernel.specs.Crashes.{HoldsDatabase}

-- some pages that the disk's contents restore keep the database
pub record StoresSome (m : Meanings) (told : Option Story) (db : Db) : Type 0 where
  pub geometry : Geometry
  pub want : Wanted
  pub stored : IsStored m told geometry want db

-- A disk on which no byte is pending, with the contents of an image that holds a database, stores it for boxes of which those are the same ones that its
-- relations name.
abbrev pub HeldIsStored : Type 0
HeldIsStored =
    (m n : Meanings) (image : List ℕ) (db : Db) (told : Option Story) (held : HoldsDatabase m image db) → HasSameNamed (named_in held.committed.kept) m n
    → is_some told ≡ true → IsSettled told → contents told ≡ image → StoresSome n told db

-- while nothing is asked of a session that isn't down, a crash leaves the last commit
abbrev pub RestsHeld : {B D : Type 0} → World B D → Type 0
RestsHeld {B} {D} w =
    (m : Meanings) (disk : D) (x : Session B) (s : State) (image : List ℕ) → IsNow w m disk x s → s.down ≡ false → LeavesNow (w.told disk) image
    → HoldsDatabase m image (committed s)
