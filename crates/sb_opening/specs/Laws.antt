-- What pages keep, whichever boxes are live.
use Rattle.std.specs.Prelude.{◌≡◌, ℕ, Bool, true, Option, None, is_some, []}
use Rattle.sb_disk.specs.Disk.{Story}
use Rattle.sb_images.specs.Store.{IsMounted}
use Rattle.sb_log.specs.declared.geometry.Geometry.{Geometry}
use Rattle.sb_recover.specs.FirstPages.{first_page}
use Rattle.sb_relation.specs.Db.{Db}
use Rattle.sb_registry.specs.Boxes.{Meanings, repeated_in}
use Rattle.sb_drive.specs.Spaces.{Wanted}
use Rattle.sb_session.specs.Transactions.{IsCommitted}
use Rattle.sb_vectors.specs.Vectors.{AreSameBoxes, Registers, Retires}
use Rattle.sb_opening.specs.Naming.{HasSameNamed, all_live, named_in}
use Rattle.sb_opening.specs.Opening.{IsStored}

-- what a run has committed with its live boxes is so with all its boxes live
abbrev pub CommittedByAll : Type 0
CommittedByAll =
    (m : Meanings) (root pages : ℕ) (want : Wanted) (db : Db) → IsCommitted m root pages want db → IsCommitted (all_live m) root pages want db

-- and with any others of which those are the same ones that its relations name, in whichever order
abbrev pub CommittedBySame : Type 0
CommittedBySame =
    (m n : Meanings) (root pages : ℕ) (want : Wanted) (db : Db) (of : IsCommitted (all_live m) root pages want db)
    → HasSameNamed (named_in of.kept) m n → IsCommitted (all_live n) root pages want db

-- a box that becomes live or spare is there before and after
abbrev pub MovedAreSame : Type 0
MovedAreSame =
    (method moved : Bool) (code : ℕ) (m n : Meanings) → repeated_in m ≡ None → repeated_in n ≡ None → Registers method code moved m n
    → AreSameBoxes m n

abbrev pub RetiredAreSame : Type 0
RetiredAreSame =
    (method moved : Bool) (code : ℕ) (m n : Meanings) → repeated_in m ≡ None → repeated_in n ≡ None → Retires method code moved m n
    → AreSameBoxes m n

-- what restores the first pages of a new store keeps the empty database
abbrev pub NewAreEmpty : Type 0
NewAreEmpty =
    (m : Meanings) (told : Option Story) (g : Geometry) → is_some told ≡ true → IsMounted (first_page g.pages) told g
    → IsStored m told g (first_page g.pages) []
