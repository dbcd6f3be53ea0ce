-- A worked log, over pages of four bytes.
use Rattle.std.proofs.Common.{◌≡◌, ℕ, List, [], ◌∷◌, refl}
use Rattle.sb_log.specs.Records.{Change, Record, Begin, Image, Changed, Back, Commit}
use Rattle.sb_log.specs.Standing.{standing, own_standing}
use Rattle.sb_log.specs.Restored.{restored, IsCovered}

abbrev change : ℕ → ℕ → ℕ → Change
change tx offset byte = record { tx = tx; owner = 3; page = 0; offset = offset; before = 0 ∷ []; after = byte ∷ [] }

abbrev zeros : List ℕ
zeros = 0 ∷ 0 ∷ 0 ∷ 0 ∷ []

-- the first transaction goes back to one change and is committed, the second one isn't, and the third one is
abbrev recs : List Record
recs =
    Begin 1 ∷ Image 0 zeros ∷ Changed (change 1 1 7) ∷ Changed (change 1 2 8) ∷ Begin 2 ∷ Changed (change 2 0 9) ∷ Back 1 1 ∷ Commit 1
    ∷ Begin 3 ∷ Changed (change 3 3 6) ∷ Back 2 1 ∷ Commit 3 ∷ []

pub recs-standing : standing recs ≡ change 1 1 7 ∷ change 2 0 9 ∷ change 3 3 6 ∷ []
recs-standing = refl

pub recs-of_the_first : own_standing 1 [] recs ≡ change 1 1 7 ∷ []
recs-of_the_first = refl

pub recs-covered : IsCovered recs
recs-covered = (tt, (tt, (refl, (refl, (tt, (refl, (tt, (tt, (tt, (refl, (tt, (tt, tt))))))))))))

-- whatever the disk has, the page comes from its image
pub recs-restored : (disk : List ℕ) → restored recs 0 disk ≡ 0 ∷ 7 ∷ 0 ∷ 6 ∷ []
recs-restored disk = refl

-- a page without an image is the disk's
pub recs-other_page : (disk : List ℕ) → restored recs 1 disk ≡ disk
recs-other_page disk = refl
