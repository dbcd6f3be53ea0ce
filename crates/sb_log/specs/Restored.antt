-- What a log makes of the pages of a disk.
use Rattle.std.specs.Prelude.{◌≡◌, ℕ, Bool, true, false, cond, ◌&&◌, ◌||◌, ◌==◌, List, [], ◌∷◌, ◌++◌, filter}
use Rattle.sb_bytes.specs.Bytes.{splice}
use Rattle.sb_log.specs.Records.{Change, Record, Begin, Image, Changed, Back, Commit}
use Rattle.sb_log.specs.Standing.{standing, committed}

-- the page's first Image, or else the disk's page
abbrev pub base : ℕ → List Record → List ℕ → List ℕ
base p [] disk = disk
base p (Image page bytes ∷ recs) disk = cond (page == p) bytes (base p recs disk)
base p (_ ∷ recs) disk = base p recs disk

-- there is an Image of the page
abbrev pub imaged : List Record → ℕ → Bool
imaged [] p = false
imaged (Image page bytes ∷ recs) p = (page == p) || imaged recs p
imaged (_ ∷ recs) p = imaged recs p

-- the bytes with each change written over them, the first of them first
abbrev pub over : List Change → List ℕ → List ℕ
over [] bytes = bytes
over (c ∷ cs) bytes = over cs (splice c.offset c.after bytes)

-- those of the changes that are of the page and whose transactions count
abbrev pub counting : (ℕ → Bool) → ℕ → List Change → List Change
counting counts p cs = filter (λ c. counts c.tx && (c.page == p)) cs

-- page p restored: its base, with the standing changes of committed transactions written over it
abbrev pub restored : List Record → ℕ → List ℕ → List ℕ
restored recs p disk = over (counting (committed recs) p (standing recs)) (base p recs disk)

-- ---- covered
-- a change of a page wants an Image of it among the records before
abbrev pub IsCoveredBy : List Record → Record → Type 0
IsCoveredBy past (Changed c) = imaged past c.page ≡ true
IsCoveredBy past _ = Unit {0}

-- in front of each change there is an Image of its page, among these records or those before
abbrev pub IsCoveredBehind : List Record → List Record → Type 0
IsCoveredBehind past [] = Unit {0}
IsCoveredBehind past (r ∷ recs) = IsCoveredBy past r × IsCoveredBehind (past ++ r ∷ []) recs

-- in front of each change there is an Image of its page
abbrev pub IsCovered : List Record → Type 0
IsCovered recs = IsCoveredBehind [] recs

-- ---- records that change nothing yet
-- One record more leaves page p as it is restored: an Image holds the page's base, and no committed transaction goes on.
abbrev pub IsHarmless : List Record → ℕ → List ℕ → Record → Type 0
IsHarmless recs p disk (Begin tx) = Unit {0}
IsHarmless recs p disk (Image page bytes) = page ≡ p → base p recs bytes ≡ base p recs disk
IsHarmless recs p disk (Changed c) = committed recs c.tx ≡ false
IsHarmless recs p disk (Back tx n) = committed recs tx ≡ false
IsHarmless recs p disk (Commit tx) = ⊥

-- and so does each of these, behind those before it
abbrev pub AreHarmless : List Record → ℕ → List ℕ → List Record → Type 0
AreHarmless recs p disk [] = Unit {0}
AreHarmless recs p disk (r ∷ more) = IsHarmless recs p disk r × AreHarmless (recs ++ r ∷ []) p disk more
