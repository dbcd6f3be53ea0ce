-- What a restart knows of a log.
use Rattle.std.specs.Prelude.{◌≡◌, ℕ, ◌<◌, List, ◌++◌, length}
use Rattle.std.specs.Ordering.{nat_cmp}
use Rattle.std.specs.BTreeSet.{contains_by}
use Rattle.sb_log.specs.Records.{Record, AreRecords, Spells, spelled}
use Rattle.sb_log.specs.Standing.{standing, committed}
use Rattle.sb_log.specs.Restored.{base, imaged}
use Rattle.sb_recover.specs.declared.found.Found.{Found}
use Rattle.sb_recover.specs.Changes.{changes_of, newest_first, limits_of, taken, AreNumbered, AllFit}
use Rattle.sb_recover.specs.Frames.{texts, has, held, AreFrames}

-- these records are what was found
pub record IsFound (f : Found) (recs : List Record) : Type 0 where
  pub stand : taken (limits_of f.counts) (newest_first f.changes.items) ≡ standing recs
  pub numbered : AreNumbered (limits_of f.counts) (newest_first f.changes.items)
  pub done : (tx : ℕ) → contains_by (nat_cmp tx) f.committed ≡ committed recs tx
  pub bases : (p : ℕ) (disk : List ℕ) → p < length f.frames.items → held (texts f.frames.items) p disk ≡ base p recs disk
  pub logged : (p : ℕ) → p < length f.frames.items → has (texts f.frames.items) p ≡ imaged recs p

-- each change lies within its page, and the frames are those of so many pages
pub record IsSound (pages : ℕ) (f : Found) : Type 0 where
  pub fit : AllFit (changes_of f.changes.items)
  pub frames : AreFrames pages (texts f.frames.items)

-- these records more were taken
pub record Takes (f g : Found) (recs : List Record) : Type 0 where
  pub found : (before : List Record) → IsFound f before → IsFound g (before ++ recs)
  pub sound : (pages : ℕ) → IsSound pages f → IsSound pages g

-- the records that stand at the front of a chunk were taken, up to the rest
pub record TakesFront (f g : Found) (chunk rest : List ℕ) : Type 0 where
  pub recs : List Record
  pub are : AreRecords recs
  pub front : chunk ≡ spelled recs ++ rest
  pub takes : Takes f g recs

-- the records of a chunk were taken, if it is a row of records
pub record TakesChunk (f g : Found) (chunk : List ℕ) : Type 0 where
  pub found : (recs before : List Record) → AreRecords recs → chunk ≡ spelled recs → IsFound f before → IsFound g (before ++ recs)
  pub sound : (pages : ℕ) → IsSound pages f → IsSound pages g

-- If the chunks are rows of records, these are what was found; and so many pages have a frame.
pub record FoundIn (pages : ℕ) (chunks : List (List ℕ)) (f : Found) : Type 0 where
  pub found : (recs : List Record) → AreRecords recs → Spells chunks recs → IsFound f recs
  pub sound : IsSound pages f
