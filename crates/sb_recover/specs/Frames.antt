-- Pages in memory, one for each page of a store, with no bytes where a page isn't held.
use Rattle.std.specs.Prelude.{◌≡◌, ◌⊎◌, ℕ, ◌<◌, Bool, true, false, cond, ◌==◌, Option, Some, None, List, [], ◌∷◌, length, slice_index_or}
use Rattle.std.specs.declared.vec.Vec.{Vec}
use Rattle.std.specs.declared.alloc.Global.{Global}
use Rattle.sb_disk.specs.Disk.{Story}
use Rattle.sb_log.specs.declared.geometry.Geometry.{Geometry}
use Rattle.sb_log.specs.Records.{Change}
use Rattle.sb_log.specs.Restored.{over, counting}
use Rattle.sb_images.specs.Layout.{page_at}

-- the bytes of each
abbrev pub texts : List (Vec ℕ Global) → List (List ℕ)
texts [] = []
texts (v ∷ vs) = v.items ∷ texts vs

-- the first bytes where there are some, and else the others
abbrev pub or_else : List ℕ → List ℕ → List ℕ
or_else [] others = others
or_else (b ∷ bytes) others = b ∷ bytes

-- there are bytes
abbrev pub is_some : List ℕ → Bool
is_some [] = false
is_some (b ∷ bytes) = true

-- the page of this number as it is held
abbrev pub frame_at : List (List ℕ) → ℕ → List ℕ
frame_at frames p = slice_index_or frames p []

-- the page is held
abbrev pub has : List (List ℕ) → ℕ → Bool
has frames p = is_some (frame_at frames p)

-- the page as it is held, or else the disk's page
abbrev pub held : List (List ℕ) → ℕ → List ℕ → List ℕ
held frames p disk = or_else (frame_at frames p) disk

-- each page that is held is whole
abbrev pub AreWhole : List (List ℕ) → Type 0
AreWhole [] = Unit {0}
AreWhole (f ∷ frames) = ((f ≡ []) ⊎ (length f ≡ 4096)) × AreWhole frames

-- So many frames, all whole.
pub record AreFrames (count : ℕ) (frames : List (List ℕ)) : Type 0 where
  pub count_is : length frames ≡ count
  pub whole : AreWhole frames

-- With these changes of transactions that count written over them, where a page that wasn't held is the disk's. A page that is held now was so before, or has such a change.
pub record AreChanged (pages : ℕ) (disk : ℕ → List ℕ) (counts : ℕ → Bool) (cs : List Change) (old new : List (List ℕ))
    : Type 0 where
  pub bytes : (p : ℕ) → p < pages → held new p (disk p) ≡ over (counting counts p cs) (held old p (disk p))
  pub others : (p : ℕ) → p < pages → has new p ≡ true → (has old p ≡ true) ⊎ ¬ (counting counts p cs ≡ [])

-- the same, with the pages of the disk that are told
abbrev pub ChangedOn : Option Story → Geometry → (ℕ → Bool) → List Change → List (List ℕ) → List (List ℕ) → Type 0
ChangedOn None g counts cs old new = Unit {0}
ChangedOn (Some s) g counts cs old new = AreChanged g.pages (λ p. page_at g p s.now.reads) counts cs old new

-- The page has these bytes now if it had none, and each other page is as it was.
pub record HoldsFirst (page : ℕ) (bytes : List ℕ) (old new : List (List ℕ)) : Type 0 where
  pub count : length new ≡ length old
  pub each : (p : ℕ) → p < length old → frame_at new p ≡ cond (page == p) (or_else (frame_at old p) bytes) (frame_at old p)
  pub whole : length bytes ≡ 4096 → AreWhole old → AreWhole new

-- so many frames, none of which is held
pub record NoneHeld (count : ℕ) (frames : List (List ℕ)) : Type 0 where
  pub count_is : length frames ≡ count
  pub none : (p : ℕ) → frame_at frames p ≡ []
  pub whole : AreWhole frames

-- the bytes are the disk's page, where it is told
abbrev pub IsPageOf : Option Story → Geometry → ℕ → List ℕ → Type 0
IsPageOf None g p bytes = Unit {0}
IsPageOf (Some s) g p bytes = bytes ≡ page_at g p s.now.reads

-- the page wasn't held, and is as the disk has it now
pub record WasRead (told : Option Story) (g : Geometry) (page : ℕ) (old new : List (List ℕ)) : Type 0 where
  pub bytes : List ℕ
  pub long : length bytes ≡ 4096
  pub is_page : IsPageOf told g page bytes
  pub none : frame_at old page ≡ []
  pub holds : HoldsFirst page bytes old new

-- the page is held: it was so before, or it is as the disk has it
abbrev pub HeldOn : Option Story → Geometry → ℕ → List (List ℕ) → List (List ℕ) → Type 0
HeldOn told g page old new = ((has old page ≡ true) × (new ≡ old)) ⊎ WasRead told g page old new
