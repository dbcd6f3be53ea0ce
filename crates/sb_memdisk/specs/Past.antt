-- The story that a memory disk's bytes and its list of writes tell.
use Rattle.std.specs.Prelude.{◌≡◌, ◌<◌, ◌≤◌, Vec, vec_capacity, ℕ, zero, suc, List, [], ◌∷◌, length, take, reverse}
use Rattle.sb_bytes.specs.Bytes.{splice}
use Rattle.sb_disk.specs.Disk.{Story, after_write, after_sync, after_idle}
use Rattle.sb_memdisk.specs.declared.past.Lull.{Lull}
use Rattle.sb_memdisk.specs.declared.past.Entry.{Entry}

-- that many calls that changed nothing
abbrev pub after_idles : ℕ → Story → Story
after_idles zero s = s
after_idles (suc n) s = after_idle (after_idles n s)

-- that many syncs
abbrev pub after_syncs : ℕ → Story → Story
after_syncs zero s = s
after_syncs (suc n) s = after_sync (after_syncs n s)

-- calls that changed nothing, and then syncs
abbrev pub after_lull : Lull → Story → Story
after_lull lull s = after_syncs lull.synced (after_idles lull.idle s)

-- a disk with these bytes, to which nothing was done
abbrev pub start : List ℕ → Story
start bytes = record { now = record { reads = bytes; written = [] }; before = [] }

-- the story of a disk that holds these bytes right after these writes, the newest first
abbrev pub story_after : List Entry → List ℕ → Story
story_after [] bytes = start bytes
story_after (newest ∷ older) bytes =
    after_write newest.at (length newest.replaced.items) bytes (after_lull newest.lull (story_after older (splice newest.at newest.replaced.items bytes)))

-- the same with the writes as the disk holds them, the newest last, and what came after the last one
abbrev pub story_of : List Entry → Lull → List ℕ → Story
story_of past lull bytes = after_lull lull (story_after (reverse past) bytes)

-- The first bytes of a write are stored, and the write is noted.
pub record IsStored (lull : Lull) (at : ℕ) (written : List ℕ) (kept : ℕ) (before after : List ℕ) (past next : List Entry) : Type 0 where
  pub bytes : after ≡ splice at (take kept written) before
  pub story : story_after (reverse next) after ≡ after_write at (length written) after (after_lull lull (story_after (reverse past) before))

-- There is memory for a write of so many bytes that is torn: for what it replaces, and for its entry.
pub record IsReady {A B : Type 0} (size : ℕ) (spare : Vec ℕ A) (past : Vec Entry B) : Type 0 where
  pub none : spare.items ≡ []
  pub bytes : size ≤ vec_capacity spare
  pub entry : length past.items < vec_capacity past
