-- The frames of a pool, and the calls on the disk that write them.
use Rattle.std.specs.Prelude.{◌≡◌, ℕ, ◌+◌, Bool, true, false, cond, Option, Some, None, List, [], ◌∷◌, length}
use Rattle.sb_disk.specs.Disk.{Story, wrote, FailedWrite, Reads}
use Rattle.sb_disk.specs.Moments.{Step}
use Rattle.sb_disk.specs.Moments.Step.{Write, Sync}
use Rattle.sb_log.specs.declared.geometry.Geometry.{Geometry}
use Rattle.sb_images.specs.Layout.{place_of}
use Rattle.sb_pool.specs.declared.frame.Content.{Content}
use Rattle.sb_pool.specs.declared.frame.Content.TheVariants.{Nothing, Clean, Dirty}
use Rattle.sb_pool.specs.declared.frame.Frame.{Frame}
use Rattle.sb_pool.specs.State.{Held}

-- the page that these bytes are, by what the frame has
abbrev pub held_as : Content → List ℕ → Option Held
held_as Nothing bytes = None
held_as Clean bytes = Some (record { bytes = bytes; dirty = false })
held_as Dirty bytes = Some (record { bytes = bytes; dirty = true })

-- the frame has the bytes of a page
abbrev pub IsFrame : Frame → Type 0
IsFrame f = length f.bytes.items ≡ 4096

-- the page that a frame holds
abbrev pub held_of : Frame → Option Held
held_of f = held_as f.content f.bytes.items

-- the frame holds its page, as it did or as the disk has it
abbrev pub IsLoaded : Option Story → ℕ → Option Held → Option Held → List ℕ → Type 0
IsLoaded told at None new bytes = (new ≡ Some (record { bytes = bytes; dirty = false })) × Reads told at bytes
IsLoaded told at (Some h) new bytes = new ≡ Some h

-- the page is written, where it is dirty
abbrev pub put_out : ℕ → Option Held → Option Story → Option Story
put_out at None told = told
put_out at (Some h) told = cond h.dirty (wrote at h.bytes told) told

-- that write has failed
abbrev pub HasFailed : ℕ → Option Held → Option Story → Option Story → Type 0
HasFailed at None old new = ⊥
HasFailed at (Some h) old new = (h.dirty ≡ true) × FailedWrite at (length h.bytes) old new

-- ---- the dirty pages of a pool
-- a page that is to be written, and its bytes
pub record Put : Type 0 where
  pub page : ℕ
  pub bytes : List ℕ

-- the page in front of others, if so
abbrev pub put_if : Bool → ℕ → List ℕ → List Put → List Put
put_if true p bytes puts = record { page = p; bytes = bytes } ∷ puts
put_if false p bytes puts = puts

-- page p in front of others, where it is dirty
abbrev pub put_and : ℕ → Option Held → List Put → List Put
put_and p None puts = puts
put_and p (Some h) puts = put_if h.dirty p h.bytes puts

-- the dirty ones of these pages, the first of which is page p
abbrev pub dirty_from : ℕ → List (Option Held) → List Put
dirty_from p [] = []
dirty_from p (h ∷ hs) = put_and p h (dirty_from (p + 1) hs)

-- each of them is written, and then the disk is synced
abbrev pub puts : Geometry → List Put → List Step
puts g [] = Sync ∷ []
puts g (d ∷ ds) = Write (place_of g d.page) d.bytes ∷ puts g ds
