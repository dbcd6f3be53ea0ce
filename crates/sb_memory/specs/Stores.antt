-- What is written to a memory where the edits of a Ctx are stored.
use Rattle.std.specs.Prelude.{◌≡◌, ◌≢◌, ℕ, ◌<◌, cond, List, [], ◌++◌, map, All}
use Rattle.sb_relation.specs.Fits.{is_empty}
use Rattle.sb_ctx.specs.View.{View}
use Rattle.sb_forms.specs.Pages.{IsWhole}
use Rattle.sb_memory.specs.declared.slots.Write.{Write}
use Rattle.sb_drive.specs.Slots.{Slot, Slots, nobodys}
use Rattle.sb_drive.specs.Stores.{bytes_in}

-- a page without bytes is nobody's
abbrev pub slot_of : ℕ → List ℕ → Slot
slot_of owner bytes = cond (is_empty bytes) nobodys (owner, bytes)

abbrev pub writes_to : ℕ → View → List ℕ → List Write
writes_to owner c ns = map (λ n. record { number = n; slot = slot_of owner (bytes_in c n) }) ns

-- the page is nobody's, or this owner's
pub record MayWrite (s : Slots) (owner n : ℕ) : Type 0 where
  pub somebody : owner ≢ 0
  pub below : n < 16384
  pub own : (s n).0 ≢ 0 → (s n).0 ≡ owner

-- what it becomes is a whole page, or none
abbrev pub IsPageIn : View → ℕ → Type 0
IsPageIn c n = bytes_in c n ≢ [] → IsWhole (bytes_in c n)

-- the writes of these pages are added
pub record Adds (s : Slots) (owner : ℕ) (c : View) (ns : List ℕ) (old new : List Write) : Type 0 where
  pub writes : new ≡ old ++ writes_to owner c ns
  pub may : All (MayWrite s owner) ns
  pub whole : All (IsPageIn c) ns
