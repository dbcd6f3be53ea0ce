-- Pages of several owners.
use Rattle.std.specs.Prelude.{◌≢◌, ℕ, ◌==◌, cond, List, []}
use Rattle.sb_ctx.specs.Pages.{Pages, IsWhole}

-- the owner of a page and its bytes; owner 0 is nobody
abbrev pub Slot : Type 0
Slot = ℕ × List ℕ

abbrev pub nobodys : Slot
nobodys = (0, [])

-- the pages of all owners by their numbers
abbrev pub Slots : Type 0
Slots = ℕ → Slot

-- the bytes of a page as an owner sees them; nobody sees any
abbrev pub bytes_for : ℕ → Slot → List ℕ
bytes_for owner slot = cond (owner == 0) [] (cond (slot.0 == owner) slot.1 [])

-- the pages of one owner
abbrev pub owned : Slots → ℕ → Pages
owned s owner n = bytes_for owner (s n)

-- each page has no bytes or is whole
abbrev pub IsPage : Slot → Type 0
IsPage slot = slot.1 ≢ [] → IsWhole slot.1

abbrev pub AreWhole : Slots → Type 0
AreWhole s = (n : ℕ) → IsPage (s n)

-- one page with its owner changed
abbrev pub with_slot : ℕ → Slot → Slots → Slots
with_slot n slot s m = cond (n == m) slot (s m)
