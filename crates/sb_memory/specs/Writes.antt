-- Pages that are written in a row, and written back.
use Rattle.std.specs.Prelude.{ℕ, ◌<◌, ◌≤◌, List, [], ◌∷◌, length, All}
use Rattle.sb_memory.specs.Contents.{slots, listed}
use Rattle.sb_memory.specs.declared.slots.Write.{Write}
use Rattle.sb_drive.specs.Slots.{Slot, Slots, IsPage, AreWhole, with_slot}

-- the pages once these are written, the first one first
abbrev pub written : List Write → Slots → Slots
written [] s = s
written (w ∷ ws) s = written ws (with_slot w.number w.slot s)

-- the pages once these are written back, the last one first
abbrev pub undone : List Write → Slots → Slots
undone [] s = s
undone (w ∷ ws) s = with_slot w.number w.slot (undone ws s)

-- what the pages were before each of these, the first one first, where they are written back
abbrev pub pasts : List Write → Slots → List (List Slot)
pasts [] s = []
pasts (w ∷ ws) s = listed (undone (w ∷ ws) s) ∷ pasts ws s

-- each of them is one of so many pages
abbrev pub AreAmong : ℕ → List Write → Type 0
AreAmong most ws = All (λ w. w.number < most) ws

-- what is written is whole, or no page
abbrev pub ArePagesTo : List Write → Type 0
ArePagesTo ws = All (λ w. IsPage w.slot) ws

-- What is so of a memory's pages and of what it writes back: there are 16,384 numbers, and all pages are whole, now and before.
pub record IsMemory (pages : List Slot) (undo : List Write) : Type 0 where
  pub most : length pages ≤ 16384
  pub among : AreAmong (length pages) undo
  pub now : AreWhole (slots pages)
  pub back : ArePagesTo undo
