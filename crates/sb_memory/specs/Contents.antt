-- The pages of a memory, and what they were.
use Rattle.std.specs.Prelude.{◌≡◌, ◌≢◌, ℕ, ◌<◌, ◌≤◌, List, [], ◌∷◌, ◌++◌, map, get_or, Option, Some, None}
use Rattle.std.specs.List.{range_with_len}
use Rattle.sb_forms.specs.Pages.{Pages}
use Rattle.sb_drive.specs.Slots.{Slot, Slots, nobodys, owned}

-- pages in a list; those behind its end are nobody's
abbrev pub slots : List Slot → Slots
slots pages n = get_or pages n nobodys

-- the first 16,384 pages in a list
unfoldable pub listed : Slots → List Slot
listed s = map s (range_with_len 0 16384)

abbrev pub pages_of : List Slot → ℕ → Pages
pages_of pages owner = owned (slots pages) owner

-- the pages now, and what they were before each write that stands, the first one first
pub record Contents : Type 0 where
  pub now : List Slot
  pub past : List (List Slot)

-- all pages are nobody's
abbrev pub nothing : Contents
nothing = record { now = listed (λ n. nobodys); past = [] }

-- what the pages were, and what they are, in a row
abbrev pub stack : Contents → List (List Slot)
stack c = c.past ++ c.now ∷ []

-- the pages when so many writes stood
abbrev pub was_at : ℕ → Contents → List Slot
was_at n c = get_or (stack c) n []

-- what stood stands, and some writes behind it
abbrev pub Grows : Contents → Contents → Type 0
Grows old new = (more : List (List Slot)) × (stack new ≡ stack old ++ more)

-- the pages of all other owners stay, and each write that stood stands
pub record Keeps (owner : ℕ) (old new : Contents) : Type 0 where
  pub others : (o : ℕ) → (o ≡ owner → ⊥) → pages_of new.now o ≡ pages_of old.now o
  pub grows : Grows old new

-- this is the least page from a number on, if there is one
abbrev pub IsNextFrom : Pages → ℕ → Option ℕ → Type 0
IsNextFrom P first None = (n : ℕ) → first ≤ n → P n ≡ []
IsNextFrom P first (Some next) = (first ≤ next) × (P next ≢ []) × ((n : ℕ) → first ≤ n → n < next → P n ≡ [])
