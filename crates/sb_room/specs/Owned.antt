-- How many pages owners have together, and whose the pages are where none is left.
use Rattle.std.specs.Prelude.{◌≡◌, ◌≢◌, ℕ, ◌+◌, ◌<◌, ◌≤◌, List, [], ◌∷◌, ◌++◌, length, sum_by}
use Rattle.std.specs.List.{Contains}
use Rattle.sb_forms.specs.Pages.{page_count}
use Rattle.sb_ctx.specs.View.{View, fresh_pages}
use Rattle.sb_drive.specs.Slots.{Slots, owned}
use Rattle.sb_drive.specs.Spaces.{AreUsed}

-- the pages of these owners together
abbrev pub pages_of : Slots → List ℕ → ℕ
pages_of s owners = sum_by (λ o. page_count (owned s o)) owners

-- a page that is somebody's and shows no bytes is one of the first so many
abbrev pub IsTabled : ℕ → Slots → Type 0
IsTabled table s = (n : ℕ) → (s n).0 ≢ 0 → (s n).1 ≡ [] → n < table

-- a page that shows bytes to its owner is one of these owners'
abbrev pub AreOwners : List ℕ → Slots → Type 0
AreOwners owners s = (n : ℕ) → (s n).0 ≢ 0 → (s n).1 ≢ [] → Contains owners (s n).0

-- ---- laws
-- Where all pages are used, they are those of the table, the fresh ones that a Ctx holds, and those of their owners.
abbrev pub FullIsOwned : Type 0
FullIsOwned =
    (s : Slots) (c : View) (total table used of : ℕ) (owners : List ℕ) → total ≤ 65536 → IsTabled table s → AreOwners owners s
    → AreUsed total s c used of → total ≤ table + length (fresh_pages c) + pages_of s owners

-- two lists of owners
abbrev pub PagesOfBoth : Type 0
PagesOfBoth = (s : Slots) (front back : List ℕ) → pages_of s (front ++ back) ≡ pages_of s front + pages_of s back

-- one owner who is held apart
abbrev pub PagesOfSplit : Type 0
PagesOfSplit =
    (s : Slots) (front back : List ℕ) (o : ℕ)
    → pages_of s (front ++ o ∷ back) ≡ pages_of s front + page_count (owned s o) + pages_of s back

-- owners whose pages are the same in two spaces
abbrev pub PagesOfSame : Type 0
PagesOfSame =
    (s t : Slots) (owners : List ℕ) → ((o : ℕ) → Contains owners o → owned s o ≡ owned t o) → pages_of s owners ≡ pages_of t owners
