-- The pages of a store while instances come to its relations or go from them, against what was needed before.
use Rattle.std.specs.Prelude.{◌≡◌, ℕ, ◌+◌, ◌*◌, ◌<◌, ◌≤◌, Bool, true, List, ◌++◌, length, sum}
use Rattle.sb_fold.specs.Need.{need}
use Rattle.sb_fold.specs.Outcome.{Gone}
use Rattle.sb_forms.specs.Pages.{ArePages, page_count}
use Rattle.sb_ctx.specs.View.{View, fresh_pages, holds_fresh}
use Rattle.sb_registry.specs.Boxes.{Meanings}
use Rattle.sb_drive.specs.Slots.{Slots, owned}
use Rattle.sb_room.specs.Owned.{pages_of, IsTabled}
use Rattle.sb_standing.specs.Standing.{Keeps, owners_in}
use Rattle.sb_standing.specs.Tables.{Kept, db_of}
use Rattle.sb_standing.specs.TableLaws.{Comes}
use Rattle.sb_weights.specs.Rooms.{extensions_of}
use Rattle.sb_weights.specs.Weights.{AreMeant, resting}

-- Instances and what is to go have so many pages at most, with two of the catalogue for each relation and three more.
abbrev pub AreWithin : Slots → List Kept → List ℕ → ℕ → Type 0
AreWithin s kept gone most = pages_of s (owners_in kept ++ gone) + 2 * length kept + 3 ≤ most

-- Each of the first so many pages is somebody's, or a fresh one that a call held on the way. A new owner and the catalogue alone have other pages
-- than at rest. With the fresh ones, some for an entry and the others for the owner's content, the catalogue has two for each relation and three
-- more at most, and the owner so many.
pub record IsShortBeside (s t : Slots) (kept : List Kept) (owner pages total : ℕ) : Type 0 where
  pub comes : Comes s t owner
  pub ctx : View
  pub used : (n : ℕ) → n < total → (t n).0 ≡ 0 → holds_fresh ctx n ≡ true
  pub entry : ℕ
  pub content : ℕ
  pub all : length (fresh_pages ctx) ≤ entry + content
  pub catalogue : page_count (owned t 2) + entry ≤ 2 * length kept + 3
  pub own : page_count (owned t owner) + content ≤ pages

-- ---- laws
-- At rest a store has so many pages at most as its database needs.
abbrev pub RestHasRoom : Type 0
RestHasRoom =
    (m : Meanings) (durable : ℕ → Bool) (root : ℕ) (s : Slots) (gone : List ℕ) (kept : List Kept) (aside : Gone) (spent : ℕ)
    → AreMeant (extensions_of m) kept → ((o : ℕ) → ArePages (owned s o)) → Keeps m durable root s gone kept
    → pages_of s gone ≤ sum aside.durable
    → AreWithin s kept gone (need (extensions_of m) true (resting (db_of kept) aside spent))

-- Where no page is left beside a new owner, there are no more than those that the space takes for itself, those at rest, and those of the owner.
abbrev pub BesideIsFull : Type 0
BesideIsFull =
    (m : Meanings) (durable : ℕ → Bool) (root : ℕ) (s t : Slots) (gone : List ℕ) (kept : List Kept) (owner pages table total most : ℕ)
    → Keeps m durable root s gone kept → AreWithin s kept gone most → total ≤ 65536 → IsTabled table t
    → IsShortBeside s t kept owner pages total → total ≤ table + page_count (owned t 1) + (most + pages)
