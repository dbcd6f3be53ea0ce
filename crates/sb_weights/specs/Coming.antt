-- The pages of a store while a relation comes to it, against what the database with it needs.
use Rattle.std.specs.Prelude.{◌≡◌, ℕ, ◌+◌, ◌*◌, ◌<◌, ◌≤◌, Bool, true, List, length, None, sum}
use Rattle.sb_relation.specs.Db.{Name, Relation, with_relation}
use Rattle.sb_fold.specs.Bounds.{method_bound}
use Rattle.sb_fold.specs.Extensions.{Extensions, is_durable_method}
use Rattle.sb_fold.specs.Need.{need}
use Rattle.sb_fold.specs.Outcome.{Gone}
use Rattle.sb_forms.specs.Pages.{ArePages, page_count}
use Rattle.sb_ctx.specs.View.{View, fresh_pages, holds_fresh}
use Rattle.sb_registry.specs.Boxes.{Meanings}
use Rattle.sb_drive.specs.Slots.{Slots, owned}
use Rattle.sb_room.specs.Owned.{pages_of, IsTabled}
use Rattle.sb_standing.specs.Standing.{Keeps}
use Rattle.sb_standing.specs.Tables.{Kept, db_of, kept_at}
use Rattle.sb_standing.specs.TableLaws.{Comes}
use Rattle.sb_weights.specs.Rooms.{extensions_of}
use Rattle.sb_weights.specs.Weights.{AreMeant, resting}

-- A store at rest keeps relations that outlive the run, and holds pages aside; so does a relation of a new name that may come to it.
pub record MayCome (m : Meanings) (durable : ℕ → Bool) (root : ℕ) (s : Slots) (gone : List ℕ) (kept : List Kept) (aside : Gone) (name : Name)
    (r : Relation) : Type 0 where
  pub keeps : Keeps m durable root s gone kept
  pub meant : AreMeant (extensions_of m) kept
  pub few : pages_of s gone ≤ sum aside.durable
  pub new : kept_at kept name ≡ None
  pub outlives : is_durable_method (extensions_of m) r.method ≡ true

-- Each of the first so many pages is somebody's, or a fresh one that a call held on the way. A new owner and the catalogue alone have other pages
-- than at rest. With the fresh ones, some for the entry and the others for the rows, they have no more than their bounds, the catalogue's for a
-- relation more.
pub record IsShortComing (ext : Extensions) (s t : Slots) (kept : List Kept) (r : Relation) (owner total : ℕ) : Type 0 where
  pub comes : Comes s t owner
  pub ctx : View
  pub used : (n : ℕ) → n < total → (t n).0 ≡ 0 → holds_fresh ctx n ≡ true
  pub entry : ℕ
  pub rows : ℕ
  pub all : length (fresh_pages ctx) ≤ entry + rows
  pub catalogue : page_count (owned t 2) + entry ≤ 2 * length kept + 5
  pub own : page_count (owned t owner) + rows ≤ method_bound ext r

-- Then there are no more pages than those that the space takes for itself and the need of the database with the relation together.
abbrev pub ComingIsFull : Type 0
ComingIsFull =
    (m : Meanings) (durable : ℕ → Bool) (root : ℕ) (s t : Slots) (gone : List ℕ) (kept : List Kept) (aside : Gone) (spent : ℕ)
    (name : Name) (r : Relation) (owner table total : ℕ)
    → MayCome m durable root s gone kept aside name r → ((o : ℕ) → ArePages (owned t o)) → total ≤ 65536 → IsTabled table t
    → IsShortComing (extensions_of m) s t kept r owner total
    → total ≤ table + page_count (owned t 1) + need (extensions_of m) true (resting (with_relation (db_of kept) name r) aside spent)
