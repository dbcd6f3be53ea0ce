-- Instances of a store: owners that are marked as used, the root of a new one, and the pages of one that has ended.
use Rattle.std.specs.Prelude.{◌≡◌, ◌≢◌, ℕ, ◌*◌, ◌/◌, ◌<◌, ◌≤◌, ◌==◌, Bool, true, false, cond, List, [], Option, Some, None, count_by, replicate, slice_index_or}
use Rattle.sb_bytes.specs.Field.{number_at}
use Rattle.sb_forms.specs.Pages.{new_pages, zeros}
use Rattle.sb_drive.specs.declared.space.SpaceFault.{SpaceFault}
use Rattle.sb_drive.specs.declared.space.SpaceFault.TheVariants.{TempFull, Damaged}
use Rattle.sb_drive.specs.Instances.{IsLeastOwner, IsLeastFree}
use Rattle.sb_drive.specs.Slots.{Slots, owned, with_slot}
use Rattle.sb_drive.specs.Spaces.{Wanted}
use Rattle.sb_owners.specs.Instances.{without_owner}
use Rattle.sb_txn.specs.Parts.{Parts}
use Rattle.sb_space.specs.Works.{HasPages}

-- ---- a new instance
-- its owner and its root are the least, and that root, a page of zeros, is all that it has
pub record IsNewInstance (want : Wanted) (s : Slots) (total owner root : ℕ) (new : Parts) : Type 0 where
  pub least : IsLeastOwner s [] owner
  pub free : IsLeastFree s root
  pub below : root < total
  pub has : HasPages want (with_slot root (owner, zeros) s) new
  pub pages : owned (with_slot root (owner, zeros) s) owner ≡ new_pages root

-- the refusals of a new one: those of a store, and that no page is left
abbrev pub IsNewFault : SpaceFault → Type 0
IsNewFault (TempFull used total) = ⊥
IsNewFault (Damaged page) = ⊥
IsNewFault e = Unit {0}

-- ---- owners that are marked
unfoldable pub unmarked : ℕ → List Bool
unmarked count = replicate count false

-- how many are marked
abbrev pub marks_set : List Bool → ℕ
marks_set marks = count_by (λ mark. mark) marks

-- each that is marked has a page, and each from the catalogue on that has one is marked
pub record AreMarked (total : ℕ) (s : Slots) (marks : List Bool) : Type 0 where
  pub used : (owner : ℕ) → slice_index_or marks owner false ≡ true → (n : ℕ) × ((s n).0 ≡ owner)
  pub all : (n : ℕ) → n < total → 1 < (s n).0 → slice_index_or marks (s n).0 false ≡ true

-- the least owner of an instance that isn't marked
pub record IsUnmarked (marks : List Bool) (owner : ℕ) : Type 0 where
  pub from : 3 ≤ owner
  pub free : slice_index_or marks owner false ≡ false
  pub least : (o : ℕ) → 3 ≤ o → o < owner → slice_index_or marks o false ≡ true

-- the least of so many pages that is nobody's, if there is one
abbrev pub IsFirstFree : ℕ → Slots → Option ℕ → Type 0
IsFirstFree total s None = (m : ℕ) → m < total → (s m).0 ≢ 0
IsFirstFree total s (Some n) = (n < total) × ((s n).0 ≡ 0) × ((m : ℕ) → m < n → (s m).0 ≢ 0)

-- the one that was found, or else the next page, if it has no owner
abbrev pub free_next : Option ℕ → ℕ → ℕ → Option ℕ
free_next None owner n = cond (owner == 0) (Some n) None
free_next (Some found) owner n = Some found

-- ---- the pages of one that has ended
-- the owner's pages whose entries are in this page of the table are nobody's
abbrev pub without_in : ℕ → ℕ → Slots → Slots
without_in owner page s n = cond (page == n / 2048) (without_owner owner s n) (s n)

-- an entry of the owner is nobody's
abbrev pub entry_without : ℕ → ℕ → ℕ
entry_without owner entry = cond (entry == owner) 0 entry

-- each entry in a page of the table is so
abbrev pub AreCleared : ℕ → List ℕ → List ℕ → Type 0
AreCleared owner old new = (m : ℕ) → m < 2048 → number_at 2 new (2 * m) ≡ entry_without owner (number_at 2 old (2 * m))

-- ---- pages
-- one page has these bytes
abbrev pub rewritten : ℕ → List ℕ → (ℕ → List ℕ) → ℕ → List ℕ
rewritten n bytes pages p = cond (n == p) bytes (pages p)
