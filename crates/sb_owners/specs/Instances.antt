-- Instances that come and go in a space of pages.
use Rattle.std.specs.Prelude.{◌≡◌, ℕ, ◌<◌, ◌==◌, cond, []}
use Rattle.sb_drive.specs.Pages.{Pages, new_pages}
use Rattle.sb_drive.specs.Slots.{Slots, nobodys, owned}
use Rattle.sb_drive.specs.Spaces.{Wanted}
use Rattle.sb_drive.specs.declared.space.SpaceFault.{SpaceFault}
use Rattle.sb_drive.specs.declared.space.SpaceFault.TheVariants.{Damaged}

-- An instance has come: its owner is none of nobody, the table and the catalogue, and had no page; now it has a root, a page of zeros, alone. The pages of all others stay.
pub record HasCome {S : Type 0} (Has : Wanted → Slots → S → Type 0) (want : Wanted) (s : Slots) (owner root : ℕ) (new : S) : Type 0 where
  pub slots : Slots
  pub has : Has want slots new
  pub from : 2 < owner
  pub none : (n : ℕ) → owned s owner n ≡ []
  pub pages : owned slots owner ≡ new_pages root
  pub others : (o : ℕ) → (o ≡ owner → ⊥) → owned slots o ≡ owned s o

-- no page of the owner has bytes
abbrev pub HasNone : Pages → Type 0
HasNone P = (n : ℕ) → P n ≡ []

-- the owner's pages are nobody's
abbrev pub without_owner : ℕ → Slots → Slots
without_owner owner s n = cond ((s n).0 == owner) nobodys (s n)

-- no page is called damaged
abbrev pub IsUnbroken : SpaceFault → Type 0
IsUnbroken (Damaged page) = ⊥
IsUnbroken e = Unit {0}
