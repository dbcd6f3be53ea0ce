-- The rows in the pages of a relation.
use Rattle.std.specs.Prelude.{◌≡◌, ℕ}
use Rattle.sb_relation.specs.Db.{Rows}
use Rattle.sb_treemethod.specs.Pages.{new_pages}
use Rattle.sb_treemethod.specs.Instance.{Instance}
use Rattle.sb_treemethod.specs.MethodAnswers.{Holds}
use Rattle.sb_registry.specs.Boxes.{Meanings}
use Rattle.sb_registry.specs.Live.{IsLive}
use Rattle.sb_registry.specs.Slots.{Slots, owned}
use Rattle.sb_registry.specs.Spaces.{Wanted}

-- a live box keeps the relation, and its pages hold these rows
pub record HasRows (m : Meanings) (s : Slots) (inst : Instance) (rows : Rows) : Type 0 where
  pub live : IsLive m inst
  pub holds : Holds live.box inst (owned s inst.owner) rows

-- its pages are those of a new instance: a root of zeros
abbrev pub IsNewIn : Slots → Instance → Type 0
IsNewIn s inst = (n : ℕ) → owned s inst.owner n ≡ new_pages inst.root n

-- the space has pages in which the instance has these rows, and the same of all other owners
pub record LeavesRows {S : Type 0} (Has : Wanted → Slots → S → Type 0) (m : Meanings) (inst : Instance)
    (want : Wanted) (s : Slots) (new : S) (rows : Rows) : Type 0 where
  pub slots : Slots
  pub has : Has want slots new
  pub others : (o : ℕ) → (o ≡ inst.owner → ⊥) → owned slots o ≡ owned s o
  pub own : HasRows m slots inst rows
