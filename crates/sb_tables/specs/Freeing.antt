-- Pages that go before a commit.
use Rattle.std.specs.Prelude.{◌≡◌, ℕ, List, cond, nat_lt, sum_by}
use Rattle.sb_drive.specs.Slots.{Slots}
use Rattle.sb_drive.specs.Spaces.{LeadsOn, Wanted}
use Rattle.sb_registry.specs.Boxes.{Meanings}
use Rattle.sb_standing.specs.Standing.{Keeps}
use Rattle.sb_standing.specs.Tables.{Kept}
use Rattle.sb_engine.specs.Opened.{IsDurable}
use Rattle.sb_engine.specs.declared.running.Running.{Running}

-- the space has pages that keep these relations, beside those of owners that are to go
pub record LeavesGone {S : Type 0} (Has : Wanted → Slots → S → Type 0) (m : Meanings) (root : ℕ) (kept : List Kept) (want : Wanted) (gone : List ℕ)
    (new : S) : Type 0 where
  pub slots : Slots
  pub has : Has want slots new
  pub keeps : Keeps m IsDurable root slots gone kept

-- The same space, work, boxes and place are lent, and all that is kept beside the pages stays, but for the owners that are to go.
pub record Frees {B S : Type 0} (Leads : ℕ → S → S → Type 0) (old new : Running B S) : Type 0 where
  pub same_space : new.space.ghost_name ≡ old.space.ghost_name
  pub same_work : new.work.ghost_name ≡ old.work.ghost_name
  pub boxes : new.boxes.now ≡ old.boxes.now
  pub place : new.place ≡ old.place
  pub leads : LeadsOn Leads old.space.now new.space.now
  pub opened : new.work.now.opened ≡ old.work.now.opened
  pub queue : new.work.now.queue ≡ old.work.now.queue
  pub done : new.work.now.done ≡ old.work.now.done
  pub picks : new.work.now.picks ≡ old.work.now.picks

-- An owner's pages go by no more than 33 changes. The owners up to the catalogue's have none that go.
abbrev pub free_most : List ℕ → ℕ
free_most gone = sum_by (λ owner. cond (nat_lt 2 owner) 33 0) gone
