-- What is seen of work on an engine, without its rows.
use Rattle.std.specs.Prelude.{◌≡◌, ℕ}
use Rattle.sb_fold.specs.declared.refusal.Refusal.{Refusal}
use Rattle.sb_fold.specs.Outcome.{Going}
use Rattle.sb_plain.specs.State.{State}
use Rattle.sb_registry.specs.Boxes.{Meanings}
use Rattle.sb_drive.specs.declared.space.SpaceFault.{SpaceFault}
use Rattle.sb_drive.specs.Slots.{Slots}
use Rattle.sb_drive.specs.Spaces.{IsReadFault, IsRefused, Wanted}
use Rattle.sb_engine.specs.Refusals.{refusal_of}
use Rattle.sb_engine.specs.Working.{Stands}
use Rattle.sb_execution.specs.declared.seen.Seen.{Seen}
use Rattle.sb_execution.specs.Serving.{IsSeenIn}

-- It serves, and the catalogue is where it is to be.
pub record IsReady {B S : Type 0} (Ready : S → Type 0) (a : Seen B S) : Type 0 where
  pub ready : Ready a.space.now
  pub owner : a.place.owner ≡ 2

-- Work has come so far, and it is that of the state.
pub record Sees {B S : Type 0} (Has : Wanted → Slots → S → Type 0) (Spent : ℕ → S → Type 0) (meanings : B → Meanings) (s : State) (a : Seen B S) : Type 0 where
  pub going : Going
  pub stands : Stands Has Spent (meanings a.boxes.now) a.place.root going a.space.now a.work.now
  pub seen : IsSeenIn (meanings a.boxes.now) a.inside a.points.now s going

-- The same boxes, work and place, of which the same is told; the space was only looked at.
pub record LooksOn {B S : Type 0} (Leads : ℕ → S → S → Type 0) (old new : Seen B S) : Type 0 where
  pub same_space : new.space.ghost_name ≡ old.space.ghost_name
  pub boxes : new.boxes.now ≡ old.boxes.now
  pub work : new.work.now ≡ old.work.now
  pub place : new.place ≡ old.place
  pub inside : new.inside ≡ old.inside
  pub points : new.points.now ≡ old.points.now
  pub leads : Leads 0 old.space.now new.space.now

-- The space has refused so, or a page is called broken, or memory is wanting; no room is.
pub record HasFailed {B S : Type 0} (Leads : ℕ → S → S → Type 0) (Fails : SpaceFault → S → S → Type 0) (r : Refusal)
    (old new : Seen B S) : Type 0 where
  pub fault : SpaceFault
  pub is : refusal_of fault ≡ r
  pub reads : IsReadFault fault
  pub refused : IsRefused (Leads 0 old.space.now new.space.now) (Fails fault old.space.now new.space.now) fault
