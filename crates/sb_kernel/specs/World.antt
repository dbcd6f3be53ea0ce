-- A session at work, as it is seen from outside.
use Rattle.std.specs.Prelude.{◌≡◌, ℕ, List, Option}
use Rattle.sb_disk.specs.Disk.{Story}
use Rattle.sb_plain.specs.State.{State}
use Rattle.sb_registry.specs.Boxes.{Meanings}
use Rattle.sb_opening.specs.Table.{table_len}
use Rattle.sb_vectors.specs.Vectors.{AreSameBoxes}
use Rattle.sb_opening.specs.Session.{Session}
use Rattle.sb_opening.specs.Sessions.{StandsFor}

-- what the boxes mean, and what the disk tells: its bytes and moments, its length, its clock, and how often it has failed
pub record World (B D : Type 0) : Type 0 where
  pub meanings : B → Meanings
  pub told : D → Option Story
  pub len : D → ℕ
  pub clock : D → ℕ
  pub faults : D → ℕ

abbrev pub world : {B D : Type 0} → (B → Meanings) → (D → Option Story) → (D → ℕ) → (D → ℕ) → (D → ℕ) → World B D
world meanings told len clock faults = record { meanings = meanings; told = told; len = len; clock = clock; faults = faults }

-- one moment of it: the disk, the session, what the sink holds, and what the clock said when each item began
pub record At (B D : Type 0) : Type 0 where
  pub disk : D
  pub session : Session B
  pub held : Option (List ℕ)
  pub starts : List ℕ

abbrev pub at : {B D : Type 0} → D → Session B → Option (List ℕ) → List ℕ → At B D
at disk session held starts = record { disk = disk; session = session; held = held; starts = starts }

-- With boxes that are these ones, live or spare, the session stands for the state. The catalogue begins behind the owner table.
pub record IsNow {B D : Type 0} (w : World B D) (m : Meanings) (disk : D) (x : Session B) (s : State) : Type 0 where
  pub same : AreSameBoxes m (w.meanings x.boxes)
  pub root : x.place.root ≡ table_len x.space.store.pool.geometry.pages
  pub stands : StandsFor w.meanings w.told w.len s disk x
