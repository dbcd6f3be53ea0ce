-- Savepoints of a session's transaction.
use Rattle.std.specs.Prelude.{◌≡◌, ℕ, ◌<◌, ◌≤◌, Bool, true, false, List, [], ◌∷◌, ◌++◌, length, Option}
use Rattle.std.specs.List.{list_any}
use Rattle.std.specs.Str.{bytes_eq}
use Rattle.sb_disk.specs.Disk.{Story}
use Rattle.sb_relation.specs.Db.{Name}
use Rattle.sb_fold.specs.declared.refusal.Refusal.{Refusal}
use Rattle.sb_fold.specs.declared.refusal.Refusal.TheVariants as refusal
use Rattle.sb_fold.specs.Outcome.{Going}
use Rattle.sb_registry.specs.Boxes.{Meanings}
use Rattle.sb_drive.specs.Spaces.{Wanted}
use Rattle.sb_transactions.specs.Place.{Place}
use Rattle.sb_txn.specs.Parts.{Parts}
use Rattle.sb_txn.specs.State.{State}
use Rattle.sb_transactions.specs.declared.transactions.Point.{Point}
use Rattle.sb_transactions.specs.Transactions.{IsAt, IsNotBehind, IsPointOf, WasSo}
use Rattle.sb_session.specs.declared.session.Open.{Open}
use Rattle.sb_session.specs.declared.session.Savepoint.{Savepoint}

abbrev pub is_named : Name → Savepoint → Bool
is_named name one = bytes_eq one.name name

-- a store, whatever its disk
abbrev pub with_store : Option Story → ℕ → State → Parts
with_store told size s = record { told = told; size = size; store = s }

-- A savepoint of a new name was made behind the others, of which there were fewer than 64: to go back to it gives what stands now.
pub record IsSaved (s : State) (name : Name) (old new : Open) : Type 0 where
  pub point : Point
  pub points : new.points.items ≡ old.points.items ++ record { name = name; point = point } ∷ []
  pub fresh : list_any (is_named name) old.points.items ≡ false
  pub few : length old.points.items < 64
  pub of : (told : Option Story) (size : ℕ) → IsPointOf old.transaction.tx.store.number point (with_store told size s) old.transaction.work
  pub was : (m : Meanings) (place : Place) (want : Wanted) (g : Going) (told : Option Story) (size : ℕ)
      → IsAt m place want old.transaction.tx.store.number g (with_store told size s) old.transaction.work
      → WasSo m place want old.transaction.tx.store.number g point (with_store told size s) old.transaction.work
  pub behind : s.book.down ≡ false → (one : Point) (told : Option Story) (size : ℕ)
      → IsPointOf old.transaction.tx.store.number one (with_store told size s) old.transaction.work → IsNotBehind one point

-- why none is made: one has the name, or there are 64, or memory is wanting
abbrev pub NotSaved : List Savepoint → Name → Refusal → Type 0
NotSaved points name (refusal.Exists other) = (other ≡ name) × (list_any (is_named name) points ≡ true)
NotSaved points name refusal.Limit = (list_any (is_named name) points ≡ false) × (64 ≤ length points)
NotSaved points name refusal.NoMemory = Unit {0}
NotSaved points name r = ⊥

-- why it isn't gone back to: none has the name, which may take memory to say
abbrev pub NotThere : List Savepoint → Name → Refusal → Type 0
NotThere points name (refusal.NoName other) = (other ≡ name) × (list_any (is_named name) points ≡ false)
NotThere points name refusal.NoMemory = list_any (is_named name) points ≡ false
NotThere points name r = ⊥
