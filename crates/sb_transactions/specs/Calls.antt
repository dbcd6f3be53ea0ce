-- What the calls of a transaction leave of a store and its disk, whatever they answer.
use Rattle.std.specs.Prelude.{◌≡◌, ◌⊎◌, ℕ, ◌≤◌, true, false, Option, Result, IsErrOf}
use Rattle.sb_disk.specs.Causes.{Rose}
use Rattle.sb_disk.specs.Disk.{Story}
use Rattle.sb_fold.specs.declared.refusal.Refusal.{Refusal}
use Rattle.sb_fold.specs.declared.refusal.Refusal.TheVariants.{Fault}
use Rattle.sb_txn.specs.Clauses.{IsReady, LeavesWanted}
use Rattle.sb_txn.specs.Parts.{Parts, parts}
use Rattle.sb_txn.specs.State.{State}
use Rattle.sb_space.specs.Works.{StaysWanted}

-- the call of a store that is down answers Fault, and nothing has changed
pub record WasDown {D T : Type 0} (old new : D) (s t : State) (result : Result T Refusal) : Type 0 where
  pub answer : IsErrOf result Fault
  pub disk : new ≡ old
  pub store : t ≡ s

-- The sizes stay, and the store is ready again. It goes down only where the disk fails a call, and Fault is answered then.
pub record Remains {D T : Type 0} (told : D → Option Story) (len faults : D → ℕ) (old new : D) (s t : State) (result : Result T Refusal) : Type 0 where
  pub size : len new ≡ len old
  pub later : faults old ≤ faults new
  pub geometry : t.pool.geometry ≡ s.pool.geometry
  pub ready : IsReady (parts told len new t)
  pub down : s.book.down ≡ true → WasDown old new s t result
  pub up : t.book.down ≡ true → IsErrOf result Fault
  pub fell : t.book.down ≡ true → (s.book.down ≡ true) ⊎ Rose (faults old) (faults new)

-- the only refusal of a call that takes no memory and no room, and the store is down then
pub record IsOnlyFault (r : Refusal) (t : State) : Type 0 where
  pub is : r ≡ Fault
  pub down : t.book.down ≡ true

-- At each moment a crash leaves what was wanted, and unless the store is down then, it stays wanted.
pub record KeepsWanted (old new : Parts) : Type 0 where
  pub leaves : LeavesWanted old new
  pub stays : new.store.book.down ≡ false → StaysWanted old new
