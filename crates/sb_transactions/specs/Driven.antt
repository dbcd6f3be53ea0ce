-- Laws of calls that an engine drives in a transaction: what stands with them, and what goes on standing.
use Rattle.std.specs.Prelude.{◌≡◌, ℕ, ◌<◌, true, false, is_some, List, ◌++◌, Option}
use Rattle.sb_disk.specs.Disk.{Story}
use Rattle.sb_relation.specs.Db.{Db}
use Rattle.sb_fold.specs.Outcome.{Going}
use Rattle.sb_deferred.specs.Waiting.{IsFront}
use Rattle.sb_registry.specs.Boxes.{Meanings}
use Rattle.sb_drive.specs.Slots.{Slots}
use Rattle.sb_drive.specs.Spaces.{LeadsOn, Wanted}
use Rattle.sb_map.specs.declared.place.Place.{Place}
use Rattle.sb_txn.specs.Clauses.{HoldsPages, LeavesWanted}
use Rattle.sb_txn.specs.Parts.{Parts}
use Rattle.sb_space.specs.declared.durable.Durable.{Durable}
use Rattle.sb_space.specs.Durable.{Leads, parts_in}
use Rattle.sb_space.specs.Spent.{HasSpent}
use Rattle.sb_space.specs.View.{lent}
use Rattle.sb_space.specs.Works.{HasPages}
use Rattle.sb_space.specs.Works as space
use Rattle.sb_tables.specs.Running.{Running}
use Rattle.sb_tables.specs.Work.{Work}
use Rattle.sb_tables.specs.Working.{Goes, IsServing, StandsFor}
use Rattle.sb_tables.specs.Working as engine
use Rattle.sb_transactions.specs.declared.transactions.Point.{Point}
use Rattle.sb_transactions.specs.Transactions.{IsAt, IsPointOf, WasBegun, WasSo}

-- ---- the pages of a store
-- a store that tells its bytes has one row of pages now, whatever pages are wanted
abbrev pub OneNow : Type 0
OneNow =
    (want now other then : ℕ → List ℕ) (p : Parts) → is_some p.told ≡ true → HoldsPages want now p → HoldsPages other then p
    → (n : ℕ) → n < p.store.pool.geometry.pages → now n ≡ then n

-- so the pages that it has, by their owners, are the same, whatever pages are wanted
abbrev pub OneHas : Type 0
OneHas = (want now : ℕ → List ℕ) (other : Wanted) (s : Slots) (p : Parts) → space.Stands want now p → HasPages other s p → HasPages want s p

-- ---- a store that is lent, as a space of pages
abbrev pub IsServed : {D : Type 0} → (D → Option Story) → (D → ℕ) → Durable D → Type 0
IsServed told len d = space.Serves (lent d).tx (parts_in told len (lent d))

abbrev pub HasLent : {D : Type 0} → (D → Option Story) → (D → ℕ) → Wanted → Slots → Durable D → Type 0
HasLent told len want s d = HasPages want s (parts_in told len (lent d))

abbrev pub SpentLent : {D : Type 0} → ℕ → Durable D → Type 0
SpentLent n d = HasSpent n d.store.now

abbrev pub LeadsLent : {D : Type 0} → (D → Option Story) → (D → ℕ) → (D → ℕ) → ℕ → Durable D → Durable D → Type 0
LeadsLent told len faults k a b = Leads told len faults k (lent a) (lent b)

-- what calls of an engine make of a space, and of what is kept beside it: what waited still waits in front, and owners that were to go are to go still
pub record WorksOn {S : Type 0} (Leads : ℕ → S → S → Type 0) (a b : S) (v w : Work) : Type 0 where
  pub leads : LeadsOn Leads a b
  pub queue : IsFront v.queue w.queue
  pub gone : (more : List ℕ) × (w.gone.items ≡ v.gone.items ++ more)

-- ---- laws, of a store that didn't go down
-- where calls have led to pages that keep the work's database, it is over the same pages wanted as before
abbrev pub DrivenStands : {D : Type 0} → (D → Option Story) → (D → ℕ) → (D → ℕ) → Type 0
DrivenStands {D = D} told len faults =
    (m : Meanings) (place : Place) (want : Wanted) (g h : Going) (a b : Durable D) (v w : Work)
    → IsAt m place want (lent a).tx g (parts_in told len (lent a)) v → LeadsOn (LeadsLent told len faults) a b
    → engine.Serves (IsServed told len) m place b w → engine.Stands (HasLent told len) SpentLent m place.root h b w → b.store.now.book.down ≡ false
    → IsAt m place want (lent a).tx h (parts_in told len (lent b)) w

-- to go back to a point gives what it gave
abbrev pub DrivenKeepsPoints : {D : Type 0} → (D → Option Story) → (D → ℕ) → (D → ℕ) → Type 0
DrivenKeepsPoints {D = D} told len faults =
    (m : Meanings) (place : Place) (want : Wanted) (g : Going) (point : Point) (a b : Durable D) (v w : Work)
    → WasSo m place want (lent a).tx g point (parts_in told len (lent a)) v → WorksOn (LeadsLent told len faults) a b v w
    → b.store.now.book.down ≡ false → WasSo m place want (lent a).tx g point (parts_in told len (lent b)) w

-- as much stands as stood at the point
abbrev pub DrivenKeepsEachPoint : {D : Type 0} → (D → Option Story) → (D → ℕ) → (D → ℕ) → Type 0
DrivenKeepsEachPoint {D = D} told len faults =
    (point : Point) (a b : Durable D) (v w : Work) → IsPointOf (lent a).tx point (parts_in told len (lent a)) v
    → WorksOn (LeadsLent told len faults) a b v w → IsPointOf (lent a).tx point (parts_in told len (lent b)) w

-- to take all changes out again gives the database over which the transaction was begun
abbrev pub DrivenKeepsBegun : {D : Type 0} → (D → Option Story) → (D → ℕ) → (D → ℕ) → Type 0
DrivenKeepsBegun {D = D} told len faults =
    (m : Meanings) (root : ℕ) (want : Wanted) (db : Db) (a b : Durable D) → WasBegun m root want db (lent a).tx (parts_in told len (lent a))
    → LeadsOn (LeadsLent told len faults) a b → b.store.now.book.down ≡ false → WasBegun m root want db (lent a).tx (parts_in told len (lent b))

-- and, whether it went down or not, at each moment a crash leaves what was wanted
abbrev pub DrivenLeavesWanted : {D : Type 0} → (D → Option Story) → (D → ℕ) → (D → ℕ) → Type 0
DrivenLeavesWanted {D = D} told len faults =
    (a b : Durable D) → LeadsOn (LeadsLent told len faults) a b → LeavesWanted (parts_in told len (lent a)) (parts_in told len (lent b))

-- ---- the same of an engine at work
-- its calls are such calls
abbrev pub GoesAreWorks : {B D : Type 0} → (D → Option Story) → (D → ℕ) → (D → ℕ) → (B → Meanings) → Type 0
GoesAreWorks {B = B} {D = D} told len faults meanings =
    (a b : Running B (Durable D)) → Goes (LeadsLent told len faults) a b
    → WorksOn (LeadsLent told len faults) a.space.now b.space.now a.work.now b.work.now

-- so what it stands for then is over the same pages wanted
abbrev pub RunningStands : {B D : Type 0} → (D → Option Story) → (D → ℕ) → (D → ℕ) → (B → Meanings) → Type 0
RunningStands {B = B} {D = D} told len faults meanings =
    (want : Wanted) (g h : Going) (a b : Running B (Durable D))
    → IsAt (meanings a.boxes.now) a.place want (lent a.space.now).tx g (parts_in told len (lent a.space.now)) a.work.now
    → Goes (LeadsLent told len faults) a b → IsServing (IsServed told len) meanings b → StandsFor (HasLent told len) SpentLent meanings h b
    → b.space.now.store.now.book.down ≡ false
    → IsAt (meanings a.boxes.now) a.place want (lent a.space.now).tx h (parts_in told len (lent b.space.now)) b.work.now
