-- What a commit makes of the work of a transaction.
use Rattle.std.specs.Prelude.{◌≡◌, ◌⊎◌, ℕ, Bool, true, false, List, Option, None, Result, Ok, Err}
use Rattle.std.specs.List.{Any}
use Rattle.sb_disk.specs.Disk.{Story}
use Rattle.sb_disk.specs.Moments.{LeavesOnly}
use Rattle.sb_images.specs.Images.{Restores, IsOldOrNew}
use Rattle.sb_relation.specs.Db.{Db, Key}
use Rattle.sb_fold.specs.Extensions.{Extensions}
use Rattle.sb_fold.specs.Finish.{finish, freed}
use Rattle.sb_fold.specs.Outcome as fold
use Rattle.sb_fold.specs.Outcome.{Going, Trail, change_to, ◌>>=◌}
use Rattle.sb_map.specs.declared.place.Place.{Place}
use Rattle.sb_fold.specs.declared.refusal.Refusal.{Refusal}
use Rattle.sb_fold.specs.declared.refusal.Refusal.TheVariants.{Room, Fault, NoMemory}
use Rattle.sb_fold.specs.declared.refusal.Room.TheVariants.{Data}
use Rattle.sb_cascade.specs.Runs.{MadeFrom, StopsFrom}
use Rattle.sb_registry.specs.Boxes.{Meanings}
use Rattle.sb_drive.specs.Spaces.{Wanted}
use Rattle.sb_drive.specs.declared.space.SpaceFault.{SpaceFault}
use Rattle.sb_txn.specs.Clauses.{LeavesWanted}
use Rattle.sb_txn.specs.Parts.{Parts}
use Rattle.sb_txn.specs.State.{State}
use Rattle.sb_space.specs.Spent.{HasSpent}
use Rattle.sb_space.specs.Table.{table_len}
use Rattle.sb_space.specs.Works.{Fails, StaysWanted, Works}
use Rattle.sb_tables.specs.OpenRelation.{OpenRelation}
use Rattle.sb_tables.specs.Refusals.{HasRefusalCause}
use Rattle.sb_tables.specs.Working.{IsPaid, IsShortOf, extensions_of}
use Rattle.sb_tables.specs.Work.{Work}
use Rattle.sb_transactions.specs.declared.refusals.Uncommitted.{Uncommitted}
use Rattle.sb_transactions.specs.declared.transactions.Point.{Point}
use Rattle.sb_transactions.specs.Calls.{IsOnlyFault}
use Rattle.sb_transactions.specs.Transactions.{IsAt, IsCommitted, IsPointOf, IsUsable, MayStayOpen, Rests, WasBegun, WasSo, unused}

-- ---- what is done before the pages are committed
-- what waits, and then the pages of what went are given back
abbrev pub finish_and_free : Extensions → fold.Work (Unit {0})
finish_and_free ext = finish ext >>= λ _. change_to freed

-- ---- what is committed
-- The work's database is committed, in the pages that are wanted from then on, whose relations are open still, and these are the picks that it used. At
-- each moment a crash left the pages that were wanted, or these.
pub record IsDone (m : Meanings) (root : ℕ) (want : Wanted) (picks : List Key) (ones : List OpenRelation) (old : Parts) (g : Going) (new : Parts) : Type 0 where
  pub now : Wanted
  pub rests : Rests m root now g.db new
  pub opened : MayStayOpen m root new.store.pool.geometry.pages now ones
  pub picked : picks ≡ g.used
  pub leaves : LeavesOnly old.told new.told (IsOldOrNew old.store.pool.geometry want now)

-- at each moment a crash leaves the pages that were wanted, or those that keep the work's database
pub record LeavesEither (m : Meanings) (root : ℕ) (want : Wanted) (old : Parts) (g : Going) (new : Parts) : Type 0 where
  pub pages : ℕ → List ℕ
  pub committed : IsCommitted m root old.store.pool.geometry.pages pages g.db
  pub leaves : LeavesOnly old.told new.told (IsOldOrNew old.store.pool.geometry want pages)

-- with some picks the work that finishes the transaction gives such work
abbrev pub Finishes : Meanings → Going → (Going → Parts → Type 0) → Parts → Type 0
Finishes m g IsSo p = MadeFrom IsSo (finish_and_free (extensions_of m)) g tt p

-- unless the store went down, work in the transaction has come so far
abbrev pub ComesTo : Meanings → Place → Wanted → ℕ → Work → Going → Parts → Type 0
ComesTo m place want tx w g p = p.store.book.down ≡ false → IsAt m place want tx g p w

-- At each moment a crash leaves the pages that were wanted, or, once the transaction is finished, those of the database that this leads to.
abbrev pub LeavesOldOrFinished : Meanings → ℕ → Wanted → Going → Parts → Parts → Type 0
LeavesOldOrFinished m root want g old new =
    LeavesOnly old.told new.told (Restores old.store.pool.geometry want) ⊎ Finishes m g (LeavesEither m root want old) new

-- ---- what is refused
-- room or memory is wanting
abbrev pub is_wanting : Refusal → Bool
is_wanting (Room room) = true
is_wanting NoMemory = true
is_wanting _ = false

-- a disk with a store
pub record Mounted (D : Type 0) : Type 0 where
  pub disk : D
  pub store : State

abbrev pub FailsOn : {D : Type 0} → (D → ℕ) → SpaceFault → Mounted D → Mounted D → Type 0
FailsOn faults fault old new = Fails faults fault old.disk new.disk old.store new.store

-- Where the refusal is want of a page of a store of so many, the database needs so much at some point of the trail.
abbrev pub IsLicensedOn : Meanings → ℕ → Refusal → Trail → Type 0
IsLicensedOn m pages (Room (Data used total)) trail = Any (IsShortOf total (table_len pages) (extensions_of m)) trail.points
IsLicensedOn m pages r trail = Unit {0}

-- The disk or the store has the cause of a refusal, and where it is want of a page, the work had come so far that pages may be wanting. Fewer changes were
-- made than the work had paid for.
pub record IsStoppedOn {D : Type 0} (faults : D → ℕ) (m : Meanings) (r : Refusal) (trail : Trail) (now : Mounted D) : Type 0 where
  pub cause : HasRefusalCause (FailsOn faults) r now
  pub licensed : IsLicensedOn m now.store.pool.geometry.pages r trail
  pub paid : IsPaid HasSpent 0 trail.spent now.store

-- calls of the transaction lead from one to the other
abbrev pub IsLed : {D : Type 0} → (D → Option Story) → (D → ℕ) → (D → ℕ) → ℕ → Mounted D → Mounted D → Type 0
IsLed told len faults tx old new = (k : ℕ) × Works told len faults tx k old.disk new.disk old.store new.store

-- Finishing the transaction is refused: as the definition says; or the disk has failed; or room or memory is wanting at a moment behind calls of it.
-- To a fault no such calls lead where it came in the commit of the pages, or on the way back from the work. Where room or memory is wanting, the store is
-- up at that moment, and no more is spent behind it.
pub record StopsAt {D : Type 0} (told : D → Option Story) (len faults : D → ℕ) (m : Meanings) (tx : ℕ) (g : Going) (r : Refusal) (old new : Mounted D) : Type 0 where
  pub there : Mounted D
  pub led : (r ≡ Fault → ⊥) → IsLed told len faults tx old there
  pub stops : StopsFrom (IsStoppedOn faults m) (finish_and_free (extensions_of m)) g r there
  pub up : is_wanting r ≡ true → there.store.book.down ≡ false
  pub spent : is_wanting r ≡ true → (n : ℕ) → HasSpent n there.store → HasSpent n new.store

-- the refusal that led here, or a fault, since the disk failed on the way back
pub record IsFaulted {D : Type 0} (faults : D → ℕ) (r : Refusal) (new : Mounted D) : Type 0 where
  pub only : IsOnlyFault r new.store
  pub cause : HasRefusalCause (FailsOn faults) r new

abbrev pub IsOrFaulted : {D : Type 0} → (D → ℕ) → Refusal → Refusal → Mounted D → Type 0
IsOrFaulted faults before r new = (r ≡ before) ⊎ IsFaulted faults r new

-- ---- what goes on
-- the answer of a call behind which the transaction is over
abbrev pub ended : {T : Type 0} → Result T Refusal → Result T Uncommitted
ended (Ok x) = Ok x
ended (Err r) = Err (record { refusal = r; transaction = None })

-- the transaction is over
abbrev pub IsEnded : {T : Type 0} → Result T Uncommitted → Type 0
IsEnded (Ok x) = Unit {0}
IsEnded (Err e) = e.transaction ≡ None

-- the same answer by its refusal alone
abbrev pub by_refusal : {T : Type 0} → Result T Uncommitted → Result T Refusal
by_refusal (Ok x) = Ok x
by_refusal (Err e) = Err e.refusal

-- A transaction goes on where it was before the commit: it can be worked in, and what it had come to, the points to go back to and the database over
-- which it was begun stand. No pick is noted. Whatever pages are wanted stay so, and at each moment a crash leaves them.
pub record StaysOpen (tx : ℕ) (p q : Parts) (v w : Work) : Type 0 where
  pub up : q.store.book.down ≡ false
  pub usable : (m : Meanings) (place : Place) → place.owner ≡ 2 → IsUsable m place tx q w
  pub stays : (m : Meanings) (place : Place) (want : Wanted) (g : Going) → IsAt m place want tx g p v → IsAt m place want tx (unused g) q w
  pub begun : (m : Meanings) (root : ℕ) (want : Wanted) (db : Db) → WasBegun m root want db tx p → WasBegun m root want db tx q
  pub points : (one : Point) → IsPointOf tx one p v → IsPointOf tx one q w
  pub was : (m : Meanings) (place : Place) (want : Wanted) (g : Going) (one : Point)
      → WasSo m place want tx g one p v → WasSo m place want tx g one q w
  pub wanted : StaysWanted p q
  pub leaves : LeavesWanted p q
