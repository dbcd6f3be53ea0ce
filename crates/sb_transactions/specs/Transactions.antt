-- Where work in a transaction has come, and where going back to a point comes.
use Rattle.std.specs.Prelude.{◌≡◌, ℕ, ◌-◌, ◌≤◌, false, List, [], length, take, drop, None}
use Rattle.sb_relation.specs.Db.{Db}
use Rattle.sb_fold.specs.Extensions.{box_of}
use Rattle.sb_fold.specs.Finish.{first_failing}
use Rattle.sb_fold.specs.Outcome.{Going, Queue}
use Rattle.sb_deferred.specs.Complete.{AreMirrored, IsComplete}
use Rattle.sb_deferred.specs.Waiting.{IsWithin, nothing}
use Rattle.sb_cascade.specs.Fitting.{AllFit, AllMayStand}
use Rattle.sb_registry.specs.Boxes.{Meanings}
use Rattle.sb_drive.specs.Slots.{Slots}
use Rattle.sb_drive.specs.Spaces.{Wanted}
use Rattle.sb_map.specs.declared.place.Place.{Place}
use Rattle.sb_tables.specs.Tables.{Kept, Tables, db_of}
use Rattle.sb_tables.specs.Standing.{Keeps}
use Rattle.sb_tables.specs.OpenRelation.{OpenRelation}
use Rattle.sb_tables.specs.Opened.{IsDurable}
use Rattle.sb_txn.specs.Book.{standing_of}
use Rattle.sb_txn.specs.Parts.{Parts}
use Rattle.sb_space.specs.Spent.{HasSpent}
use Rattle.sb_space.specs.Table.{slots_in}
use Rattle.sb_space.specs.Transactions.{AreFormed, WasAt}
use Rattle.sb_space.specs.Works.{HasPages, StaysWanted}
use Rattle.sb_space.specs.Works as space
use Rattle.sb_tables.specs.Measures.{AreHeld}
use Rattle.sb_tables.specs.Work.{Work}
use Rattle.sb_tables.specs.Working.{AreLasting, AreNamedApart, AreOpened, ArePaired, IsNoneGone, IsPaid, extensions_of, left_of}
use Rattle.sb_tables.specs.Working as engine
use Rattle.sb_transactions.specs.declared.transactions.Point.{Point}

-- ---- databases
-- What is so of the relations that pages keep, beside what waits: they outlive the run, their mirrors stand in pairs, no name stands twice among the
-- attachments of one, what waits tells which deferred rules may fail, each rule may stand, and the actions that wait fit.
pub record IsSettled (m : Meanings) (kept : List Kept) (queue : Queue) : Type 0 where
  pub lasting : AreLasting kept
  pub mirrored : AreMirrored (db_of kept)
  pub paired : ArePaired (db_of kept)
  pub apart : AreNamedApart (db_of kept)
  pub complete : IsComplete (db_of kept) queue
  pub rules : AllMayStand (box_of (extensions_of m)) (db_of kept)
  pub fit : AllFit (db_of kept) queue.actions

-- so many pages, which a commit left on the disk, keep the database
pub record IsCommitted (m : Meanings) (root pages : ℕ) (want : Wanted) (db : Db) : Type 0 where
  pub formed : AreFormed pages want
  pub kept : List Kept
  pub is : db ≡ db_of kept
  pub keeps : Keeps m IsDurable root (slots_in pages want) [] kept
  pub settled : IsSettled m kept nothing

-- between transactions: the pages now are those wanted, which keep the database
pub record Rests (m : Meanings) (root : ℕ) (want : Wanted) (db : Db) (p : Parts) : Type 0 where
  pub has : HasPages want (slots_in p.store.pool.geometry.pages want) p
  pub committed : IsCommitted m root p.store.pool.geometry.pages want db

-- Open relations may stay open: each catalogue that so many pages have has them, with their descriptors.
abbrev pub MayStayOpen : Meanings → ℕ → ℕ → Wanted → List OpenRelation → Type 0
MayStayOpen m root pages want ones = (kept : List Kept) → Tables m IsDurable root (slots_in pages want) kept → AreOpened m kept ones

-- the last 64 of them
abbrev pub last_open : List OpenRelation → List OpenRelation
last_open ones = drop (length ones - 64) ones

-- Within a transaction that was begun over the database: to take all its changes out again gives the pages wanted, which keep it.
pub record WasBegun (m : Meanings) (root : ℕ) (want : Wanted) (db : Db) (tx : ℕ) (p : Parts) : Type 0 where
  pub was : WasAt tx want (slots_in p.store.pool.geometry.pages want) 0 p
  pub committed : IsCommitted m root p.store.pool.geometry.pages want db

-- ---- work
-- the engine can be called
abbrev pub IsUsable : Meanings → Place → ℕ → Parts → Work → Type 0
IsUsable m place tx p w = engine.Serves (λ q. space.Serves tx q) m place p w

-- Work in the transaction has come so far, over these pages wanted; no owner is to go where nothing was dropped or detached, and those that are to go
-- are held aside.
pub record IsAt (m : Meanings) (place : Place) (want : Wanted) (tx : ℕ) (g : Going) (p : Parts) (w : Work) : Type 0 where
  pub usable : IsUsable m place tx p w
  pub slots : Slots
  pub kept : List Kept
  pub has : HasPages want slots p
  pub db : g.db ≡ db_of kept
  pub keeps : Keeps m IsDurable place.root slots w.gone.items kept
  pub settled : IsSettled m kept g.queue
  pub opened : AreOpened m kept w.opened.items
  pub waits : left_of w ≡ g.queue
  pub picked : w.picks.items ≡ g.used
  pub gone : IsNoneGone g.gone → w.gone.items ≡ []
  pub aside : AreHeld slots w.gone.items g.gone.durable

-- fewer changes were made in the transaction than the work has paid for
abbrev pub IsPaidAt : Going → Parts → Type 0
IsPaidAt g p = IsPaid HasSpent 0 g.trail.spent p.store

-- the same work, of which no picks are told
abbrev pub unused : Going → Going
unused g = record g { used = [] }

-- what work begins with: nothing waits, and no picks were used
pub record IsFirst (g : Going) : Type 0 where
  pub queue : g.queue ≡ nothing
  pub used : g.used ≡ []

-- no owner is to go, and each deferred rule holds
pub record IsFinished (m : Meanings) (g : Going) (w : Work) : Type 0 where
  pub gone : w.gone.items ≡ []
  pub holds : first_failing (extensions_of m) g.db g.db ≡ None

-- nothing waits, and no owner is to go
pub record HasNothingLeft (w : Work) : Type 0 where
  pub queue : left_of w ≡ nothing
  pub gone : w.gone.items ≡ []

-- ---- points
-- as much stands still as stood at the point
pub record IsPointOf (tx : ℕ) (point : Point) (p : Parts) (w : Work) : Type 0 where
  pub changes : p.store.book.down ≡ false → point.space.store.changes ≤ standing_of tx p.store.book.actives
  pub queue : IsWithin point.queue w.queue
  pub done : point.done ≤ point.queue.actions
  pub gone : point.gone ≤ length w.gone.items

-- what waited at the point
abbrev pub waited_at : Point → Queue → Queue
waited_at point q = record { actions = drop point.done (take point.queue.actions q.actions); entries = take point.queue.entries q.entries }

-- To go back to the point gives work that had come so far, over these pages wanted.
pub record WasSo (m : Meanings) (place : Place) (want : Wanted) (tx : ℕ) (g : Going) (point : Point) (p : Parts) (w : Work) : Type 0 where
  pub of : IsPointOf tx point p w
  pub slots : Slots
  pub kept : List Kept
  pub was : WasAt tx want slots point.space.store.changes p
  pub db : g.db ≡ db_of kept
  pub keeps : Keeps m IsDurable place.root slots (take point.gone w.gone.items) kept
  pub settled : IsSettled m kept g.queue
  pub waited : waited_at point w.queue ≡ g.queue
  pub gone : IsNoneGone g.gone → take point.gone w.gone.items ≡ []
  pub aside : AreHeld slots (take point.gone w.gone.items) g.gone.durable

-- no more stood at the one than at the other
pub record IsNotBehind (one other : Point) : Type 0 where
  pub changes : one.space.store.changes ≤ other.space.store.changes
  pub actions : one.queue.actions ≤ other.queue.actions
  pub entries : one.queue.entries ≤ other.queue.entries
  pub gone : one.gone ≤ other.gone

-- Back at the point: what had come so far there has come so far again, what stood at points that aren't behind it stands still, and no more is spent.
pub record IsBack (tx : ℕ) (point : Point) (p q : Parts) (v w : Work) : Type 0 where
  pub up : q.store.book.down ≡ false
  pub usable : (m : Meanings) (place : Place) → place.owner ≡ 2 → IsUsable m place tx q w
  pub back : (m : Meanings) (place : Place) (want : Wanted) (g : Going) → place.owner ≡ 2
      → WasSo m place want tx g point p v → IsAt m place want tx (unused g) q w
  pub earlier : (m : Meanings) (place : Place) (want : Wanted) (g : Going) (one : Point) → IsNotBehind one point
      → WasSo m place want tx g one p v → WasSo m place want tx g one q w
  pub stand : (one : Point) → IsNotBehind one point → IsPointOf tx one p v → IsPointOf tx one q w
  pub begun : (m : Meanings) (root : ℕ) (want : Wanted) (db : Db) → WasBegun m root want db tx p → WasBegun m root want db tx q
  pub wanted : StaysWanted p q
  pub spent : (n : ℕ) → HasSpent n p.store → HasSpent n q.store

-- what is kept beside the pages once it was cut to the point: nothing is open, and no pick is noted
pub record IsCutTo (point : Point) (old new : Work) : Type 0 where
  pub actions : new.queue.actions ≡ take point.queue.actions old.queue.actions
  pub entries : new.queue.entries ≡ take point.queue.entries old.queue.entries
  pub done : new.done ≡ point.done
  pub gone : new.gone.items ≡ take point.gone old.gone.items
  pub opened : new.opened.items ≡ []
  pub picks : new.picks.items ≡ []

-- the last 64 relations stay open, and no pick is noted; the rest is as it was
pub record IsTrimmed (old new : Work) : Type 0 where
  pub queue : new.queue ≡ old.queue
  pub done : new.done ≡ old.done
  pub gone : new.gone.items ≡ old.gone.items
  pub opened : new.opened.items ≡ last_open old.opened.items
  pub picks : new.picks.items ≡ []
