-- What a session stands for.
use Rattle.std.specs.Prelude.{◌≡◌, ◌⊎◌, ◌||◌, ℕ, ◌+◌, ◌<◌, ◌≤◌, true, false, List, [], ◌∷◌, All, Option, Some, None}
use Rattle.std.specs.List.{AllZip, Any}
use Rattle.sb_disk.specs.Causes.{Rose}
use Rattle.sb_disk.specs.Disk.{Story}
use Rattle.sb_disk.specs.Moments.{LeavesOnly}
use Rattle.sb_images.specs.Images.{IsOldOrNew, Restores}
use Rattle.sb_log.specs.declared.geometry.Geometry.{Geometry}
use Rattle.sb_fold.specs.declared.refusal.Refusal.TheVariants.{Fault, Room}
use Rattle.sb_fold.specs.declared.refusal.Room as fold
use Rattle.sb_fold.specs.declared.refusal.Room.TheVariants.{Data, Temp, Log, Gates}
use Rattle.sb_fold.specs.Extensions.{Extensions}
use Rattle.sb_fold.specs.Outcome.{Going, begun}
use Rattle.sb_plain.specs.declared.command.Command.{Command}
use Rattle.sb_plain.specs.declared.reply.Reply.{Reply}
use Rattle.sb_plain.specs.declared.reply.Reply.TheVariants.{Refused}
use Rattle.sb_plain.specs.Licences.{IsForced, IsSpent}
use Rattle.sb_plain.specs.Step.{Steps, step}
use Rattle.sb_plain.specs.State.{Point as PlainPoint, State, Transaction as PlainTransaction, committed}
use Rattle.sb_relation.specs.Db.{Db, Key}
use Rattle.sb_registry.specs.Boxes.{Meanings, repeated_in}
use Rattle.sb_drive.specs.Spaces.{Wanted}
use Rattle.sb_transactions.specs.Opened.{IsOpen}
use Rattle.sb_transactions.specs.Place.{Place}
use Rattle.sb_txn.specs.Clauses.{IsReady}
use Rattle.sb_txn.specs.Parts.{Parts, parts}
use Rattle.sb_transactions.specs.Spent.{HasSpent}
use Rattle.sb_transactions.specs.Table.{table_len}
use Rattle.sb_transactions.specs.Work.{Work}
use Rattle.sb_transactions.specs.Working.{IsPaid, IsShortOf, extensions_of}
use Rattle.sb_transactions.specs.Transactions.{HasNothingLeft, IsAt, IsCommitted, IsNotBehind, IsPointOf, IsUsable, MayStayOpen, Rests, WasBegun, WasSo}
use Rattle.sb_vectors.specs.Vectors.{live_codes, spare_codes}
use Rattle.sb_session.specs.declared.session.Open.{Open}
use Rattle.sb_session.specs.declared.session.Savepoint.{Savepoint}
use Rattle.sb_session.specs.declared.session.Session.{Session}
use Rattle.sb_session.specs.Ends.{ends_with}

-- ---- work
-- work that has come to a transaction's database, with what waits and what is gone; no picks are noted between commands
abbrev pub going_in : PlainTransaction → Going
going_in t = begun t.db t.queue t.gone t.spent []

-- work that goes back to a savepoint
abbrev pub going_at : PlainPoint → Going
going_at point = begun point.db point.queue point.gone 0 []

-- ---- savepoints
-- they have the same name, and to go back to the one gives what the other says
pub record IsSavepoint (m : Meanings) (place : Place) (want : Wanted) (tx : ℕ) (p : Parts) (w : Work) (one : Savepoint) (point : PlainPoint)
    : Type 0 where
  pub name : one.name ≡ point.name
  pub was : WasSo m place want tx (going_at point) one.point p w

-- each of them, in the same order
abbrev pub AreSavepoints : Meanings → Place → Wanted → ℕ → Parts → Work → List Savepoint → List PlainPoint → Type 0
AreSavepoints m place want tx p w ones points = AllZip (IsSavepoint m place want tx p w) ones points

-- none is behind a later one
abbrev pub AreInOrder : List Savepoint → Type 0
AreInOrder [] = Unit {0}
AreInOrder (one ∷ ones) = All (λ later. IsNotBehind one.point later.point) ones × AreInOrder ones

-- ---- transactions
-- An open transaction stands for one that was begun over a committed database. It has made no more changes than it spent, so fewer than with the next
-- command's own.
pub record IsInside (m : Meanings) (place : Place) (want : Wanted) (committed : Db) (p : Parts) (o : Open) (t : PlainTransaction) : Type 0 where
  pub at : IsAt m place want o.transaction.tx.store.number (going_in t) p o.transaction.work
  pub begun : WasBegun m place.root want committed o.transaction.tx.store.number p
  pub points : AreSavepoints m place want o.transaction.tx.store.number p o.transaction.work o.points.items t.points
  pub spent : IsPaid HasSpent 0 (t.spent + 1) p.store

-- Between transactions the pages wanted keep the committed database; within one they do so too, and the pages now keep the open one.
abbrev pub IsOpenFor : Meanings → Place → Wanted → Db → Parts → Option Open → Option PlainTransaction → Type 0
IsOpenFor m place want committed p None None = Rests m place.root want committed p
IsOpenFor m place want committed p (Some o) (Some t) = IsInside m place want committed p o t
IsOpenFor m place want committed p _ _ = ⊥

-- ---- sessions
-- a session's store on its disk
abbrev pub parts_of : {B D : Type 0} → (D → Option Story) → (D → ℕ) → D → Session B → Parts
parts_of told len disk x = parts told len disk x.space.store

-- the sizes of its store
abbrev pub sizes_of : {B : Type 0} → Session B → Geometry
sizes_of x = x.space.store.pool.geometry

-- With these pages wanted it stands for the state: its boxes have the codes; and until it is down its pages keep the databases, its transaction
-- is that of the state, and what is open between transactions are relations of the committed database.
pub record IsFor {B D : Type 0} (meanings : B → Meanings) (told : D → Option Story) (len : D → ℕ) (want : Wanted) (s : State) (disk : D)
    (x : Session B) : Type 0 where
  pub down : x.down ≡ s.down
  pub live : s.live ≡ live_codes (meanings x.boxes)
  pub spare : s.spare ≡ spare_codes (meanings x.boxes)
  pub stands : s.down ≡ false → IsOpenFor (meanings x.boxes) x.place want (committed s) (parts_of told len disk x) x.open s.transaction
  pub opened : s.down ≡ false → MayStayOpen (meanings x.boxes) x.place.root (sizes_of x).pages want x.opened.items

-- so it is with some pages
pub record StandsFor {B D : Type 0} (meanings : B → Meanings) (told : D → Option Story) (len : D → ℕ) (s : State) (disk : D) (x : Session B)
    : Type 0 where
  pub want : Wanted
  pub is : IsFor meanings told len want s disk x

-- work can go on in an open transaction, or none is out
abbrev pub CanGoOn : Meanings → Place → Parts → Option Open → Type 0
CanGoOn m place p None = p.store.book.actives ≡ []
CanGoOn m place p (Some o) =
    IsUsable m place o.transaction.tx.store.number p o.transaction.work
    × All (λ one. IsPointOf o.transaction.tx.store.number one.point p o.transaction.work) o.points.items
    × AreInOrder o.points.items

-- Commands can be carried out: the store is ready and has 65,536 pages at most, the catalogue's owner is 2, no code of a box repeats, live boxes keep
-- what is open between transactions, and a store that is down has ended the session.
pub record CanRun {B D : Type 0} (meanings : B → Meanings) (told : D → Option Story) (len : D → ℕ) (disk : D) (x : Session B) : Type 0 where
  pub ready : IsReady (parts_of told len disk x)
  pub few : x.space.store.pool.geometry.pages ≤ 65536
  pub owner : x.place.owner ≡ 2
  pub unique : repeated_in (meanings x.boxes) ≡ None
  pub opened : x.down ≡ false → All (IsOpen (meanings x.boxes)) x.opened.items
  pub up : x.down ≡ false → x.space.store.book.down ≡ false
  pub goes : x.down ≡ false → CanGoOn (meanings x.boxes) x.place (parts_of told len disk x) x.open

-- something is left to be done in the transaction, which takes memory
abbrev pub HasWork : Option Open → Type 0
HasWork None = ⊥
HasWork (Some o) = HasNothingLeft o.transaction.work → ⊥

-- ---- what each command keeps
-- The disk's length, the sizes and the place stay; a fault or damage, and they alone, end the session; a fault is answered only where the disk failed a
-- call; a session that is down is left alone.
pub record KeepsSession {B D : Type 0} (len faults : D → ℕ) (old new : D) (x y : Session B) (reply : Reply) : Type 0 where
  pub size : len new ≡ len old
  pub later : faults old ≤ faults new
  pub geometry : sizes_of y ≡ sizes_of x
  pub place : y.place ≡ x.place
  pub down : y.down ≡ (x.down || ends_with reply)
  pub fault : reply ≡ Refused Fault → Rose (faults old) (faults new)
  pub ended : x.down ≡ true → (new ≡ old) × (y ≡ x)

-- the disk failed a call
abbrev pub HasFailed : {D : Type 0} → (D → ℕ) → D → D → Type 0
HasFailed faults old new = Rose (faults old) (faults new)

-- Room was wanting in a store of these sizes, by what is told as used and as the whole: all its pages are used; or a change wants more bytes than its
-- log has left; or no gate of its log is left but the last.
abbrev pub Lacks : Geometry → fold.Room → Type 0
Lacks g (Data used total) = (used ≡ total) × (total ≡ g.pages)
Lacks g (Temp used total) = ⊥
Lacks g (Log used more total) = (more ≤ 13424) × (total ≡ g.log) × (total < used + more)
Lacks g (Gates used total) = (65534 < used) × (total ≡ 65536)

-- ---- want of room
-- With some picks the step of the command reaches a point at which the database needs so much that there are no more pages than that and those of the
-- owner table.
abbrev pub IsShortFor : Meanings → ℕ → State → Command → ℕ → Type 0
IsShortFor m pages s c total =
    (picks : List Key) × Any (IsShortOf total (table_len pages) (extensions_of m)) (step (extensions_of m) s c picks).points

-- with some picks its step spends so much that the log's bytes may not be enough, or its gates
abbrev pub SpendsLog : Meanings → State → Command → ℕ → Type 0
SpendsLog m s c total = (picks : List Key) × IsSpent total (step (extensions_of m) s c picks).spent

abbrev pub SpendsGates : Meanings → State → Command → Type 0
SpendsGates m s c = (picks : List Key) × IsForced (step (extensions_of m) s c picks).spent

-- so it is of a store of so many pages where want of room is the reply
abbrev pub WantsRoom : Meanings → ℕ → State → Command → Reply → Type 0
WantsRoom m pages s c (Refused (Room (Data used total))) = IsShortFor m pages s c total
WantsRoom m pages s c (Refused (Room (Log used more total))) = SpendsLog m s c total
WantsRoom m pages s c (Refused (Room (Gates used total))) = SpendsGates m s c
WantsRoom m pages s c reply = Unit {0}

-- ---- what a crash leaves
-- some step of the command leads to the state
pub record StepsTo (ext : Extensions) (s : State) (c : Command) (t : State) : Type 0 where
  pub reply : Reply
  pub steps : Steps ext s c reply t

-- What may be found committed along a command that leads to a state: what that state has committed; where the disk failed, and the session is down
-- with it, what some step of the command commits.
abbrev pub IsNext : Extensions → State → Command → State → State → Type 0
IsNext ext s c t next = (next ≡ t) ⊎ ((t.down ≡ true) × StepsTo ext s c next)

-- At each moment a crash leaves the pages that were wanted, or those that keep what is committed next.
pub record LeavesNext (m : Meanings) (root : ℕ) (want : Wanted) (ext : Extensions) (s : State) (c : Command) (t : State) (old new : Parts)
    : Type 0 where
  pub next : State
  pub is : IsNext ext s c t next
  pub pages : ℕ → List ℕ
  pub commits : IsCommitted m root old.store.pool.geometry.pages pages (committed next)
  pub leaves : LeavesOnly old.told new.told (IsOldOrNew old.store.pool.geometry want pages)

-- at each moment it leaves the pages that were wanted, and may leave others only where those are committed next
abbrev pub LeavesOldOrNext : Meanings → ℕ → Wanted → Extensions → State → Command → State → Parts → Parts → Type 0
LeavesOldOrNext m root want ext s c t old new =
    LeavesOnly old.told new.told (Restores old.store.pool.geometry want) ⊎ LeavesNext m root want ext s c t old new

-- What stands behind a command that led to a state: the session stands for that state, and meanwhile a crash left what had been committed, or what
-- is next.
pub record StandsBehind {B D : Type 0} (meanings : B → Meanings) (told : D → Option Story) (len : D → ℕ) (want : Wanted) (ext : Extensions)
    (s : State) (c : Command) (d e : D) (x y : Session B) (t : State) : Type 0 where
  pub stands : StandsFor meanings told len t e y
  pub leaves : s.down ≡ false
      → LeavesOldOrNext (meanings x.boxes) x.place.root want ext s c t (parts_of told len d x) (parts_of told len e y)
