-- How commands on relations end, in an open transaction and in one of their own.
use Rattle.std.specs.Prelude.{◌≡◌, ℕ, false, is_some, List, [], Option, Some, None, Result, Ok, Err, true}
use Rattle.sb_disk.specs.Disk.{Story}
use Rattle.sb_fold.specs.declared.refusal.Refusal.{Refusal}
use Rattle.sb_fold.specs.declared.refusal.Refusal.TheVariants.{Fault}
use Rattle.sb_fold.specs.Outcome.{Going, Work, begun}
use Rattle.sb_cascade.specs.Runs.{MadeFrom}
use Rattle.sb_plain.specs.declared.command.Command.{Command}
use Rattle.sb_plain.specs.declared.reply.Reply.{Reply}
use Rattle.sb_plain.specs.declared.reply.Reply.TheVariants.{Refused}
use Rattle.sb_plain.specs.Refusing.{refused}
use Rattle.sb_plain.specs.State.{State, committed, no_queue, none_gone}
use Rattle.sb_plain.specs.Step.{Answer, answered, work_of}
use Rattle.sb_registry.specs.Boxes.{Meanings}
use Rattle.sb_drive.specs.Spaces.{Wanted}
use Rattle.sb_map.specs.declared.place.Place.{Place}
use Rattle.sb_txn.specs.Clauses.{Leads}
use Rattle.sb_txn.specs.Parts.{Parts, parts}
use Rattle.sb_txn.specs.State.{State as StoreState}
use Rattle.sb_engine.specs.OpenRelation.{OpenRelation}
use Rattle.sb_engine.specs.declared.running.Work.{Work as EngineWork}
use Rattle.sb_engine.specs.Working.{extensions_of}
use Rattle.sb_session.specs.Calls.{KeepsWanted, Remains}
use Rattle.sb_session.specs.Commits.{IsLed, Mounted}
use Rattle.sb_session.specs.Transactions.{MayStayOpen, Rests, WasBegun}
use Rattle.sb_vectors.specs.Vectors.{AreSameBoxes, live_codes, spare_codes}
use Rattle.sb_reads.specs.Reads.{is_reading}
use Rattle.sb_execution.specs.Serving.{HasPaid, IsPosedIn, is_managing, may_have_committed}
use Rattle.sb_statements.specs.Statements.{answer_of}
use Rattle.sb_session.specs.declared.session.Open.{Open}
use Rattle.sb_session.specs.Ends.{Ends, ends_with}
use Rattle.sb_session.specs.declared.session.Session.{Session}
use Rattle.sb_session.specs.Sessions.{CanGoOn, CanRun, HasFailed, IsFor, IsOpenFor, KeepsSession, Lacks, LeavesOldOrNext, StandsBehind, WantsRoom, parts_of, sizes_of}
use Rattle.sb_execution.specs.declared.serving.Served.{Served}
use Rattle.sb_execution.specs.declared.serving.Served.TheVariants as served

-- ---- replies
-- what is replied of a result
abbrev pub reply_by : Result Reply Refusal → Reply
reply_by (Ok reply) = reply
reply_by (Err r) = Refused r

-- the picks were taken out of work, which is else as it was
pub record IsTaken (old new : EngineWork) : Type 0 where
  pub picks : new.picks.items ≡ []
  pub opened : new.opened.items ≡ old.opened.items
  pub queue : new.queue ≡ old.queue
  pub done : new.done ≡ old.done
  pub gone : new.gone.items ≡ old.gone.items

-- what was read is the reply; or it is made of the answer and of what the work picked
abbrev pub IsReplied : Served → EngineWork → EngineWork → Reply → Type 0
IsReplied (served.Read reply) old new r = (r ≡ reply) × (new ≡ old)
IsReplied (served.Worked answer) old new r = (r ≡ answered (answer_of answer) old.picks.items) × IsTaken old new

-- ---- states
-- a state that isn't down: the boxes have its codes, and a store with this transaction keeps its databases
pub record IsOf (m : Meanings) (place : Place) (want : Wanted) (s : State) (p : Parts) (o : Option Open) : Type 0 where
  pub up : s.down ≡ false
  pub live : s.live ≡ live_codes m
  pub spare : s.spare ≡ spare_codes m
  pub stands : IsOpenFor m place want (committed s) p o s.transaction

-- one that is in no transaction, and of whose committed database these relations are open
pub record IsAlone (m : Meanings) (place : Place) (want : Wanted) (s : State) (p : Parts) (ones : List OpenRelation) : Type 0 where
  pub of : IsOf m place want s p None
  pub opened : MayStayOpen m place.root p.store.pool.geometry.pages want ones

-- what a command with this reply leaves of it
pub record IsLeft (m : Meanings) (place : Place) (want : Wanted) (s : State) (p : Parts) (o : Option Open) (reply : Reply) (t : State) : Type 0 where
  pub down : t.down ≡ ends_with reply
  pub live : t.live ≡ s.live
  pub spare : t.spare ≡ s.spare
  pub stands : t.down ≡ false → IsOpenFor m place want (committed t) p o t.transaction

-- So it is in no transaction, with some pages wanted now, and with these relations open; and on the way a crash left the pages that were wanted, or
-- those that keep what is committed next.
pub record IsLeftAlone (m : Meanings) (place : Place) (want : Wanted) (s : State) (c : Command) (p q : Parts) (ones : List OpenRelation) (reply : Reply)
    (t : State) : Type 0 where
  pub now : Wanted
  pub is : IsLeft m place now s q None reply t
  pub opened : t.down ≡ false → MayStayOpen m place.root q.store.pool.geometry.pages now ones
  pub leaves : LeavesOldOrNext m place.root want (extensions_of m) s c t p q

-- ---- in an open transaction
-- A command in it ends well, with its pages as they were wanted, and the transaction can be worked in unless the session ends. Whatever the pages keep,
-- a fault is answered only where the store is down.
pub record EndsInside {D : Type 0} (told : D → Option Story) (len faults : D → ℕ) (m : Meanings) (place : Place) (c : Command)
    (d e : D) (s t : StoreState) (o now : Open) (result : Result Reply Refusal) : Type 0 where
  pub ends : (want : Wanted) (x : State) → IsOf m place want x (parts told len d s) (Some o) → IsPosedIn m x c
      → Ends (IsLeft m place want x (parts told len e t) (Some now) (reply_by result)) (Lacks s.pool.geometry) (HasFailed faults d e)
      (extensions_of m) x c (reply_by result)
  pub room : (want : Wanted) (x : State) → IsOf m place want x (parts told len d s) (Some o) → IsPosedIn m x c
      → WantsRoom m s.pool.geometry.pages x c (reply_by result)
  pub leaves : KeepsWanted (parts told len d s) (parts told len e t)
  pub goes : ends_with (reply_by result) ≡ false → CanGoOn m place (parts told len e t) (Some now)
  pub fault : reply_by result ≡ Refused Fault → t.book.down ≡ true
  pub remains : Remains told len faults d e s t result

-- ---- in a transaction of its own
-- A command in it ends well, and the transaction is over then. What a crash left on the way is told with the state to which the command leads; where
-- no database can have been committed, it is what was wanted, whatever the pages stand for; and a fault is answered only where the store is down. The
-- first ones were open before it, and the others are behind it.
pub record EndsAlone {D : Type 0} (told : D → Option Story) (len faults : D → ℕ) (m : Meanings) (place : Place) (c : Command)
    (d e : D) (s t : StoreState) (ones others : List OpenRelation) (result : Result Reply Refusal) : Type 0 where
  pub ends : (want : Wanted) (x : State) → IsAlone m place want x (parts told len d s) ones → IsPosedIn m x c
      → Ends (IsLeftAlone m place want x c (parts told len d s) (parts told len e t) others (reply_by result)) (Lacks s.pool.geometry) (HasFailed faults d e)
      (extensions_of m) x c (reply_by result)
  pub room : (want : Wanted) (x : State) → IsAlone m place want x (parts told len d s) ones → IsPosedIn m x c
      → WantsRoom m s.pool.geometry.pages x c (reply_by result)
  pub leaves : may_have_committed c false (reply_by result) ≡ false → KeepsWanted (parts told len d s) (parts told len e t)
  pub none : t.book.down ≡ false → t.book.actives ≡ []
  pub fault : reply_by result ≡ Refused Fault → t.book.down ≡ true
  pub remains : Remains told len faults d e s t result

-- its work begins at the committed database, once the transaction itself was paid for
abbrev pub going_alone : State → Going
going_alone s = begun (committed s) no_queue none_gone 1 []

-- The transaction was begun, and calls in it led here; to take out what they changed gives the database of the state.
pub record ComesAlone {D : Type 0} (told : D → Option Story) (len faults : D → ℕ) (m : Meanings) (place : Place)
    (d e : D) (s t : StoreState) (tx : ℕ) : Type 0 where
  pub mid : Mounted D
  pub first : Remains {T = Unit {0}} told len faults d mid.disk s mid.store (Ok tt)
  pub leaves : KeepsWanted (parts told len d s) (parts told len mid.disk mid.store)
  pub led : IsLed told len faults tx mid (record { disk = e; store = t })
  pub pages : Leads (parts told len d s) (parts told len mid.disk mid.store) (λ now. now)
  pub begun : t.book.down ≡ false → (want : Wanted) (x : State) → IsOf m place want x (parts told len d s) None
      → WasBegun m place.root want (committed x) tx (parts told len e t)

-- No test refuses the command, whose work gives this answer.
pub record AnswersCommand (m : Meanings) (place : Place) (want : Wanted) (c : Command) (x : State) (p : Parts) (tx : ℕ)
    (w : EngineWork) (answer : Answer) : Type 0 where
  pub passed : refused (extensions_of m) x c ≡ None
  pub work : Work Answer
  pub is : work_of (extensions_of m) c ≡ Some work
  pub run : MadeFrom (HasPaid m place want tx w) work (going_alone x) answer p

-- With work that gives the answer the transaction of the command has come here. Before it these relations were open.
pub record HasAnswered {D : Type 0} (told : D → Option Story) (len faults : D → ℕ) (m : Meanings) (place : Place) (c : Command)
    (d e : D) (s t : StoreState) (tx : ℕ) (w : EngineWork) (ones : List OpenRelation) (answer : Answer) : Type 0 where
  pub works : is_managing c ≡ false
  pub changes : is_reading c ≡ false
  pub up : t.book.down ≡ false
  pub comes : ComesAlone told len faults m place d e s t tx
  pub answers : (want : Wanted) (x : State) → IsAlone m place want x (parts told len d s) ones → IsPosedIn m x c
      → AnswersCommand m place want c x (parts told len e t) tx w answer

-- ---- tests in a transaction of their own
-- No test refuses the command, the transaction is over, and the pages rest as they were.
pub record Passes {D : Type 0} (told : D → Option Story) (len faults : D → ℕ) (m : Meanings) (place : Place) (c : Command)
    (d e : D) (s t : StoreState) : Type 0 where
  pub passed : (want : Wanted) (x : State) → IsOf m place want x (parts told len d s) None → refused (extensions_of m) x c ≡ None
  pub rests : (want : Wanted) (x : State) → IsOf m place want x (parts told len d s) None
      → Rests m place.root want (committed x) (parts told len e t)
  pub none : t.book.actives ≡ []
  pub remains : Remains {T = Unit {0}} told len faults d e s t (Ok tt)

-- ---- any command
-- A command of the session ends well with this reply, and the boxes are the same ones. What a crash left on the way is told with the state to which
-- the command leads; where no database can have been committed, it is what was wanted, whatever the pages stand for.
pub record Executed {B D : Type 0} (meanings : B → Meanings) (told : D → Option Story) (len faults : D → ℕ) (c : Command)
    (d e : D) (x y : Session B) (r : Reply) : Type 0 where
  pub ends : (want : Wanted) (s : State) → IsFor meanings told len want s d x → IsPosedIn (meanings x.boxes) s c
      → Ends (StandsBehind meanings told len want (extensions_of (meanings x.boxes)) s c d e x y) (Lacks (sizes_of x)) (HasFailed faults d e)
      (extensions_of (meanings x.boxes)) s c r
  pub room : (want : Wanted) (s : State) → IsFor meanings told len want s d x → IsPosedIn (meanings x.boxes) s c
      → WantsRoom (meanings x.boxes) (sizes_of x).pages s c r
  pub leaves : may_have_committed c (is_some x.open) r ≡ false → KeepsWanted (parts_of told len d x) (parts_of told len e y)
  pub same : AreSameBoxes (meanings x.boxes) (meanings y.boxes)
  pub keeps : KeepsSession len faults d e x y r
  pub runs : CanRun meanings told len e y
