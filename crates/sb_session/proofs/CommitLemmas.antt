-- What becomes of a session in a commit.
use Rattle.std.proofs.Common.{◌≡◌, ⊎_elim, inl, inr, ◌⊎◌, ℕ, ◌+◌, ◌≤◌, ◌||◌, Bool, true, false, not, get_or, List, [], ◌++◌, All, Option, Some, None, Ok, Err, Result, refl, sym, ap, ◌∙◌, subst, arith}
use Rattle.std.proofs.lemmas.Bool.{false≢true}
use Rattle.std.proofs.Math.Bool.{or-false}
use Rattle.sb_disk.specs.Causes.{Rose}
use Rattle.sb_disk.specs.Disk.{Story}
use Rattle.sb_disk.specs.Moments.{LeavesOnly}
use Rattle.sb_images.specs.Images.{Restores}
use Rattle.sb_log.specs.declared.geometry.Geometry.{Geometry}
use Rattle.sb_relation.specs.Db.{Key, Db}
use Rattle.sb_fold.specs.declared.refusal.Refusal.{Refusal}
use Rattle.sb_fold.specs.declared.refusal.Refusal.TheVariants as refusal
use Rattle.sb_fold.specs.declared.refusal.Room.{Room}
use Rattle.sb_fold.specs.Extensions.{Extensions}
use Rattle.sb_fold.specs.Outcome.{Going, Trail, Work}
use Rattle.sb_cascade.specs.Runs.{BrokenFrom, EndsBy, OnFault, RefusedFrom, StopsFrom, is_free, is_room}
use Rattle.sb_plain.specs.declared.command.Command.TheVariants as command
use Rattle.sb_plain.specs.declared.reply.Reply.{Reply}
use Rattle.sb_plain.specs.declared.reply.Reply.TheVariants as reply
use Rattle.sb_plain.specs.Licences.{may_want_memory, may_want_room}
use Rattle.sb_plain.specs.State.{downed}
use Rattle.sb_plain.specs.Step.{Steps, step}
use Rattle.sb_plain.specs.State.{State, Transaction as PlainTransaction, committed}
use Rattle.sb_registry.specs.Boxes.{Meanings}
use Rattle.sb_drive.specs.Spaces.{Wanted}
use Rattle.sb_txn.specs.Clauses.{LeavesWanted}
use Rattle.sb_txn.specs.Parts.{Parts, parts}
use Rattle.sb_transactions.specs.OpenRelation.{OpenRelation}
use Rattle.sb_transactions.specs.Opened.{IsOpen}
use Rattle.sb_transactions.specs.Refusals.{HasRefusalCause}
use Rattle.sb_transactions.specs.Working.{IsNoneGone, extensions_of}
use Rattle.sb_transactions.specs.Work.{Work as EngineWork}
use Rattle.sb_transactions.specs.Space.{Space}
use Rattle.sb_transactions.specs.Spent.{HasSpent}
use Rattle.sb_transactions.specs.Tx.{Tx}
use Rattle.sb_transactions.specs.declared.transactions.Transaction.{Transaction}
use Rattle.sb_transactions.specs.Calls.{IsOnlyFault, Remains}
use Rattle.sb_transactions.specs.Commits.{FailsOn, Finishes, IsDone, IsStoppedOn, LeavesEither, LeavesOldOrFinished, Mounted, StaysOpen, StopsAt, finish_and_free, is_wanting}
use Rattle.sb_transactions.specs.Transactions.{HasNothingLeft, IsAt, IsCommitted, IsPaidAt, IsPointOf, IsUsable, MayStayOpen, Rests, WasBegun}
use Rattle.sb_session.specs.declared.session.Open.{Open}
use Rattle.sb_session.specs.declared.session.Session.{Session}
use Rattle.sb_session.specs.Ends.{Ends, IsFree, IsStep, MayHaveSpent, ends_with, is_end}
use Rattle.sb_session.specs.Sessions.{AreSavepoints, CanGoOn, CanRun, HasFailed, IsFor, IsInside, KeepsSession, Lacks, LeavesNext, LeavesOldOrNext, StandsBehind, StandsFor, going_in, parts_of, sizes_of, WantsRoom}
use Rattle.sb_transactions.proofs.RefusedLemmas.{of_fault}
use Rattle.sb_session.proofs.Behind.{Ends-behind_for}
use Rattle.sb_session.proofs.Carried.{CanRun-as, Carried, Ends-given, IsFor-as, end_of_given}
use Rattle.sb_session.proofs.Commands.{inside_for}
use Rattle.sb_session.proofs.PagesLemmas.{commit_room, commit_spends}
use Rattle.sb_session.proofs.CommitSteps.{Steps-committed, Steps-refused_commit, committed-push, going_on, with_committed, without_transaction}
use Rattle.sb_session.proofs.OpenLemmas.{Inside, IsAt-same, paid_more, with_spent-inside}
use Rattle.sb_session.proofs.PointLemmas.{AreSavepoints-kept}
use Rattle.sb_session.proofs.RoomLemmas.{Lacks-there}
use Rattle.sb_session.proofs.WantLemmas.{may_want_memory-commit, may_want_room-commit}

-- ---- refusals by kind
-- what the definition gives, a fault, damage, or want of room or memory
pub data Kind : Refusal → Type 0 where
  Given : {r : Refusal} → is_free r ≡ false → Kind r
  Failed : Kind refusal.Fault
  Broken : (page : ℕ) → Kind (refusal.Damaged page)
  Wanting : {r : Refusal} → is_wanting r ≡ true → Kind r

-- want of room, or of memory
pub wanting_of : (r : Refusal) → is_wanting r ≡ true → ((room : Room) × (r ≡ refusal.Room room)) ⊎ (r ≡ refusal.NoMemory)
wanting_of (refusal.Room room) wanting = inl (room, refl)
wanting_of refusal.NoMemory wanting = inr refl
wanting_of (refusal.Syntax column) wanting = absurd (false≢true wanting)
wanting_of refusal.Down wanting = absurd (false≢true wanting)
wanting_of refusal.State wanting = absurd (false≢true wanting)
wanting_of (refusal.NoRelation name) wanting = absurd (false≢true wanting)
wanting_of (refusal.Exists name) wanting = absurd (false≢true wanting)
wanting_of (refusal.NoName name) wanting = absurd (false≢true wanting)
wanting_of (refusal.NoExtension code) wanting = absurd (false≢true wanting)
wanting_of (refusal.InUse relation name) wanting = absurd (false≢true wanting)
wanting_of refusal.Mistyped wanting = absurd (false≢true wanting)
wanting_of (refusal.TooLong relation) wanting = absurd (false≢true wanting)
wanting_of refusal.Mixed wanting = absurd (false≢true wanting)
wanting_of refusal.Limit wanting = absurd (false≢true wanting)
wanting_of (refusal.NoRecord relation) wanting = absurd (false≢true wanting)
wanting_of (refusal.Duplicate relation) wanting = absurd (false≢true wanting)
wanting_of (refusal.Veto relation name) wanting = absurd (false≢true wanting)
wanting_of (refusal.Range relation) wanting = absurd (false≢true wanting)
wanting_of refusal.Depth wanting = absurd (false≢true wanting)
wanting_of refusal.DeferLimit wanting = absurd (false≢true wanting)
wanting_of (refusal.Damaged page) wanting = absurd (false≢true wanting)
wanting_of refusal.Fault wanting = absurd (false≢true wanting)

pub kind_of : (r : Refusal) → Kind r
kind_of (refusal.Syntax column) = Given refl
kind_of refusal.Down = Given refl
kind_of refusal.State = Given refl
kind_of (refusal.NoRelation name) = Given refl
kind_of (refusal.Exists name) = Given refl
kind_of (refusal.NoName name) = Given refl
kind_of (refusal.NoExtension code) = Given refl
kind_of (refusal.InUse relation name) = Given refl
kind_of refusal.Mistyped = Given refl
kind_of (refusal.TooLong relation) = Given refl
kind_of refusal.Mixed = Given refl
kind_of refusal.Limit = Given refl
kind_of (refusal.NoRecord relation) = Given refl
kind_of (refusal.Duplicate relation) = Given refl
kind_of (refusal.Veto relation name) = Given refl
kind_of (refusal.Range relation) = Given refl
kind_of refusal.Depth = Given refl
kind_of refusal.DeferLimit = Given refl
kind_of (refusal.Room room) = Wanting refl
kind_of (refusal.Damaged page) = Broken page
kind_of refusal.Fault = Failed
kind_of refusal.NoMemory = Wanting refl

-- ends of a commit that is over, by the kind of the refusal
over_by : (S : State → Type 0) (Lacks : Room → Type 0) (HasFailed : Type 0) (ext : Extensions) (s : State) (r : Refusal) → Kind r → is_wanting r ≡ false
    → (is_free r ≡ false → IsStep S ext s command.Commit (reply.Refused r)) → (r ≡ refusal.Fault → IsFree S HasFailed s (downed s)) → ((page : ℕ) → r ≡ refusal.Damaged page → ⊥)
    → Ends S Lacks HasFailed ext s command.Commit (reply.Refused r)
over_by S Lacks HasFailed ext s r (Given given) not step failed damaged = Ends-given S Lacks HasFailed ext s command.Commit r given (step given)
over_by S Lacks HasFailed ext s _ Failed not step failed damaged = failed refl
over_by S Lacks HasFailed ext s _ (Broken page) not step failed damaged = absurd (damaged page refl)
over_by S Lacks HasFailed ext s r (Wanting wanting) not step failed damaged = absurd (false≢true (sym not ∙ wanting))

fault_wanting : {A : Type 0} (r : Refusal) → r ≡ refusal.Fault → is_wanting r ≡ true → A
fault_wanting r fault wanting = absurd (false≢true (sym (ap is_wanting fault) ∙ wanting))

-- it comes on the way
free_wanting : (r : Refusal) → is_wanting r ≡ true → is_free r ≡ true
free_wanting r wanting = ⊎_elim
    (λ (a : (room : Room) × (r ≡ refusal.Room room)). ap is_free a.1)
    (λ (a : r ≡ refusal.NoMemory). ap is_free a)
    (wanting_of r wanting)

-- want of room or memory doesn't end a session
end_of_wanting : (r : Refusal) → is_wanting r ≡ true → is_end r ≡ false
end_of_wanting r wanting = ⊎_elim
    (λ (a : (room : Room) × (r ≡ refusal.Room room)). ap is_end a.1)
    (λ (a : r ≡ refusal.NoMemory). ap is_end a)
    (wanting_of r wanting)

-- ---- what stopped it
refused_run : {S : Type 0} (Stopped : Refusal → Trail → S → Type 0) (work : Work (Unit {0})) (g : Going) (r : Refusal) (there : S) → is_free r ≡ false → StopsFrom Stopped work g r there
    → RefusedFrom Stopped work g r there
refused_run Stopped work g r there given stops = subst (λ (b : Bool). EndsBy Stopped b work g r there) given stops

module _ {D : Type 0} (faults : D → ℕ) (m : Meanings) (work : Work (Unit {0})) (g : Going) where
  abbrev Stops : Refusal → Mounted D → Type 0
  Stops r there = StopsFrom (IsStoppedOn faults m) work g r there

  -- no page is damaged
  damage_stops : (page : ℕ) (r : Refusal) → r ≡ refusal.Damaged page → (there : Mounted D) → Stops r there → ⊥
  damage_stops page r is there stops = let at : Stops (refusal.Damaged page) there = subst (λ (r : Refusal). Stops r there) is stops in at.stopped.cause

  room_stops : (room : Room) (r : Refusal) → r ≡ refusal.Room room → (there : Mounted D) → Stops r there → HasRefusalCause (FailsOn faults) (refusal.Room room) there
  room_stops room r is there stops = let at : Stops (refusal.Room room) there = subst (λ (r : Refusal). Stops r there) is stops in at.stopped.cause

-- ---- a commit
-- what is said of it
pub record Committed {B D : Type 0} (meanings : B → Meanings) (told : D → Option Story) (len faults : D → ℕ) (d e : D) (x y : Session B) (r : Reply) : Type 0 where
  pub ends : (want : Wanted) (s : State) → IsFor meanings told len want s d x
      → Ends (StandsBehind meanings told len want (extensions_of (meanings x.boxes)) s command.Commit d e x y) (Lacks (sizes_of x)) (HasFailed faults d e) (extensions_of (meanings x.boxes)) s command.Commit r
  pub keeps : KeepsSession len faults d e x y r
  pub runs : CanRun meanings told len e y

module _ {B D : Type 0} (meanings : B → Meanings) (told : D → Option Story) (len faults : D → ℕ) where
  -- one that changed nothing
  pub Committed-carried : (d e : D) (x y : Session B) (r : Reply) → LeavesWanted (parts_of told len d x) (parts_of told len e y) → Carried meanings told len faults command.Commit d e x y r
      → Committed meanings told len faults d e x y r
  Committed-carried d e x y r leaves carried = record {
    ends = λ want s for. Ends-behind_for meanings told len command.Commit d e x y leaves want s for faults r (carried.ends want s for);
    keeps = carried.keeps;
    runs = carried.runs;
  }

  module _ (d e : D) (x y : Session B) (runs : CanRun meanings told len d x) (up : x.down ≡ false) (o : Open) (some : x.open ≡ Some o)
      (space : Space) (same : y.space ≡ space) (boxes : meanings y.boxes ≡ meanings x.boxes) (place : y.place ≡ x.place) where
    abbrev m : Meanings
    m = meanings x.boxes

    abbrev ext : Extensions
    ext = extensions_of m

    abbrev tx : ℕ
    tx = o.transaction.tx.store.number

    abbrev w : EngineWork
    w = o.transaction.work

    abbrev p : Parts
    p = parts_of told len d x

    abbrev q : Parts
    q = parts told len e space.store

    abbrev now : parts_of told len e y ≡ q
    now = ap (λ (a : Space). parts told len e a.store) same

    up_for : (want : Wanted) (s : State) → IsFor meanings told len want s d x → s.down ≡ false
    up_for want s for = sym for.down ∙ up

    within : (want : Wanted) (s : State) → IsFor meanings told len want s d x → Inside m x.place want (committed s) p o s.transaction
    within want s for = inside_for meanings told len faults d x runs up o some want s for

    -- the work that a commit finishes
    at_commit : (want : Wanted) (s : State) (for : IsFor meanings told len want s d x) → IsAt m x.place want tx (going_on (within want s for).of) p w
    at_commit want s for =
        let t : PlainTransaction = (within want s for).of in
        IsAt-same m x.place want tx (going_in t) (going_on t) p w refl refl refl refl (within want s for).inside.at

    paid_commit : (want : Wanted) (s : State) (for : IsFor meanings told len want s d x) → IsPaidAt (going_on (within want s for).of) p
    paid_commit want s for = (within want s for).inside.spent

    ended : {A : Type 0} → x.down ≡ true → A
    ended down = absurd (false≢true (sym up ∙ down))

    abbrev Behind : Wanted → State → State → Type 0
    Behind want s t = StandsBehind meanings told len want ext s command.Commit d e x y t

    -- ---- what a crash leaves
    -- the same, by the pages of the store
    abbrev Left : Wanted → State → State → Type 0
    Left want s t = LeavesOldOrNext m x.place.root want ext s command.Commit t p q

    left_now : (want : Wanted) (s t : State) → Left want s t → LeavesOldOrNext m x.place.root want ext s command.Commit t p (parts_of told len e y)
    left_now want s t left = subst (λ (r : Parts). LeavesOldOrNext m x.place.root want ext s command.Commit t p r) (sym now) left

    -- what was wanted
    left_wanted : LeavesWanted p q → (want : Wanted) (s : State) → IsFor meanings told len want s d x → (t : State) → Left want s t
    left_wanted leaves want s for t = let at = at_commit want s for in inl (leaves.each want at.has.now at.has.stands.store)

    -- where the disk failed, the database of some step
    left_failed : ((want : Wanted) (g : Going) → IsAt m x.place want tx g p w → IsPaidAt g p → LeavesOldOrFinished m x.place.root want g p q)
        → (want : Wanted) (s : State) → IsFor meanings told len want s d x → Left want s (downed s)
    left_failed moments want s for =
        ⊎_elim
        (λ (old : LeavesOnly p.told q.told (Restores p.store.pool.geometry want)). inl old)
        (λ (run : Finishes m (going_on (within want s for).of) (LeavesEither m x.place.root want p) q). inr (next run))
        (moments want (going_on (within want s for).of) (at_commit want s for) (paid_commit want s for))
      where
        next : Finishes m (going_on (within want s for).of) (LeavesEither m x.place.root want p) q → LeavesNext m x.place.root want ext s command.Commit (downed s) p q
        next run = record {
          next = with_committed s run.after.db;
          is = inr (
            refl,
            record {
              reply = reply.Done None run.after.used;
              steps = Steps-committed ext s (within want s for).of (within want s for).is (up_for want s for) run.picks run.after run.leads;
            },
          );
          pages = run.stands.pages;
          commits = subst (λ (db : Db). IsCommitted m x.place.root p.store.pool.geometry.pages run.stands.pages db) (sym (committed-push s run.after.db)) run.stands.committed;
          leaves = run.stands.leaves;
        }

    rose_then : (x.space.store.book.down ≡ true) ⊎ Rose (faults d) (faults e) → Rose (faults d) (faults e)
    rose_then = ⊎_elim (λ (was : x.space.store.book.down ≡ true). absurd (false≢true (sym (runs.up up) ∙ was))) (λ (rose : Rose (faults d) (faults e)). rose)

    -- ---- what it keeps
    module _ {T : Type 0} (result : Result T Refusal) (remains : Remains told len faults d e x.space.store space.store result) where
      KeepsSession-commit : (r : Reply) → y.down ≡ (x.down || ends_with r) → (r ≡ reply.Refused refusal.Fault → space.store.book.down ≡ true) → KeepsSession len faults d e x y r
      KeepsSession-commit r down faulted = record {
        size = remains.size;
        later = remains.later;
        geometry = ap (λ (a : Space). a.store.pool.geometry) same ∙ remains.geometry;
        place = place;
        down = down;
        fault = λ is. rose_then (remains.fell (faulted is));
        ended = ended;
      }

      runs-commit : (opened : Option Open) → y.open ≡ opened → (y.down ≡ false → space.store.book.down ≡ false) → (y.down ≡ false → CanGoOn m x.place q opened)
          → All (IsOpen m) y.opened.items → CanRun meanings told len e y
      runs-commit opened is up_then goes ones = CanRun-as meanings told len d e x y opened q runs boxes place is now remains.geometry remains.ready up_then goes (λ on. ones)

    -- ---- a commit that goes through
    pub Committed-ok : {T : Type 0} (value : T) (picks : List Key) → Remains told len faults d e x.space.store space.store (Ok value) → y.down ≡ x.down → y.open ≡ None
        → ((want : Wanted) (g : Going) → IsAt m x.place want tx g p w → IsPaidAt g p → Finishes m g (IsDone m x.place.root want picks y.opened.items p) q)
        → All (IsOpen m) y.opened.items → (space.store.book.down ≡ false → space.store.book.actives ≡ [])
        → Committed meanings told len faults d e x y (reply.Done None picks)
    Committed-ok value picks remains down none done ones out = record {
      ends = λ want s for. step want s for (done want (going_on (within want s for).of) (at_commit want s for) (paid_commit want s for));
      keeps = KeepsSession-commit (Ok value) remains (reply.Done None picks) (down ∙ sym (or-false x.down)) (λ is. absurd (false≢true (ap (λ (r : Reply). ends_with r) is)));
      runs = runs-commit (Ok value) remains None none (λ on. still_up space.store.book.down refl) (λ on. out (still_up space.store.book.down refl)) ones;
    }
      where
        still_up : (b : Bool) → space.store.book.down ≡ b → space.store.book.down ≡ false
        still_up false is = is
        still_up true is = absurd (let e : Ok value ≡ Err refusal.Fault = remains.up is in cc)

        step : (want : Wanted) (s : State) (for : IsFor meanings told len want s d x) → Finishes m (going_on (within want s for).of) (IsDone m x.place.root want picks y.opened.items p) q
            → IsStep (Behind want s) ext s command.Commit (reply.Done None picks)
        step want s for run = record {
          after = with_committed s run.after.db;
          steps = subst (λ (used : List Key). Steps ext s command.Commit (reply.Done None used) (with_committed s run.after.db)) (sym run.stands.picked)
              (Steps-committed ext s (within want s for).of (within want s for).is (up_for want s for) run.picks run.after run.leads);
          stands = record {
            stands = record {
              want = run.stands.now;
              is = IsFor-as meanings told len want s d e x y for run.stands.now (with_committed s run.after.db) None q boxes place none now (down ∙ up) refl refl
                  (λ on. subst (λ (db : Db). Rests m x.place.root run.stands.now db q) (sym (committed-push s run.after.db)) run.stands.rests) (λ on. run.stands.opened);
            };
            leaves = λ on. left_now want s (with_committed s run.after.db) (inr (record {
              next = with_committed s run.after.db;
              is = inl refl;
              pages = run.stands.now;
              commits = subst (λ (db : Db). IsCommitted m x.place.root p.store.pool.geometry.pages run.stands.now db) (sym (committed-push s run.after.db))
                  (subst (λ (g : Geometry). IsCommitted m x.place.root g.pages run.stands.now run.after.db) remains.geometry run.stands.rests.committed);
              leaves = run.stands.leaves;
            }));
          };
        }

    -- ---- one that is refused
    module _ (T : Type 0) (r : Refusal) (remains : Remains {T = T} told len faults d e x.space.store space.store (Err r)) (down : y.down ≡ (x.down || is_end r))
        (stopped : (want : Wanted) (g : Going) → IsAt m x.place want tx g p w → IsPaidAt g p → StopsAt told len faults m tx g r (record { disk = d; store = x.space.store }) (record { disk = e; store = space.store }))
        (kept : (r ≡ refusal.Fault → ⊥) → LeavesWanted p q) (moments : (want : Wanted) (g : Going) → IsAt m x.place want tx g p w → IsPaidAt g p → LeavesOldOrFinished m x.place.root want g p q) where
      -- where it is want of room, the step comes so far that it may be wanting
      pub WantsRoom-commit : (want : Wanted) (s : State) → IsFor meanings told len want s d x → WantsRoom m (sizes_of x).pages s command.Commit (reply.Refused r)
      WantsRoom-commit want s for =
          let of = (within want s for).of in
          let stops = stopped want (going_on of) (at_commit want s for) (paid_commit want s for) in
          commit_room faults m s of (within want s for).is (up_for want s for) stops.there (sizes_of x).pages r stops.stops
          (λ not. ap (λ (g : Geometry). g.pages) (stops.led not).1.geometry) stops.up

      stays_up : (b : Bool) → space.store.book.down ≡ b → y.down ≡ false → space.store.book.down ≡ false
      stays_up false is on = is
      stays_up true is on =
          let fault : ◌≡◌ {A = Result T Refusal} (Err r) (Err refusal.Fault) = remains.up is in
          let same : r ≡ refusal.Fault = cc in
          absurd (false≢true (sym on ∙ down ∙ ap (λ (b : Bool). b || is_end r) up ∙ ap is_end same))

      not_end : is_end r ≡ false → y.down ≡ false
      not_end is = down ∙ ap (λ (b : Bool). x.down || b) is ∙ or-false x.down ∙ up

      -- what is open between transactions stays so
      open_still : y.opened.items ≡ x.opened.items → (want : Wanted) (s : State) → IsFor meanings told len want s d x → MayStayOpen m x.place.root q.store.pool.geometry.pages want y.opened.items
      open_still ones want s for =
          subst (λ (g : Geometry). MayStayOpen m x.place.root g.pages want y.opened.items) (sym remains.geometry)
          (subst (λ (os : List OpenRelation). MayStayOpen m x.place.root (sizes_of x).pages want os) (sym ones) (for.opened (up_for want s for)))

      all_open : y.opened.items ≡ x.opened.items → All (IsOpen m) y.opened.items
      all_open ones = subst (λ (os : List OpenRelation). All (IsOpen m) os) (sym ones) (runs.opened up)

      -- what stands where the disk didn't fail
      kept_behind : (r ≡ refusal.Fault → ⊥) → (want : Wanted) (s t : State) → IsFor meanings told len want s d x → StandsFor meanings told len t e y → Behind want s t
      kept_behind not want s t for stands = record { stands = stands; leaves = λ on. left_now want s t (left_wanted (kept not) want s for t) }

      -- ---- and is over
      module _ (over : is_wanting r ≡ false) (none : y.open ≡ None) (ones : y.opened.items ≡ x.opened.items)
          (faulted : OnFault r (space.store.book.down ≡ true))
          (aborted : space.store.book.down ≡ false → (m : Meanings) (root : ℕ) (want : Wanted) (db : Db) → WasBegun m root want db tx p → Rests m root want db q)
          (out : space.store.book.down ≡ false → space.store.book.actives ≡ []) where
        given_step : is_free r ≡ false → (want : Wanted) (s : State) (for : IsFor meanings told len want s d x) → IsStep (Behind want s) ext s command.Commit (reply.Refused r)
        given_step given want s for =
            let stops : StopsFrom (IsStoppedOn faults m) (finish_and_free ext) (going_on (within want s for).of) r (stopped want (going_on (within want s for).of) (at_commit want s for) (paid_commit want s for)).there =
            (stopped want (going_on (within want s for).of) (at_commit want s for) (paid_commit want s for)).stops in
            let run = refused_run (IsStoppedOn faults m) (finish_and_free ext) (going_on (within want s for).of) r (stopped want (going_on (within want s for).of) (at_commit want s for) (paid_commit want s for)).there given stops in
            record {
              after = without_transaction s;
              steps = Steps-refused_commit ext s (within want s for).of (within want s for).is (up_for want s for) run.picks run.after r run.leads;
              stands = kept_behind (λ fault. false≢true (sym given ∙ ap is_free fault)) want s (without_transaction s) for (record {
                want = want;
                is = IsFor-as meanings told len want s d e x y for want (without_transaction s) None q boxes place none now (not_end (end_of_given r given)) refl refl
                    (λ on. aborted (stays_up space.store.book.down refl (not_end (end_of_given r given))) m x.place.root want (committed s) (within want s for).inside.begun)
                    (λ on. open_still ones want s for);
              });
            }

        fault_free : r ≡ refusal.Fault → (want : Wanted) (s : State) (for : IsFor meanings told len want s d x) → IsFree (Behind want s) (HasFailed faults d e) s (downed s)
        fault_free is want s for =
            let off : y.down ≡ true = down ∙ ap (λ (b : Bool). b || is_end r) up ∙ ap is_end is in
            record {
              up = up_for want s for;
              cause = rose_then (remains.fell (of_fault r (space.store.book.down ≡ true) faulted is));
              stands = record {
                stands = record {
                  want = want;
                  is = IsFor-as meanings told len want s d e x y for want (downed s) y.open (parts_of told len e y) boxes place refl refl off refl refl (λ on. absurd (false≢true (sym on)))
                      (λ on. absurd (false≢true (sym on)));
                };
                leaves = λ on. left_now want s (downed s) (left_failed moments want s for);
              };
            }

        over_ends : (want : Wanted) (s : State) (for : IsFor meanings told len want s d x) → Ends (Behind want s) (Lacks (sizes_of x)) (HasFailed faults d e) ext s command.Commit (reply.Refused r)
        over_ends want s for =
            let stops = stopped want (going_on (within want s for).of) (at_commit want s for) (paid_commit want s for) in
            over_by (Behind want s) (Lacks (sizes_of x)) (HasFailed faults d e) ext s r (kind_of r) over (λ given. given_step given want s for) (λ is. fault_free is want s for)
            (λ page is. damage_stops faults m (finish_and_free ext) (going_on (within want s for).of) page r is stops.there stops.stops)

        pub Committed-over : Committed meanings told len faults d e x y (reply.Refused r)
        Committed-over = record {
          ends = over_ends;
          keeps = KeepsSession-commit (Err r) remains (reply.Refused r) down (λ is. let same : r ≡ refusal.Fault = cc in of_fault r (space.store.book.down ≡ true) faulted same);
          runs = runs-commit (Err r) remains None none (stays_up space.store.book.down refl) (λ on. out (stays_up space.store.book.down refl on)) (all_open ones);
        }

      -- ---- and goes on
      module _ (wanting : is_wanting r ≡ true) (t : Transaction) (is : y.open ≡ Some (record { transaction = t; points = o.points })) (ones : y.opened.items ≡ x.opened.items) (numbered : t.tx ≡ o.transaction.tx)
          (stays : StaysOpen tx p q w t.work) (quiet : HasNothingLeft w → IsOnlyFault r space.store)
          (bare : (want : Wanted) (g : Going) → IsAt m x.place want tx g p w → IsPaidAt g p → g.queue.actions ≡ [] → IsNoneGone g.gone → is_room r ≡ false) where
        abbrev new : Open
        new = record { transaction = t; points = o.points }

        number : t.tx.store.number ≡ tx
        number = ap (λ (a : Tx). a.store.number) numbered

        goes_on : y.down ≡ false
        goes_on = not_end (end_of_wanting r wanting)

        can_go : CanGoOn m x.place p (Some o) → CanGoOn m x.place q (Some new)
        can_go goes = (
          subst (λ (n : ℕ). IsUsable m x.place n q t.work) (sym number) (stays.usable m x.place runs.owner),
          subst (λ (n : ℕ). All (λ one. IsPointOf n one.point q t.work) o.points.items) (sym number) (λ k a h. stays.points (get_or o.points.items k a).point (goes.1 k a h)),
          goes.2,
        )

        -- where it was stopped
        broken : (want : Wanted) (s : State) (for : IsFor meanings told len want s d x)
            → BrokenFrom (IsStoppedOn faults m) (finish_and_free ext) (going_on (within want s for).of) r (stopped want (going_on (within want s for).of) (at_commit want s for) (paid_commit want s for)).there
        broken want s for =
            let stops = stopped want (going_on (within want s for).of) (at_commit want s for) (paid_commit want s for) in
            subst (λ (b : Bool). EndsBy (IsStoppedOn faults m) b (finish_and_free ext) (going_on (within want s for).of) r stops.there) (free_wanting r wanting) stops.stops

        abbrev picks_of : (want : Wanted) (s : State) → IsFor meanings told len want s d x → List Key
        picks_of want s for = (broken want s for).picks ++ []

        -- what its step spends
        abbrev spent_by : (want : Wanted) (s : State) → IsFor meanings told len want s d x → ℕ
        spent_by want s for = (step ext s command.Commit (picks_of want s for)).spent

        enough : (want : Wanted) (s : State) (for : IsFor meanings told len want s d x) → (broken want s for).trail.spent ≤ spent_by want s for
        enough want s for =
            omega (
              arith,
              ((broken want s for).comes []).spent,
              commit_spends faults m s (within want s for).of (within want s for).is (up_for want s for)
                  (stopped want (going_on (within want s for).of) (at_commit want s for) (paid_commit want s for)).there (picks_of want s for),
            )

        abbrev after_spent : (want : Wanted) (s : State) → IsFor meanings told len want s d x → PlainTransaction
        after_spent want s for = record (within want s for).of { spent = spent_by want s for }

        still_inside : (want : Wanted) (s : State) (for : IsFor meanings told len want s d x) → IsInside m x.place want (committed s) q new (after_spent want s for)
        still_inside want s for =
            let u : PlainTransaction = (within want s for).of in
            let inside = (within want s for).inside in
            let stops = stopped want (going_on u) (at_commit want s for) (paid_commit want s for) in
            let paid = (broken want s for).stopped.paid in
            record {
              at = subst (λ (n : ℕ). IsAt m x.place want n (going_in (after_spent want s for)) q t.work) (sym number)
                  (IsAt-same m x.place want tx (going_in u) (going_in (after_spent want s for)) q t.work refl refl refl refl (stays.stays m x.place want (going_in u) inside.at));
              begun = subst (λ (n : ℕ). WasBegun m x.place.root want (committed s) n q) (sym number) (stays.begun m x.place.root want (committed s) inside.begun);
              points = subst (λ (n : ℕ). AreSavepoints m x.place want n q t.work o.points.items u.points) (sym number)
                  (AreSavepoints-kept m x.place want tx p q w t.work (stays.was m x.place want) o.points.items u.points inside.points);
              spent = paid_more HasSpent (broken want s for).trail.spent (spent_by want s for + 1) q.store (omega (arith, enough want s for))
                  (record { changes = paid.changes; within = paid.within; spent = stops.spent wanting paid.changes paid.spent });
            }

        abbrev left_by : (want : Wanted) (s : State) → IsFor meanings told len want s d x → State
        left_by want s for = record s { transaction = Some (after_spent want s for) }

        still_for : (want : Wanted) (s : State) (for : IsFor meanings told len want s d x) → Behind want s (left_by want s for)
        still_for want s for = kept_behind (λ fault. false≢true (sym (ap is_wanting fault) ∙ wanting)) want s (left_by want s for) for (record {
          want = want;
          is = IsFor-as meanings told len want s d e x y for want (left_by want s for) (Some new) q boxes place is now (goes_on ∙ sym (up_for want s for)) refl refl (λ on. still_inside want s for)
              (λ on. open_still ones want s for);
        })

        may_spend : (want : Wanted) (s : State) (for : IsFor meanings told len want s d x) → MayHaveSpent ext s command.Commit (left_by want s for)
        may_spend want s for = inr (picks_of want s for, sym (with_spent-inside (spent_by want s for) s (within want s for).of (within want s for).is))

        -- room may be wanting where the definition says so, since an action waits or something is gone
        may_lack : (want : Wanted) (s : State) → IsFor meanings told len want s d x → (room : Room) → r ≡ refusal.Room room → may_want_room s command.Commit ≡ true
        may_lack want s for room is =
            let inside = within want s for in
            may_want_room-commit s inside.of inside.is (λ none gone.
            false≢true (sym (bare want (going_on inside.of) (at_commit want s for) (paid_commit want s for) none gone) ∙ ap is_room is))

        -- so may memory, since something is left
        may_want : (want : Wanted) (s : State) → IsFor meanings told len want s d x → may_want_memory s command.Commit ≡ true
        may_want want s for =
            let inside = within want s for in
            may_want_memory-commit s inside.of inside.is (λ none gone.
            fault_wanting r (quiet (record { queue = inside.inside.at.waits ∙ none; gone = inside.inside.at.gone gone })).is wanting)

        wanting_ends : (want : Wanted) (s : State) (for : IsFor meanings told len want s d x)
            → ((room : Room) × (r ≡ refusal.Room room)) ⊎ (r ≡ refusal.NoMemory)
            → Ends (Behind want s) (Lacks (sizes_of x)) (HasFailed faults d e) ext s command.Commit (reply.Refused r)
        wanting_ends want s for = ⊎_elim
            (λ (a : (room : Room) × (r ≡ refusal.Room room)).
            let stops = stopped want (going_on (within want s for).of) (at_commit want s for) (paid_commit want s for) in
            subst (λ (r : Refusal). Ends (Behind want s) (Lacks (sizes_of x)) (HasFailed faults d e) ext s command.Commit (reply.Refused r)) (sym a.1)
            (record {
              up = up_for want s for;
              cause = (
                Lacks-there faults (sizes_of x) stops.there (stops.led (λ fault. fault_wanting r fault wanting)).1.geometry a.0
                    (room_stops faults m (finish_and_free ext) (going_on (within want s for).of) a.0 r a.1 stops.there stops.stops),
                may_lack want s for a.0 a.1,
              );
              after = left_by want s for;
              left = may_spend want s for;
              stands = still_for want s for;
            }))
            (λ (a : r ≡ refusal.NoMemory).
            subst (λ (r : Refusal). Ends (Behind want s) (Lacks (sizes_of x)) (HasFailed faults d e) ext s command.Commit (reply.Refused r)) (sym a)
            (record { up = up_for want s for; cause = may_want want s for; after = left_by want s for; left = may_spend want s for; stands = still_for want s for }))

        pub Committed-wanting : Committed meanings told len faults d e x y (reply.Refused r)
        Committed-wanting = record {
          ends = λ want s for. wanting_ends want s for (wanting_of r wanting);
          keeps = KeepsSession-commit (Err r) remains (reply.Refused r) down (λ is. let same : r ≡ refusal.Fault = cc in fault_wanting r same wanting);
          runs = runs-commit (Err r) remains (Some new) is (stays_up space.store.book.down refl)
              (λ on. can_go (subst (λ (a : Option Open). CanGoOn m x.place p a) some (runs.goes up))) (all_open ones);
        }
