-- How commands on relations end, by what they reply and by why they are refused.
use Rattle.std.proofs.Common.{◌≡◌, inl, inr, ℕ, ◌+◌, Bool, true, false, not, ◌||◌, ◌&&◌, List, [], ◌∷◌, map, Option, Some, None, IfSome, is_some, refl, sym, ap, ◌∙◌, subst, arith}
use Rattle.std.proofs.lemmas.Bool.{false≢true}
use Rattle.sb_relation.specs.Db.{Name, Db}
use Rattle.sb_fold.specs.declared.refusal.Refusal.{Refusal}
use Rattle.sb_fold.specs.declared.refusal.Refusal.TheVariants as refusal
use Rattle.sb_fold.specs.declared.refusal.Room.{Room}
use Rattle.sb_fold.specs.Extensions.{Extensions}
use Rattle.sb_fold.specs.Finish.{finish}
use Rattle.sb_fold.specs.Outcome.{Going, Gone, Queue, Trail, Work, ◌>>=◌}
use Rattle.sb_fold.proofs.LeadsLemmas.{leads_refused}
use Rattle.sb_cascade.specs.Runs.{EndsBy, StopsFrom, is_free, is_room}
use Rattle.sb_engine.specs.Refusals.{HasRefusalCause}
use Rattle.sb_engine.specs.Working.{IsPaid, extensions_of}
use Rattle.sb_plain.specs.declared.command.Command.{Command}
use Rattle.sb_plain.specs.declared.command.Command.TheVariants as command
use Rattle.sb_plain.specs.declared.reply.Reply.{Reply}
use Rattle.sb_plain.specs.declared.reply.Reply.TheVariants as reply
use Rattle.sb_plain.specs.Licences.{may_want_memory, may_want_room}
use Rattle.sb_plain.specs.State.{downed}
use Rattle.sb_plain.specs.Step.{Steps}
use Rattle.sb_plain.specs.Reading.{read}
use Rattle.sb_plain.specs.State.{Point as PlainPoint, State, Transaction, committed, no_queue, none_gone, view}
use Rattle.sb_plain.specs.Step.{Answer, freeing, step, work_of}
use Rattle.sb_registry.specs.Boxes.{Meanings}
use Rattle.sb_drive.specs.Spaces.{Wanted}
use Rattle.sb_map.specs.declared.place.Place.{Place}
use Rattle.sb_space.specs.Spent.{HasSpent}
use Rattle.sb_txn.specs.Parts.{Parts}
use Rattle.sb_engine.specs.declared.running.Work.{Work as EngineWork}
use Rattle.sb_session.specs.Commits.{FailsOn, IsStoppedOn, Mounted}
use Rattle.sb_session.specs.declared.session.Open.{Open}
use Rattle.sb_session.specs.declared.session.Savepoint.{Savepoint}
use Rattle.sb_session.specs.Ends.{Ends, IsFree, IsLacking, IsStep, MayHaveSpent, ends_with}
use Rattle.sb_session.specs.Sessions.{AreSavepoints, IsInside, WantsRoom}
use Rattle.sb_session.proofs.Carried.{Ends-given, end_of_given}
use Rattle.sb_session.proofs.CommitSteps.{going_on}
use Rattle.sb_session.proofs.OpenLemmas.{paid_more}
use Rattle.sb_reads.specs.Reads.{is_reading}
use Rattle.sb_execution.specs.Endings.{IsOf, going_alone}
use Rattle.sb_execution.specs.Serving.{IsRefusedIn, IsSeenIn, IsUnservedOn, Looked, Tested, Worked, is_managing, can_commit, may_have_changed, may_have_committed}
use Rattle.sb_execution.proofs.PagesLemmas.{paid_past, past_inside, room_inside, room_roomless, room_worked}
use Rattle.sb_execution.proofs.ReplyLemmas.{is_free_reply, refused_given}
use Rattle.sb_execution.proofs.StepsOf.{Steps-refused_alone, Steps-refused_inside, Steps-stopped_alone, Steps-stopped_inside, open_same, open_spent, with_open, with_spent_in}

-- ---- replies that end no session
pub ends_given : (r : Reply) → is_free_reply r ≡ false → ends_with r ≡ false
ends_given (reply.Refused r) given = end_of_given r given
ends_given r given = refl

module _ (S : State → Type 0) (Lacks : Room → Type 0) (HasFailed : Type 0) (ext : Extensions) (s : State) (c : Command) where
  pub Ends-stepped : (r : Reply) → is_free_reply r ≡ false → IsStep S ext s c r → Ends S Lacks HasFailed ext s c r
  Ends-stepped (reply.Refused r) given step = Ends-given S Lacks HasFailed ext s c r given step
  Ends-stepped r given step = step

  -- by the kind of the refusal
  pub Ends-by : (r : Refusal) → (is_free r ≡ false → IsStep S ext s c (reply.Refused r)) → ((room : Room) → r ≡ refusal.Room room → IsLacking S (Lacks room × (may_want_room s c ≡ true)) ext s c)
      → (r ≡ refusal.NoMemory → IsLacking S (may_want_memory s c ≡ true) ext s c) → (r ≡ refusal.Fault → IsFree S HasFailed s (downed s)) → ((page : ℕ) → r ≡ refusal.Damaged page → ⊥)
      → Ends S Lacks HasFailed ext s c (reply.Refused r)
  Ends-by (refusal.Room room) step lacks wants failed damaged = lacks room refl
  Ends-by refusal.NoMemory step lacks wants failed damaged = wants refl
  Ends-by refusal.Fault step lacks wants failed damaged = failed refl
  Ends-by (refusal.Damaged page) step lacks wants failed damaged = damaged page refl
  Ends-by r step lacks wants failed damaged = Ends-given S Lacks HasFailed ext s c r refl (step refl)

-- what stands for a state stands for it in another way too
module _ (S T : State → Type 0) (Lacks : Room → Type 0) (HasFailed : Type 0) (ext : Extensions) (s : State) (c : Command) (wider : (t : State) → S t → T t) where
  step_wider : (r : Reply) → IsStep S ext s c r → IsStep T ext s c r
  step_wider r step = record { after = step.after; steps = step.steps; stands = wider step.after step.stands }

  free_wider : (Cause : Type 0) (now : State) → IsFree S Cause s now → IsFree T Cause s now
  free_wider Cause now free = record { up = free.up; cause = free.cause; stands = wider now free.stands }

  lacking_wider : (Cause : Type 0) → IsLacking S Cause ext s c → IsLacking T Cause ext s c
  lacking_wider Cause lacks = record { up = lacks.up; cause = lacks.cause; after = lacks.after; left = lacks.left; stands = wider lacks.after lacks.stands }

  pub Ends-as : (r : Reply) → Ends S Lacks HasFailed ext s c r → Ends T Lacks HasFailed ext s c r
  Ends-as (reply.Refused (refusal.Room room)) ends = lacking_wider (Lacks room × (may_want_room s c ≡ true)) ends
  Ends-as (reply.Refused refusal.NoMemory) ends = lacking_wider (may_want_memory s c ≡ true) ends
  Ends-as (reply.Refused refusal.Fault) ends = free_wider HasFailed (downed s) ends
  Ends-as (reply.Refused (refusal.Damaged page)) ends = ends
  Ends-as (reply.Refused r) ends = step_wider (reply.Refused r) ends
  Ends-as r ends = step_wider r ends

-- and so it is where the disk failed a call for another reason
pub Ends-since : (S : State → Type 0) (Lacks : Room → Type 0) (Failed HasFailed : Type 0) (ext : Extensions) (s : State) (c : Command) → (Failed → HasFailed)
    → (r : Reply) → Ends S Lacks Failed ext s c r → Ends S Lacks HasFailed ext s c r
Ends-since S Lacks Failed HasFailed ext s c since (reply.Refused refusal.Fault) ends = record { up = ends.up; cause = since ends.cause; stands = ends.stands }
Ends-since S Lacks Failed HasFailed ext s c since (reply.Refused r) ends = ends
Ends-since S Lacks Failed HasFailed ext s c since r ends = ends

-- ---- commands that have work
-- one that doesn't manage and doesn't read has some
has_work : (ext : Extensions) (db : Db) (c : Command) → is_managing c ≡ false → read ext db c ≡ None → work_of ext c ≡ None → ⊥
has_work ext db command.Tables works none without = cc
has_work ext db c works none without = cc

some_of : {A : Type 0} (o : Option A) → (o ≡ None → ⊥) → (x : A) × (o ≡ Some x)
some_of None not = absurd (not refl)
some_of (Some x) not = (x, refl)

pub work_there : (ext : Extensions) (db : Db) (c : Command) → is_managing c ≡ false → read ext db c ≡ None → (work : Work Answer) × (work_of ext c ≡ Some work)
work_there ext db c works none = some_of (work_of ext c) (has_work ext db c works none)

pub at_some : {A : Type 0} (o : Option A) (x : A) (P : A → Type 0) → o ≡ Some x → IfSome o P → P x
at_some {A = A} o x P is here = let Q : Option A → Type 0 = λ o. IfSome o P in subst Q is here

-- memory may be wanting to it
pub may_want_memory-works : (s : State) (c : Command) → is_managing c ≡ false → may_want_memory s c ≡ true
may_want_memory-works s command.Commit works = absurd (false≢true (sym works))
may_want_memory-works s command.Abort works = absurd (false≢true (sym works))
may_want_memory-works s (command.Rollback name) works = absurd (false≢true (sym works))
may_want_memory-works s c works = refl

-- and room, where it has work
pub may_want_room-works : (ext : Extensions) (s : State) (c : Command) (work : Work Answer) → work_of ext c ≡ Some work → may_want_room s c ≡ true
may_want_room-works ext s (command.Create relation method schema key) work is = refl
may_want_room-works ext s (command.Drop relation) work is = refl
may_want_room-works ext s (command.Attach relation name rule) work is = refl
may_want_room-works ext s (command.Detach relation name) work is = refl
may_want_room-works ext s (command.Insert relation values) work is = refl
may_want_room-works ext s (command.Delete relation at) work is = refl
may_want_room-works ext s (command.Update relation at values) work is = refl
may_want_room-works ext s (command.Act action) work is = refl
may_want_room-works ext s c work is = absurd (cc)

-- no definition gives want of room
pub free_room : (r : Refusal) → is_room r ≡ true → is_free r ≡ true
free_room (refusal.Room room) is = refl
free_room r is = absurd (false≢true is)

pub roomless : (r : Refusal) → is_free r ≡ false → is_room r ≡ false
roomless (refusal.Room room) given = absurd (false≢true (sym given))
roomless r given = refl

-- ---- commands that are refused
module _ {D : Type 0} (faults : D → ℕ) (m : Meanings) (s : State) (c : Command) (works : is_managing c ≡ false) (r : Refusal) (new : Mounted D) where
  abbrev ext : Extensions
  ext = extensions_of m

  abbrev Stopped : Refusal → Trail → Mounted D → Type 0
  Stopped = IsStoppedOn faults m

  -- by its work
  abbrev IsRefused : Going → Type 0
  IsRefused g = IsRefusedIn Stopped m c g r new

  stop_by : (work : Work Answer) → work_of ext c ≡ Some work → (g : Going) → IsRefused g → StopsFrom Stopped work g r new
  stop_by work is g stops = at_some (work_of ext c) work (λ work. StopsFrom Stopped work g r new) is stops

  broken_by : (work : Work Answer) → work_of ext c ≡ Some work → (g : Going) → IsRefused g → is_free r ≡ true → EndsBy Stopped true work g r new
  broken_by work is g stops free = subst (λ (b : Bool). EndsBy Stopped b work g r new) free (stop_by work is g stops)

  refused_by : (work : Work Answer) → work_of ext c ≡ Some work → (g : Going) → IsRefused g → is_free r ≡ false → EndsBy Stopped false work g r new
  refused_by work is g stops given = subst (λ (b : Bool). EndsBy Stopped b work g r new) given (stop_by work is g stops)

  -- for want of room or memory, or by a fault: what has the cause
  pub unserved_cause : (g : Going) → IsUnservedOn faults m s c g r new → is_free r ≡ true → HasRefusalCause (FailsOn faults) r new
  unserved_cause g (Tested is stopped) free = absurd (false≢true (sym (refused_given ext s c r is) ∙ free))
  unserved_cause g (Worked passed none stops) free =
      let there = work_there ext (view s) c works none in
      (broken_by there.0 there.1 g stops free).stopped.cause
  unserved_cause g (Looked free none stopped) also = stopped.cause

  -- for want of room only where it may be wanting
  pub unserved_room : (g : Going) → IsUnservedOn faults m s c g r new → is_room r ≡ true → may_want_room s c ≡ true
  unserved_room g (Tested is stopped) room = absurd (false≢true (sym (refused_given ext s c r is) ∙ free_room r room))
  unserved_room g (Worked passed none stops) room = let there = work_there ext (view s) c works none in may_want_room-works ext s c there.0 there.1
  unserved_room g (Looked free none stopped) room = absurd (false≢true (sym none ∙ room))

  module _ (up : s.down ≡ false) where
    -- as the definitions say: it is a step, which spends as much as was paid for
    pub unserved_inside : is_free r ≡ false → (t : Transaction) → s.transaction ≡ Some t → IsUnservedOn faults m s c (going_on t) r new
        → (n : ℕ) × Steps ext s c (reply.Refused r) (with_open s (Some (with_spent_in n t))) × IsPaid HasSpent 0 (n + 1) new.store
    unserved_inside given t inside (Tested is stopped) = (
      t.spent + 1,
      Steps-refused_inside ext s c up t inside r is,
      paid_more HasSpent (t.spent + 1) (t.spent + 1 + 1) new.store (omega arith) stopped.paid,
    )
    unserved_inside given t inside (Worked passed none stops) =
        let there = work_there ext (view s) c works none in
        let run = refused_by there.0 there.1 (going_on t) stops given in
        let n : ℕ = run.after.trail.spent in (
          n,
          Steps-stopped_inside ext s c up t inside there.0 there.1 run.picks run.after r passed run.leads,
          paid_more HasSpent n (n + 1) new.store (omega arith) run.stopped.paid,
        )
    unserved_inside given t inside (Looked free none stopped) = absurd (false≢true (sym given ∙ free))

    pub unserved_alone : is_free r ≡ false → s.transaction ≡ None → IsUnservedOn faults m s c (going_alone s) r new → Steps ext s c (reply.Refused r) (with_open s None)
    unserved_alone given outside (Tested is stopped) = Steps-refused_alone ext s c up outside r is
    unserved_alone given outside (Worked passed none stops) =
        let there = work_there ext (view s) c works none in
        let run = refused_by there.0 there.1 (going_alone s) stops given in
        Steps-stopped_alone ext s c up outside there.0 there.1 run.picks run.after r passed (leads_refused (λ (answer : Answer). finish ext >>= λ _. freeing answer) run.leads)
    unserved_alone given outside (Looked free none stopped) = absurd (false≢true (sym given ∙ free))

    -- otherwise the state stays, but for what a step spends where the work had come so far
    pub unserved_left : is_free r ≡ true → (t : Transaction) → s.transaction ≡ Some t → IsUnservedOn faults m s c (going_on t) r new
        → (n : ℕ) × MayHaveSpent ext s c (with_open s (Some (with_spent_in n t))) × IsPaid HasSpent 0 (n + 1) new.store
    unserved_left free t inside (Tested is stopped) = absurd (false≢true (sym (refused_given ext s c r is) ∙ free))
    unserved_left free t inside (Worked passed none stops) =
        let there = work_there ext (view s) c works none in
        let broken = broken_by there.0 there.1 (going_on t) stops free in
        let past = past_inside faults m s c up there.0 there.1 passed new r t inside broken in
        let n : ℕ = (step ext s c past.picks).spent in (
          n,
          inr (past.picks, open_spent s t up inside n),
          paid_more HasSpent n (n + 1) new.store (omega arith) (paid_past ext s c broken.trail past new.store broken.stopped.paid),
        )
    unserved_left free t inside (Looked also none stopped) = (t.spent, inl (open_same s t up inside), stopped.paid)

    -- for want of room only where its step comes so far that room may be wanting
    module _ (pages : ℕ) (size : is_room r ≡ true → new.store.pool.geometry.pages ≡ pages) (still : new.store.book.down ≡ false) where
      pub unserved_wants_inside : (t : Transaction) → s.transaction ≡ Some t → IsUnservedOn faults m s c (going_on t) r new → WantsRoom m pages s c (reply.Refused r)
      unserved_wants_inside t inside (Tested is stopped) = room_roomless m pages s c r (roomless r (refused_given ext s c r is))
      unserved_wants_inside t inside (Worked passed none stops) =
          let there = work_there ext (view s) c works none in
          room_inside faults m s c up there.0 there.1 passed new r t inside pages size (λ room. still) (stop_by there.0 there.1 (going_on t) stops)
      unserved_wants_inside t inside (Looked free none stopped) = room_roomless m pages s c r none

      pub unserved_wants_alone : s.transaction ≡ None → IsUnservedOn faults m s c (going_alone s) r new → WantsRoom m pages s c (reply.Refused r)
      unserved_wants_alone outside (Tested is stopped) = room_roomless m pages s c r (roomless r (refused_given ext s c r is))
      unserved_wants_alone outside (Worked passed none stops) =
          let there = work_there ext (view s) c works none in
          room_worked faults m s c up there.0 there.1 passed new r outside pages size (λ room. still) (stop_by there.0 there.1 (going_alone s) stops)
      unserved_wants_alone outside (Looked free none stopped) = room_roomless m pages s c r none

-- ---- what is seen of a transaction
module _ (m : Meanings) (place : Place) (want : Wanted) where
  names_same : (tx : ℕ) (p : Parts) (w : EngineWork) (ones : List Savepoint) (points : List PlainPoint) → AreSavepoints m place want tx p w ones points
      → map (λ (a : Savepoint). a.name) ones ≡ map (λ (a : PlainPoint). a.name) points
  names_same tx p w [] [] are = refl
  names_same tx p w (one ∷ ones) (point ∷ points) are =
      ap (λ (n : Name). n ∷ map (λ (a : Savepoint). a.name) ones) are.0.name ∙ ap (λ (ns : List Name). point.name ∷ ns) (names_same tx p w ones points are.1)
  names_same tx p w [] (point ∷ points) are = absurd are
  names_same tx p w (one ∷ ones) [] are = absurd are

  module _ (s : State) (p : Parts) where
    pub seen_inside : (o : Open) (t : Transaction) (points : List Savepoint) → points ≡ o.points.items → IsOf m place want s p (Some o) → s.transaction ≡ Some t → IsInside m place want (committed s) p o t
        → IsSeenIn m true points s (going_on t)
    seen_inside o t points listed of is inside = record {
      up = of.up;
      db = ap (λ (t : Option Transaction). elim t as (λ c. Db) [ None ↦ committed s | Some t ↦ t.db ]) is;
      queue = ap (λ (t : Option Transaction). elim t as (λ c. Queue) [ None ↦ no_queue | Some t ↦ t.queue ]) is;
      gone = ap (λ (t : Option Transaction). elim t as (λ c. Gone) [ None ↦ none_gone | Some t ↦ t.gone ]) is;
      live = of.live;
      spare = of.spare;
      inside = sym (ap (λ (t : Option Transaction). is_some t) is);
      points = ap (λ (ones : List Savepoint). map (λ (a : Savepoint). a.name) ones) listed
          ∙ names_same o.transaction.tx.store.number p o.transaction.work o.points.items t.points inside.points
          ∙ sym (ap (λ (t : Option Transaction). map (λ (a : PlainPoint). a.name) (elim t as (λ c. List PlainPoint) [ None ↦ [] | Some t ↦ t.points ])) is);
    }

    pub seen_alone : (points : List Savepoint) → points ≡ [] → IsOf m place want s p None → s.transaction ≡ None → IsSeenIn m false points s (going_alone s)
    seen_alone points none of is = record {
      up = of.up;
      db = ap (λ (t : Option Transaction). elim t as (λ c. Db) [ None ↦ committed s | Some t ↦ t.db ]) is;
      queue = ap (λ (t : Option Transaction). elim t as (λ c. Queue) [ None ↦ no_queue | Some t ↦ t.queue ]) is;
      gone = ap (λ (t : Option Transaction). elim t as (λ c. Gone) [ None ↦ none_gone | Some t ↦ t.gone ]) is;
      live = of.live;
      spare = of.spare;
      inside = sym (ap (λ (t : Option Transaction). is_some t) is);
      points = ap (λ (ones : List Savepoint). map (λ (a : Savepoint). a.name) ones) none
          ∙ sym (ap (λ (t : Option Transaction). map (λ (a : PlainPoint). a.name) (elim t as (λ c. List PlainPoint) [ None ↦ [] | Some t ↦ t.points ])) is);
    }

-- ---- what may have been committed
-- behind a refusal but a fault nothing has
none_changed : (r : Refusal) → (r ≡ refusal.Fault → ⊥) → may_have_changed (reply.Refused r) ≡ false
none_changed refusal.Fault not = absurd (not refl)
none_changed r not = refl

and_none : (b : Bool) → (b && false) ≡ false
and_none true = refl
and_none false = refl

pub none_committed : (c : Command) (r : Refusal) → (r ≡ refusal.Fault → ⊥) → may_have_committed c false (reply.Refused r) ≡ false
none_committed c r not = ap (λ (b : Bool). can_commit c false && b) (none_changed r not) ∙ and_none (can_commit c false)

-- outside of a transaction a command that changes a relation may commit
commits_alone : (c : Command) → is_managing c ≡ false → is_reading c ≡ false → can_commit c false ≡ true
commits_alone command.Commit works changes = refl
commits_alone c works changes = ap (λ (b : Bool). not (b || is_reading c)) works ∙ ap not changes

-- so behind one that has committed nothing no reply tells of a change
pub told_none : (c : Command) (r : Reply) → is_managing c ≡ false → is_reading c ≡ false → may_have_committed c false r ≡ false → may_have_changed r ≡ false
told_none c r works changes never = sym (ap (λ (b : Bool). b && may_have_changed r) (commits_alone c works changes)) ∙ never
