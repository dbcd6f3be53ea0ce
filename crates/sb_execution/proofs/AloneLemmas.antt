-- How a command ends in a transaction of its own.
use Rattle.std.proofs.Common.{◌≡◌, ⊎_elim, inl, inr, ℕ, ◌++◌, Bool, true, false, List, [], Option, None, Result, Ok, Err, IsErrOf, refl, sym, ap, ◌∙◌, subst}
use Rattle.std.proofs.lemmas.Bool.{false≢true}
use Rattle.sb_disk.specs.Disk.{Story}
use Rattle.sb_disk.specs.Moments.{LeavesOnly}
use Rattle.sb_disk.proofs.MomentLemmas.{and_then, weaker}
use Rattle.sb_images.specs.Images.{IsOldOrNew, Restores}
use Rattle.sb_log.specs.declared.geometry.Geometry.{Geometry}
use Rattle.sb_relation.specs.Db.{Db, Key}
use Rattle.sb_fold.specs.declared.refusal.Refusal.{Refusal}
use Rattle.sb_fold.specs.declared.refusal.Refusal.TheVariants as refusal
use Rattle.sb_fold.specs.Extensions.{Extensions}
use Rattle.sb_fold.specs.Finish.{finish}
use Rattle.sb_fold.specs.Outcome.{Going, Work, made, refuse, Leads, ◌>>=◌}
use Rattle.sb_fold.proofs.LeadsLemmas.{leads_on}
use Rattle.sb_cascade.specs.Runs.{EndsBy, OnFault, is_free, is_room}
use Rattle.sb_engine.specs.OpenRelation.{OpenRelation}
use Rattle.sb_engine.specs.Refusals.{HasRefusalCause}
use Rattle.sb_engine.proofs.RefusedLemmas.{of_fault}
use Rattle.sb_engine.specs.Working.{extensions_of}
use Rattle.sb_engine.specs.declared.running.Work.{Work as EngineWork}
use Rattle.sb_plain.specs.declared.command.Command.{Command}
use Rattle.sb_plain.specs.declared.reply.Reply.{Reply}
use Rattle.sb_plain.specs.declared.reply.Reply.TheVariants.{Refused}
use Rattle.sb_plain.specs.Licences.{may_want_memory, may_want_room}
use Rattle.sb_plain.specs.State.{downed}
use Rattle.sb_plain.specs.Step.{Steps}
use Rattle.sb_plain.specs.State.{State, Transaction as PlainTransaction, committed}
use Rattle.sb_plain.specs.Step.{Answer, answered, finished, freeing}
use Rattle.sb_registry.specs.Boxes.{Meanings}
use Rattle.sb_drive.specs.Spaces.{Wanted}
use Rattle.sb_map.specs.declared.place.Place.{Place}
use Rattle.sb_txn.specs.Parts.{Parts, parts}
use Rattle.sb_txn.specs.State.{State as StoreState}
use Rattle.sb_session.specs.Calls.{IsOnlyFault, KeepsWanted, Remains}
use Rattle.sb_session.specs.Commits.{FailsOn, Finishes, IsDone, LeavesEither, LeavesOldOrFinished, IsStoppedOn, Mounted, StaysOpen, StopsAt, finish_and_free, is_wanting}
use Rattle.sb_session.specs.Transactions.{IsAt, IsCommitted, IsPaidAt, MayStayOpen, Rests, WasBegun}
use Rattle.sb_session.proofs.EndLemmas.{Remains-behind}
use Rattle.sb_execution.specs.Serving.{HasPaid, IsPosedIn, may_have_committed}
use Rattle.sb_session.specs.Ends.{IsFree, IsLacking, IsStep, is_end}
use Rattle.sb_session.specs.Sessions.{HasFailed, IsNext, IsOpenFor, Lacks, LeavesNext, LeavesOldOrNext, WantsRoom}
use Rattle.sb_session.proofs.Carried.{end_of_given}
use Rattle.sb_session.proofs.CommitSteps.{committed-push, freed_leads, freed_refused, with_committed}
use Rattle.sb_session.proofs.OpenLemmas.{Outside, outside_at}
use Rattle.sb_session.proofs.RoomLemmas.{Lacks-there}
use Rattle.sb_execution.specs.Endings.{AnswersCommand, ComesAlone, EndsAlone, HasAnswered, IsAlone, IsLeftAlone, going_alone}
use Rattle.sb_execution.proofs.CallLemmas.{KeepsWanted-then, KeepsWanted-works, Remains-then, err_fault, has_failed, leaves_behind, not_both, ok_err, still_up}
use Rattle.sb_execution.proofs.EndLemmas.{Ends-by, Ends-stepped, ends_given, may_want_room-works, none_committed, told_none}
use Rattle.sb_execution.proofs.PagesLemmas.{room_finished, room_given, room_roomless}
use Rattle.sb_execution.proofs.ReplyLemmas.{answered_given, given_no_fault, is_free_reply, tells_answer}
use Rattle.sb_execution.proofs.StepsOf.{Steps-stopped_alone, Steps-worked_alone, with_open}

-- where room is wanting, something is
room_wanting : (r : Refusal) → is_room r ≡ true → is_wanting r ≡ true
room_wanting (refusal.Room room) is = refl
room_wanting r is = absurd (false≢true is)

-- why a command is refused: as the definitions say, or for a cause; and for want of room only where it may be wanting, by the numbers of these sizes;
-- and where its step comes so far
pub record Refuses {D : Type 0} (faults : D → ℕ) (m : Meanings) (c : Command) (x : State) (r : Refusal) (g : Geometry) : Type 0 where
  pub given : is_free r ≡ false → Steps (extensions_of m) x c (Refused r) (with_open x None)
  pub there : Mounted D
  pub cause : is_free r ≡ true → HasRefusalCause (FailsOn faults) r there
  pub sizes : is_room r ≡ true → there.store.pool.geometry ≡ g
  pub lacks : is_room r ≡ true → may_want_room x c ≡ true
  pub room : WantsRoom m g.pages x c (Refused r)

module _ {D : Type 0} (told : D → Option Story) (len faults : D → ℕ) (m : Meanings) (place : Place) (c : Command)
    (d f : D) (s u : StoreState) (up : s.book.down ≡ false) (ones others : List OpenRelation) where
  abbrev p : Parts
  p = parts told len d s

  abbrev q : Parts
  q = parts told len f u

  abbrev ext : Extensions
  ext = extensions_of m

  abbrev LeftBy : Wanted → State → Reply → State → Type 0
  LeftBy want x r t = IsLeftAlone m place want x c p q others r t

  abbrev Of : Wanted → State → Type 0
  Of want x = IsAlone m place want x p ones

  -- what is so of each state that has this work to do
  abbrev Each : (Wanted → State → Type 0) → Type 0
  Each P = (want : Wanted) (x : State) → Of want x → IsPosedIn m x c → P want x

  -- a crash left this where the disk failed
  abbrev Fallen : Type 0
  Fallen = Each (λ want x. LeavesOldOrNext m place.root want ext x c (downed x) p q)

  without : (want : Wanted) (x : State) → Of want x → Outside m place want (committed x) p x.transaction
  without want x alone = outside_at m place want (committed x) p x.transaction alone.of.stands

  -- a crash left what was wanted
  pub left_by : KeepsWanted p q → (want : Wanted) (x : State) → Of want x → LeavesOnly p.told q.told (Restores p.store.pool.geometry want)
  left_by still want x alone = let out = without want x alone in still.leaves.each want out.rests.has.now out.rests.has.stands.store

  failed_so : (r : Refusal) → Remains {T = Reply} told len faults d f s u (Err r) → r ≡ refusal.Fault → u.book.down ≡ true → (want : Wanted) (x : State) → Of want x
      → LeavesOldOrNext m place.root want ext x c (downed x) p q → IsFree (LeftBy want x (Refused r)) (HasFailed faults d f) x (downed x)
  failed_so r remains is on want x alone leaves = record {
    up = alone.of.up;
    cause = has_failed told len faults {T = Reply} d f s u (Err r) remains up on;
    stands = record {
      now = want;
      is = record { down = sym (ap is_end is); live = refl; spare = refl; stands = λ off. absurd (false≢true (sym off)) };
      opened = λ off. absurd (false≢true (sym off));
      leaves = leaves;
    };
  }

  -- ---- the disk failed
  pub EndsAlone-fault : (r : Refusal) → Remains {T = Reply} told len faults d f s u (Err r) → IsOnlyFault r u → KeepsWanted p q → EndsAlone told len faults m place c d f s u ones others (Err r)
  EndsAlone-fault r remains only still = record {
    ends = λ want x alone posed. Ends-by (LeftBy want x (Refused r)) (Lacks s.pool.geometry) (HasFailed faults d f) ext x c r
        (λ given. absurd (false≢true (sym given ∙ ap is_free only.is)))
        (λ room is. absurd (let e = only.is in cc))
        (λ is. absurd (let e = only.is in cc))
        (λ is. failed_so r remains is only.down want x alone (inl (left_by still want x alone)))
        (λ page is. absurd (let e = only.is in cc));
    room = λ want x alone posed. room_roomless m s.pool.geometry.pages x c r (ap is_room only.is);
    leaves = λ not. still;
    none = λ off. not_both u.book.down off only.down;
    fault = λ is. only.down;
    remains = remains;
  }

  -- ---- it was refused, and the pages are as they were, with what may stay open of them
  module _ (may : (x : State) → may_want_memory x c ≡ true) (r : Refusal) (remains : Remains {T = Reply} told len faults d f s u (Err r)) (faulted : OnFault r (u.book.down ≡ true))
      (still : may_have_committed c false (Refused r) ≡ false → KeepsWanted p q) (fallen : Fallen)
      (none : u.book.down ≡ false → u.book.actives ≡ [])
      (stays : (want : Wanted) → MayStayOpen m place.root s.pool.geometry.pages want ones → MayStayOpen m place.root u.pool.geometry.pages want others)
      (rests : u.book.down ≡ false → (want : Wanted) (x : State) → Of want x → Rests m place.root want (committed x) q)
      (refuses : Each (λ want x. Refuses faults m c x r s.pool.geometry)) where
    stays_up : (r ≡ refusal.Fault → ⊥) → u.book.down ≡ false
    stays_up not = still_up told len faults {T = Reply} d f s u (Err r) remains (λ is. absurd (not (err_fault {T = Reply} r is)))

    as_it_was : (want : Wanted) (x : State) → Of want x → IsPosedIn m x c → is_end r ≡ false → LeftBy want x (Refused r) x
    as_it_was want x alone posed not = record {
      now = want;
      is = record {
        down = alone.of.up ∙ sym not;
        live = refl;
        spare = refl;
        stands = λ on. subst (λ (a : Option PlainTransaction). IsOpenFor m place want (committed x) q None a) (sym (without want x alone).none)
            (rests (stays_up (λ is. false≢true (sym not ∙ ap is_end is))) want x alone);
      };
      opened = λ on. stays want alone.opened;
      leaves = inl (left_by (still (none_committed c r (λ is. false≢true (sym not ∙ ap is_end is)))) want x alone);
    }

    lacking : (want : Wanted) (x : State) → Of want x → IsPosedIn m x c → is_end r ≡ false → (Cause : Type 0) → Cause → IsLacking (LeftBy want x (Refused r)) Cause ext x c
    lacking want x alone posed not Cause cause = record { up = alone.of.up; cause = cause; after = x; left = inl refl; stands = as_it_was want x alone posed not }

    given_step : (want : Wanted) (x : State) → Of want x → IsPosedIn m x c → is_free r ≡ false → IsStep (LeftBy want x (Refused r)) ext x c (Refused r)
    given_step want x alone posed given = record {
      after = with_open x None;
      steps = (refuses want x alone posed).given given;
      stands = record {
        now = want;
        is = record {
          down = sym (end_of_given r given);
          live = refl;
          spare = refl;
          stands = λ on. rests (stays_up (λ is. false≢true (sym given ∙ ap is_free is))) want x alone;
        };
        opened = λ on. stays want alone.opened;
        leaves = inl (left_by (still (none_committed c r (λ is. false≢true (sym given ∙ ap is_free is)))) want x alone);
      };
    }

    pub EndsAlone-refused : EndsAlone told len faults m place c d f s u ones others (Err r)
    EndsAlone-refused = record {
      ends = λ want x alone posed. let why = refuses want x alone posed in Ends-by (LeftBy want x (Refused r)) (Lacks s.pool.geometry) (HasFailed faults d f) ext x c r
          (λ given. given_step want x alone posed given)
          (λ room is. lacking want x alone posed (ap is_end is) (Lacks s.pool.geometry room × (may_want_room x c ≡ true)) (
            Lacks-there faults s.pool.geometry why.there (why.sizes (ap is_room is)) room
                (subst (λ (r : Refusal). HasRefusalCause (FailsOn faults) r why.there) is (why.cause (ap is_free is))),
            why.lacks (ap is_room is),
          ))
          (λ is. lacking want x alone posed (ap is_end is) (may_want_memory x c ≡ true) (may x))
          (λ is. failed_so r remains is (of_fault r (u.book.down ≡ true) faulted is) want x alone (fallen want x alone posed))
          (λ page is. subst (λ (r : Refusal). HasRefusalCause (FailsOn faults) r why.there) is (why.cause (ap is_free is)));
      room = λ want x alone posed. (refuses want x alone posed).room;
      leaves = still;
      none = none;
      fault = λ is. let same : r ≡ refusal.Fault = cc in of_fault r (u.book.down ≡ true) faulted same;
      remains = remains;
    }

  -- ---- it went through
  pub EndsAlone-done : (r : Reply) → (r ≡ Refused refusal.Fault → ⊥) → Remains told len faults d f s u (Ok r) → (may_have_committed c false r ≡ false → KeepsWanted p q) → (u.book.down ≡ false → u.book.actives ≡ [])
      → Each (λ want x. (is_free_reply r ≡ false) × IsStep (LeftBy want x r) ext x c r) → EndsAlone told len faults m place c d f s u ones others (Ok r)
  EndsAlone-done r told_none remains leaves none steps = record {
    ends = λ want x alone posed. let to = steps want x alone posed in Ends-stepped (LeftBy want x r) (Lacks s.pool.geometry) (HasFailed faults d f) ext x c r to.0 to.1;
    room = λ want x alone posed. room_given m s.pool.geometry.pages x c r (steps want x alone posed).0;
    leaves = leaves;
    none = none;
    fault = λ is. absurd (told_none is);
    remains = remains;
  }

  -- a reading
  pub read_so : (r : Reply) (want : Wanted) (x : State) → Rests m place.root want (committed x) q → MayStayOpen m place.root u.pool.geometry.pages want others
      → LeavesOnly p.told q.told (Restores p.store.pool.geometry want) → is_free_reply r ≡ false
      → Steps ext x c r (with_open x None) → (is_free_reply r ≡ false) × IsStep (LeftBy want x r) ext x c r
  read_so r want x rests opened still given steps = (
    given,
    record {
      after = with_open x None;
      steps = steps;
      stands = record {
        now = want;
        is = record { down = sym (ends_given r given); live = refl; spare = refl; stands = λ on. rests };
        opened = λ on. opened;
        leaves = inl still;
      };
    },
  )

-- ---- the way of a transaction of its own
module _ {D : Type 0} (told : D → Option Story) (len faults : D → ℕ) (m : Meanings) (place : Place) (d e : D) (s t : StoreState) (tx : ℕ) (comes : ComesAlone told len faults m place d e s t tx) where
  -- the store was up before it
  pub was_up : s.book.down ≡ false
  was_up = by s.book.down refl
    where
      by : (b : Bool) → s.book.down ≡ b → s.book.down ≡ false
      by false off = off
      by true on = ok_err tt refusal.Fault (comes.first.down on).answer

  pub mid_up : comes.mid.store.book.down ≡ false
  mid_up = still_up told len faults {T = Unit {0}} d comes.mid.disk s comes.mid.store (Ok tt) comes.first (λ is. ok_err tt refusal.Fault is)

  -- what a crash leaves until a call behind it
  pub leaves_alone : {T : Type 0} (f : D) (u : StoreState) (r : Result T Refusal) → Remains told len faults e f t u r → KeepsWanted (parts told len e t) (parts told len f u)
      → KeepsWanted (parts told len d s) (parts told len f u)
  leaves_alone f u r remains leaves =
      KeepsWanted-then (parts told len d s) (parts told len comes.mid.disk comes.mid.store) (parts told len f u) comes.first.geometry comes.pages comes.leaves
      (leaves_behind told len faults tx comes.mid.disk e comes.mid.store t comes.led f u r remains leaves)

  pub leaves_so_far : KeepsWanted (parts told len d s) (parts told len e t)
  leaves_so_far =
      KeepsWanted-then (parts told len d s) (parts told len comes.mid.disk comes.mid.store) (parts told len e t) comes.first.geometry comes.pages comes.leaves
      (KeepsWanted-works told len faults tx comes.led.0 comes.mid.disk e comes.mid.store t comes.led.1)

  pub same_size : t.pool.geometry ≡ s.pool.geometry
  same_size = comes.led.1.geometry ∙ comes.first.geometry

  module _ (w : EngineWork) where
    pub remains_alone : {T U : Type 0} (f : D) (u : StoreState) (a : Result T Refusal) (b : Result U Refusal) → (IsErrOf a refusal.Fault → IsErrOf b refusal.Fault) → Remains told len faults e f t u a → Remains told len faults d f s u b
    remains_alone {T} {U} f u a b same remains =
        Remains-then told len faults {T = Unit {0}} {U = U} {V = U} d comes.mid.disk f s comes.mid.store u (Ok tt) b b mid_up (λ is. is) comes.first
        (Remains-behind told len faults m place tx comes.mid.disk e f comes.mid.store t u w comes.led {T = T} {U = U} a b same remains)

-- ---- the end of a command that was answered
module _ {D : Type 0} (told : D → Option Story) (len faults : D → ℕ) (m : Meanings) (place : Place) (c : Command)
    (d e : D) (s t : StoreState) (tx : ℕ) (w : EngineWork) (ones : List OpenRelation) (answer : Answer)
    (has : HasAnswered told len faults m place c d e s t tx w ones answer) where
  abbrev from : Parts
  from = parts told len d s

  abbrev here : Parts
  here = parts told len e t

  abbrev Begun : Wanted → State → Type 0
  Begun want x = IsAlone m place want x from ones

  none_in : (want : Wanted) (x : State) → Begun want x → x.transaction ≡ None
  none_in want x alone = (outside_at m place want (committed x) from x.transaction alone.of.stands).none

  -- what a crash left so far
  left_so_far : (want : Wanted) (x : State) → Begun want x → LeavesOnly (told d) (told e) (Restores s.pool.geometry want)
  left_so_far want x alone =
      let out = outside_at m place want (committed x) from x.transaction alone.of.stands in
      (leaves_so_far told len faults m place d e s t tx has.comes).leaves.each want out.rests.has.now out.rests.has.stands.store

  -- work and the work that finishes it
  leads_whole_way : (work : Work Answer) (g h k : Going) (ps qs : List Key) → Leads work g ps (made answer) h → Leads (finish_and_free (extensions_of m)) h qs (made tt) k
      → Leads (finished (extensions_of m) work) g (ps ++ qs) (made answer) k
  leads_whole_way work g h k ps qs one two =
      leads_on (λ (answer : Answer). finish (extensions_of m) >>= λ _. freeing answer) one (freed_leads (extensions_of m) answer h qs k two)

  leads_to_refusal : (work : Work Answer) (g h k : Going) (ps qs : List Key) (r : Refusal) → Leads work g ps (made answer) h → Leads (finish_and_free (extensions_of m)) h qs (refuse r) k
      → Leads (finished (extensions_of m) work) g (ps ++ qs) (refuse r) k
  leads_to_refusal work g h k ps qs r one two =
      leads_on (λ (answer : Answer). finish (extensions_of m) >>= λ _. freeing answer) one (freed_refused (extensions_of m) answer h qs k r two)

  module _ (f : D) (u : StoreState) where
    abbrev to : Parts
    to = parts told len f u

    -- a step that commits
    committed_step : (want : Wanted) (x : State) (alone : Begun want x) (posed : IsPosedIn m x c) (IsSo : Going → Parts → Type 0) (run : Finishes m (has.answers want x alone posed).run.after IsSo to)
        → Steps (extensions_of m) x c (answered answer run.after.used) (with_committed x run.after.db)
    committed_step want x alone posed IsSo run =
        let why = has.answers want x alone posed in
        Steps-worked_alone (extensions_of m) x c alone.of.up (none_in want x alone) why.work why.is (why.run.picks ++ run.picks) run.after answer why.passed
        (leads_whole_way why.work (going_alone x) why.run.after run.after why.run.picks run.picks why.run.leads run.leads)

    -- what a crash left since the commit began, beside what it left before
    leaves_next : (want : Wanted) (x : State) → Begun want x → (after next : State) → IsNext (extensions_of m) x c after next → (pages : ℕ → List ℕ)
        → IsCommitted m place.root t.pool.geometry.pages pages (committed next) → LeavesOnly (told e) (told f) (IsOldOrNew t.pool.geometry want pages)
        → LeavesNext m place.root want (extensions_of m) x c after from to
    leaves_next want x alone after next is pages commits leaves =
        let size : t.pool.geometry ≡ s.pool.geometry = same_size told len faults m place d e s t tx has.comes in
        record {
          next = next;
          is = is;
          pages = pages;
          commits = subst (λ (g : Geometry). IsCommitted m place.root g.pages pages (committed next)) size commits;
          leaves = and_then (told d) (told e) (told f) (IsOldOrNew s.pool.geometry want pages)
              (weaker (told d) (told e) (Restores s.pool.geometry want) (IsOldOrNew s.pool.geometry want pages) (λ image was. inl was)
              (left_so_far want x alone))
              (subst (λ (g : Geometry). LeavesOnly (told e) (told f) (IsOldOrNew g want pages)) size leaves);
        }

    -- the disk failed, and what a crash left may be what a step commits
    pub fallen_commit : ((want : Wanted) (g : Going) → IsAt m place want tx g here w → IsPaidAt g here → LeavesOldOrFinished m place.root want g here to)
        → (want : Wanted) (x : State) → Begun want x → IsPosedIn m x c → LeavesOldOrNext m place.root want (extensions_of m) x c (downed x) from to
    fallen_commit moments want x alone posed =
        let why : AnswersCommand m place want c x here tx w answer = has.answers want x alone posed in
        ⊎_elim
        (λ (old : LeavesOnly here.told to.told (Restores t.pool.geometry want)).
        inl (and_then (told d) (told e) (told f) (Restores s.pool.geometry want) (left_so_far want x alone)
        (subst (λ (g : Geometry). LeavesOnly (told e) (told f) (Restores g want)) (same_size told len faults m place d e s t tx has.comes) old)))
        (λ (run : Finishes m why.run.after (LeavesEither m place.root want here) to).
        inr (leaves_next want x alone (downed x) (with_committed x run.after.db)
        (inr (refl, record { reply = answered answer run.after.used; steps = committed_step want x alone posed (LeavesEither m place.root want here) run }))
        run.stands.pages
        (subst (λ (db : Db). IsCommitted m place.root t.pool.geometry.pages run.stands.pages db) (sym (committed-push x run.after.db)) run.stands.committed)
        run.stands.leaves))
        (moments want why.run.after why.run.stands.0 why.run.stands.1)

    -- ---- it was committed
    pub EndsAlone-committed : {K : Type 0} (held : K) (picks : List Key) (opened : List OpenRelation) → Remains told len faults e f t u (Ok held) → (u.book.down ≡ false → u.book.actives ≡ [])
        → ((want : Wanted) (g : Going) → IsAt m place want tx g here w → IsPaidAt g here → Finishes m g (IsDone m place.root want picks opened here) to)
        → EndsAlone told len faults m place c d f s u ones opened (Ok (answered answer picks))
    EndsAlone-committed {K} held picks opened remains none done =
        EndsAlone-done told len faults m place c d f s u (was_up told len faults m place d e s t tx has.comes) ones opened (answered answer picks)
        (given_no_fault (answered answer picks) (answered_given answer picks))
        (remains_alone told len faults m place d e s t tx has.comes w {T = K} {U = Reply} f u (Ok held) (Ok (answered answer picks)) (λ is. ok_err held refusal.Fault is) remains)
        (λ not. absurd (false≢true (sym (told_none c (answered answer picks) has.works has.changes not) ∙ tells_answer answer picks)))
        none
        (λ want x alone posed.
        let why = has.answers want x alone posed in
        let run = done want why.run.after why.run.stands.0 why.run.stands.1 in
        let given = answered_given answer picks in (
          given,
          record {
            after = with_committed x run.after.db;
            steps = subst (λ (used : List Key). Steps (extensions_of m) x c (answered answer used) (with_committed x run.after.db)) (sym run.stands.picked)
                (committed_step want x alone posed (IsDone m place.root want picks opened here) run);
            stands = record {
              now = run.stands.now;
              is = record {
                down = sym (ends_given (answered answer picks) given);
                live = refl;
                spare = refl;
                stands = λ on. subst (λ (db : Db). Rests m place.root run.stands.now db to) (sym (committed-push x run.after.db)) run.stands.rests;
              };
              opened = λ on. run.stands.opened;
              leaves = inr (leaves_next want x alone (with_committed x run.after.db) (with_committed x run.after.db) (inl refl) run.stands.now
                  (subst (λ (g : Geometry). IsCommitted m place.root g.pages run.stands.now (committed (with_committed x run.after.db))) remains.geometry
                  (subst (λ (db : Db). IsCommitted m place.root u.pool.geometry.pages run.stands.now db) (sym (committed-push x run.after.db)) run.stands.rests.committed))
                  run.stands.leaves);
            };
          },
        ))

  -- ---- it wasn't
  module _ (r : Refusal) (new : Mounted D)
      (stops : (want : Wanted) (g : Going) → IsAt m place want tx g here w → IsPaidAt g here → StopsAt told len faults m tx g r (record { disk = e; store = t }) new) where
    stop_at : (want : Wanted) (x : State) (alone : Begun want x) (posed : IsPosedIn m x c)
        → StopsAt told len faults m tx (has.answers want x alone posed).run.after r (record { disk = e; store = t }) new
    stop_at want x alone posed = let run = (has.answers want x alone posed).run in stops want run.after run.stands.0 run.stands.1

    size : (want : Wanted) (x : State) (alone : Begun want x) (posed : IsPosedIn m x c) → is_room r ≡ true → (stop_at want x alone posed).there.store.pool.geometry ≡ s.pool.geometry
    size want x alone posed room =
        ((stop_at want x alone posed).led (λ is. false≢true (sym (ap is_room is) ∙ room))).1.geometry ∙ same_size told len faults m place d e s t tx has.comes

    pub refuses_commit : (want : Wanted) (x : State) → Begun want x → IsPosedIn m x c → Refuses faults m c x r s.pool.geometry
    refuses_commit want x alone posed =
        let why = has.answers want x alone posed in
        let stop = stop_at want x alone posed in
        record {
          given = λ given.
              let run : EndsBy (IsStoppedOn faults m) false (finish_and_free (extensions_of m)) why.run.after r stop.there =
              subst (λ (b : Bool). EndsBy (IsStoppedOn faults m) b (finish_and_free (extensions_of m)) why.run.after r stop.there) given stop.stops in
              Steps-stopped_alone (extensions_of m) x c alone.of.up (none_in want x alone) why.work why.is (why.run.picks ++ run.picks) run.after r why.passed
              (leads_to_refusal why.work (going_alone x) why.run.after run.after why.run.picks run.picks r why.run.leads run.leads);
          there = stop.there;
          cause = λ free.
              let broken : EndsBy (IsStoppedOn faults m) true (finish_and_free (extensions_of m)) why.run.after r stop.there =
              subst (λ (b : Bool). EndsBy (IsStoppedOn faults m) b (finish_and_free (extensions_of m)) why.run.after r stop.there) free stop.stops in
              broken.stopped.cause;
          sizes = λ room. size want x alone posed room;
          lacks = λ room. may_want_room-works (extensions_of m) x c why.work why.is;
          room = room_finished faults m x c alone.of.up why.work why.is why.passed stop.there r (none_in want x alone) s.pool.geometry.pages
              (λ room. ap (λ (g : Geometry). g.pages) (size want x alone posed room)) (λ room. stop.up (room_wanting r room)) (HasPaid m place want tx w) answer here why.run stop.stops;
        }

  -- ---- the transaction went on, and was aborted then
  module _ {K : Type 0} (g f : D) (v u : StoreState) (now : EngineWork) (r : Refusal) (stays : StaysOpen tx here (parts told len g v) w now) (kept : Remains {T = K} told len faults e g t v (Err r)) where
    abbrev between : Parts
    between = parts told len g v

    pub moments_abort : KeepsWanted between (parts told len f u) → KeepsWanted from (parts told len f u)
    moments_abort keeps = record {
      leaves = record {
        each = λ want now store.
            let turns = (has.comes.led.1.makes has.up).pages want now (has.comes.pages want now store) in
            let on = stays.wanted want turns.pages turns.store in
            let size = same_size told len faults m place d e s t tx has.comes in
            and_then (told d) (told e) (told f) (Restores s.pool.geometry want) ((leaves_so_far told len faults m place d e s t tx has.comes).leaves.each want now store)
            (and_then (told e) (told g) (told f) (Restores s.pool.geometry want)
            (subst (λ (a : Geometry). LeavesOnly (told e) (told g) (Restores a want)) size (stays.leaves.each want turns.pages turns.store))
            (subst (λ (a : Geometry). LeavesOnly (told g) (told f) (Restores a want)) (kept.geometry ∙ size) (keeps.leaves.each want on.0 on.1)));
      };
      stays = λ up want now store.
          let turns = (has.comes.led.1.makes has.up).pages want now (has.comes.pages want now store) in
          let on = stays.wanted want turns.pages turns.store in
          keeps.stays up want on.0 on.1;
    }

    pub remains_abort : {T : Type 0} (a : Result T Refusal) (b : Result Reply Refusal) → (IsErrOf a refusal.Fault → IsErrOf b refusal.Fault) → Remains told len faults g f v u a → Remains told len faults d f s u b
    remains_abort {T} a b same remains =
        remains_alone told len faults m place d e s t tx has.comes w {T = Reply} {U = Reply} f u b b (λ is. is)
        (Remains-then told len faults {T = K} {U = T} {V = Reply} e g f t v u (Err r) a b stays.up same kept remains)

    pub rests_abort : ((m : Meanings) (root : ℕ) (want : Wanted) (db : Db) → WasBegun m root want db tx between → Rests m root want db (parts told len f u)) → t.book.down ≡ false
        → (want : Wanted) (x : State) → Begun want x → Rests m place.root want (committed x) (parts told len f u)
    rests_abort rests up want x alone = rests m place.root want (committed x) (stays.begun m place.root want (committed x) (has.comes.begun up want x alone.of))
