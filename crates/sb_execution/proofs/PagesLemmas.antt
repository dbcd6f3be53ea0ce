-- Want of room to a command that needs a licence for it: the points that its step reaches, and what it spends.
use Rattle.std.proofs.Common.{◌≡◌, ℕ, Bool, true, false, List, [], ◌++◌, Some, None, refl, sym, ap, ◌∙◌, subst, append-nil, arith}
use Rattle.std.proofs.lemmas.Bool.{false≢true}
use Rattle.std.specs.List.{Any}
use Rattle.sb_relation.specs.Db.{Key}
use Rattle.sb_fold.specs.declared.refusal.Refusal.{Refusal}
use Rattle.sb_fold.specs.declared.refusal.Refusal.TheVariants as refusal
use Rattle.sb_fold.specs.declared.refusal.Room.{Room}
use Rattle.sb_fold.specs.declared.refusal.Room.TheVariants.{Data, Gates, Log}
use Rattle.sb_fold.specs.Extensions.{Extensions}
use Rattle.sb_fold.specs.Finish.{finish}
use Rattle.sb_fold.specs.Outcome.{Gives, Going, NoStep, Outcome, Stopped, Trail, Work, trail_of, with_picks, ◌>>=◌}
use Rattle.sb_fold.proofs.LeadsLemmas.{leads_here, leads_on}
use Rattle.sb_cascade.specs.Runs.{BrokenFrom, EndsBy, GoesOn, MadeFrom, StopsFrom, is_free, is_room}
use Rattle.sb_cascade.proofs.Forward.{IsForward, forward_finish, forward_next}
use Rattle.sb_cascade.proofs.Stopping.{stops_next, stops_then}
use Rattle.sb_plain.specs.declared.command.Command.{Command}
use Rattle.sb_plain.specs.declared.reply.Reply.{Reply}
use Rattle.sb_plain.specs.declared.reply.Reply.TheVariants.{Refused}
use Rattle.sb_plain.specs.Licences.{may_want_room}
use Rattle.sb_plain.specs.Refusing.{refused}
use Rattle.sb_plain.specs.State.{State, Transaction, kept, paid}
use Rattle.sb_plain.specs.Step.{Answer, Turn, commit_of, finished, freeing, step, turn_of, work_of}
use Rattle.sb_registry.specs.Boxes.{Meanings}
use Rattle.sb_engine.specs.Working.{IsPaid, IsShortOf, extensions_of}
use Rattle.sb_space.specs.Spent.{HasSpent}
use Rattle.sb_space.specs.Table.{table_len}
use Rattle.sb_txn.specs.State.{State as StoreState}
use Rattle.sb_engine.proofs.LackingLemmas.{any_along}
use Rattle.sb_session.specs.Commits.{IsStoppedOn, Mounted, finish_and_free}
use Rattle.sb_session.specs.Sessions.{WantsRoom}
use Rattle.sb_session.specs.Ends.{Ends}
use Rattle.sb_session.proofs.CommitSteps.{freed_refused, freed_trail, going_on}
use Rattle.sb_session.proofs.OpenLemmas.{paid_more}
use Rattle.sb_session.proofs.RoomLemmas.{gates_spent, log_spent}
use Rattle.sb_execution.specs.Endings.{going_alone}
use Rattle.sb_execution.proofs.ReplyLemmas.{is_free_reply}
use Rattle.sb_execution.proofs.StepsOf.{alone, by_fields, by_none, whole, whole_alone, within}

-- ---- replies that say nothing of room
-- where no room may be wanting
pub room_unwanted : (IsSo : State → Type 0) (Lack : Room → Type 0) (Failed : Type 0) (ext : Extensions) (m : Meanings) (pages : ℕ) (s : State) (c : Command) (r : Reply) → may_want_room s c ≡ false
    → Ends IsSo Lack Failed ext s c r → WantsRoom m pages s c r
room_unwanted IsSo Lack Failed ext m pages s c (Refused (refusal.Room room)) none ends = absurd (false≢true (sym none ∙ ends.cause.1))
room_unwanted IsSo Lack Failed ext m pages s c r none ends = tt

pub room_given : (m : Meanings) (pages : ℕ) (s : State) (c : Command) (r : Reply) → is_free_reply r ≡ false → WantsRoom m pages s c r
room_given m pages s c (Refused (refusal.Room room)) given = absurd (false≢true (sym given))
room_given m pages s c r given = tt

pub room_roomless : (m : Meanings) (pages : ℕ) (s : State) (c : Command) (r : Refusal) → is_room r ≡ false → WantsRoom m pages s c (Refused r)
room_roomless m pages s c (refusal.Room room) none = absurd (false≢true (sym none))
room_roomless m pages s c r none = tt

-- ---- the trail of a turn is that of its work
abbrev pub trail_by : Turn → Trail
trail_by turn = record { spent = turn.spent; points = turn.points }

turn_trail : (leave : Going → State) (otherwise : State) (o : Outcome Answer) → trail_by (turn_of leave otherwise o) ≡ trail_of o
turn_trail leave otherwise (Gives answer going) = refl
turn_trail leave otherwise (Stopped r trail) = refl
turn_trail leave otherwise (NoStep trail) = refl

-- With some picks the step reaches what the trail did, and spends as much at least.
pub record StepsPast (ext : Extensions) (s : State) (c : Command) (trail : Trail) : Type 0 where
  pub picks : List Key
  pub goes : GoesOn trail (trail_by (step ext s c picks))

steps_past : {D A : Type 0} (faults : D → ℕ) (m : Meanings) (s : State) (c : Command) (w : Work A) (g : Going) (there : Mounted D) (r : Refusal)
    → ((picks : List Key) → trail_by (step (extensions_of m) s c picks) ≡ trail_of (w (with_picks g picks)))
    → (broken : BrokenFrom (IsStoppedOn faults m) w g r there) → StepsPast (extensions_of m) s c broken.trail
steps_past faults m s c w g there r same broken =
    let picks = broken.picks ++ [] in
    record { picks = picks; goes = subst (λ (t : Trail). GoesOn broken.trail t) (sym (same picks)) (broken.comes []) }

-- so it pays for what was paid for there
pub paid_past : (ext : Extensions) (s : State) (c : Command) (trail : Trail) (past : StepsPast ext s c trail) (x : StoreState) → IsPaid HasSpent 0 trail.spent x
    → IsPaid HasSpent 0 (step ext s c past.picks).spent x
paid_past ext s c trail past x is = paid_more HasSpent trail.spent (step ext s c past.picks).spent x past.goes.spent is

-- ---- want of room
-- where the store that lacks it is up, and the work had come so far when it was stopped
wants_room : {D A : Type 0} (faults : D → ℕ) (m : Meanings) (pages : ℕ) (s : State) (c : Command) (w : Work A) (g : Going) (there : Mounted D) (r : Refusal)
    → ((picks : List Key) → trail_by (step (extensions_of m) s c picks) ≡ trail_of (w (with_picks g picks)))
    → StopsFrom (IsStoppedOn faults m) w g r there → (is_room r ≡ true → there.store.pool.geometry.pages ≡ pages) → (is_room r ≡ true → there.store.book.down ≡ false)
    → WantsRoom m pages s c (Refused r)
wants_room faults m pages s c w g there (refusal.Room (Data used total)) same stop size up =
    let past = steps_past faults m s c w g there (refusal.Room (Data used total)) same stop in
    let short = IsShortOf total (table_len pages) (extensions_of m) in
    let any : Any short stop.trail.points = subst (λ n. Any (IsShortOf total (table_len n) (extensions_of m)) stop.trail.points) (size refl) stop.stopped.licensed in
    (past.picks, any_along short stop.trail (trail_by (step (extensions_of m) s c past.picks)) past.goes any)
wants_room faults m pages s c w g there (refusal.Room (Log used more total)) same stop size up =
    let past = steps_past faults m s c w g there (refusal.Room (Log used more total)) same stop in (
      past.picks,
      log_spent faults there used more total (step (extensions_of m) s c past.picks).spent stop.stopped.cause (up refl)
          (paid_past (extensions_of m) s c stop.trail past there.store stop.stopped.paid),
    )
wants_room faults m pages s c w g there (refusal.Room (Gates used total)) same stop size up =
    let past = steps_past faults m s c w g there (refusal.Room (Gates used total)) same stop in (
      past.picks,
      gates_spent faults there used total (step (extensions_of m) s c past.picks).spent stop.stopped.cause (up refl)
          (paid_past (extensions_of m) s c stop.trail past there.store stop.stopped.paid),
    )
wants_room faults m pages s c w g there r same stop size up = tt

-- ---- what waits is finished, and the pages of what went are given back
-- the same work with an answer is stopped so too
stops_freeing : {S : Type 0} (Stops : Refusal → Trail → S → Type 0) (ext : Extensions) (answer : Answer) (g : Going) (r : Refusal) (new : S) → StopsFrom Stops (finish_and_free ext) g r new
    → StopsFrom Stops (finish ext >>= λ _. freeing answer) g r new
stops_freeing Stops ext answer g r new stops = by (is_free r) stops
  where
    by : (free : Bool) → EndsBy Stops free (finish_and_free ext) g r new → EndsBy Stops free (finish ext >>= λ _. freeing answer) g r new
    by true broken = record {
      picks = broken.picks;
      trail = broken.trail;
      comes = λ more. subst (λ (t : Trail). GoesOn broken.trail t) (sym (freed_trail ext answer (with_picks g (broken.picks ++ more)))) (broken.comes more);
      stopped = broken.stopped;
    }
    by false gave = record {
      picks = gave.picks;
      after = gave.after;
      leads = freed_refused ext answer g gave.picks gave.after r gave.leads;
      stopped = gave.stopped;
    }

-- a commit that frees reaches no point more
forward_freeing : (answer : Answer) → IsForward (freeing answer)
forward_freeing answer = record { goes = λ g. record { points = []; more = sym (append-nil g.trail.points); spent = omega arith } }

module _ {D : Type 0} (faults : D → ℕ) (m : Meanings) (s : State) (c : Command) (up : s.down ≡ false)
    (work : Work Answer) (is : work_of (extensions_of m) c ≡ Some work) (passed : refused (extensions_of m) s c ≡ None) (there : Mounted D) (r : Refusal) where
  -- ---- in an open transaction
  module _ (t : Transaction) (inside : s.transaction ≡ Some t) where
    trail_inside : (picks : List Key) → trail_by (step (extensions_of m) s c picks) ≡ trail_of (work (with_picks (going_on t) picks))
    trail_inside picks =
        by_fields (extensions_of m) s c up t inside
        (λ (s : State). refused (extensions_of m) s c ≡ None → trail_by (step (extensions_of m) s c picks) ≡ trail_of (work (with_picks (going_on t) picks)))
        (λ none.
        let here : State = within (extensions_of m) s c up t inside in
        ap trail_by (whole (extensions_of m) s c up t inside work is picks (going_on t) none) ∙ turn_trail (kept (paid here) t.points) (paid here) (work (with_picks (going_on t) picks)))
        passed

    pub past_inside : (broken : BrokenFrom (IsStoppedOn faults m) work (going_on t) r there) → StepsPast (extensions_of m) s c broken.trail
    past_inside broken = steps_past faults m s c work (going_on t) there r trail_inside broken

    pub room_inside : (pages : ℕ) → (is_room r ≡ true → there.store.pool.geometry.pages ≡ pages) → (is_room r ≡ true → there.store.book.down ≡ false)
        → StopsFrom (IsStoppedOn faults m) work (going_on t) r there → WantsRoom m pages s c (Refused r)
    room_inside pages size still stops = wants_room faults m pages s c work (going_on t) there r trail_inside stops size still

  -- ---- in a transaction of its own
  module _ (outside : s.transaction ≡ None) (pages : ℕ) (size : is_room r ≡ true → there.store.pool.geometry.pages ≡ pages) (still : is_room r ≡ true → there.store.book.down ≡ false) where
    trail_alone : (picks : List Key) → trail_by (step (extensions_of m) s c picks) ≡ trail_of (finished (extensions_of m) work (with_picks (going_alone s) picks))
    trail_alone picks =
        by_none (extensions_of m) s c up outside
        (λ (s : State). refused (extensions_of m) s c ≡ None → trail_by (step (extensions_of m) s c picks) ≡ trail_of (finished (extensions_of m) work (with_picks (going_alone s) picks)))
        (λ none.
        let here : State = alone (extensions_of m) s c up outside in
        ap trail_by (whole_alone (extensions_of m) s c up outside work is picks (going_alone s) none)
        ∙ turn_trail (commit_of here) here (finished (extensions_of m) work (with_picks (going_alone s) picks)))
        passed

    abbrev rest : Answer → Work Answer
    rest answer = finish (extensions_of m) >>= λ _. freeing answer

    -- its work was stopped
    pub room_worked : StopsFrom (IsStoppedOn faults m) work (going_alone s) r there → WantsRoom m pages s c (Refused r)
    room_worked stops =
        wants_room faults m pages s c (finished (extensions_of m) work) (going_alone s) there r trail_alone
        (stops_next (IsStoppedOn faults m) work r there (going_alone s) rest
        (λ answer. forward_next (finish (extensions_of m)) (λ _. freeing answer) (forward_finish (extensions_of m)) (λ _. forward_freeing answer)) stops) size still

    -- it went through, and what waits was stopped, or what frees then
    pub room_finished : {N : Type 0} (IsSo : Going → N → Type 0) (answer : Answer) (mid : N) (run : MadeFrom IsSo work (going_alone s) answer mid)
        → StopsFrom (IsStoppedOn faults m) (finish_and_free (extensions_of m)) run.after r there → WantsRoom m pages s c (Refused r)
    room_finished IsSo answer mid run stops =
        wants_room faults m pages s c (finished (extensions_of m) work) (going_alone s) there r trail_alone
        (stops_then (IsStoppedOn faults m) (rest answer) r there
        {M = Unit {0}} {Stands = λ h u. run.after ≡ h} {mid = tt} (finished (extensions_of m) work)
        (record { picks = run.picks ++ []; after = run.after; leads = leads_on rest run.leads (leads_here (rest answer) run.after); stands = refl })
        (λ h same. subst (λ (h : Going). StopsFrom (IsStoppedOn faults m) (rest answer) h r there) same
        (stops_freeing (IsStoppedOn faults m) (extensions_of m) answer run.after r there stops))) size still
