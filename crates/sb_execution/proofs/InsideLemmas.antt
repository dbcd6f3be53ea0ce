-- How a command ends in an open transaction.
use Rattle.std.proofs.Common.{◌≡◌, ℕ, ◌+◌, true, false, List, Option, Some, Ok, Err, refl, sym, ap, ◌∙◌, subst, arith}
use Rattle.std.proofs.lemmas.Bool.{false≢true}
use Rattle.sb_disk.specs.Disk.{Story}
use Rattle.sb_log.specs.declared.geometry.Geometry.{Geometry}
use Rattle.sb_relation.specs.Db.{Key}
use Rattle.sb_fold.specs.declared.refusal.Refusal.{Refusal}
use Rattle.sb_fold.specs.declared.refusal.Refusal.TheVariants as refusal
use Rattle.sb_fold.specs.Extensions.{Extensions}
use Rattle.sb_fold.specs.Outcome.{Going}
use Rattle.sb_cascade.specs.Runs.{MadeFrom, OnFault, is_free, is_room}
use Rattle.sb_engine.specs.Refusals.{HasRefusalCause}
use Rattle.sb_engine.specs.Working.{IsPaid, extensions_of}
use Rattle.sb_engine.proofs.RefusedLemmas.{of_fault}
use Rattle.sb_engine.specs.declared.running.Work.{Work as EngineWork}
use Rattle.sb_plain.specs.declared.command.Command.{Command}
use Rattle.sb_plain.specs.declared.reply.Reply.{Reply}
use Rattle.sb_plain.specs.declared.reply.Reply.TheVariants.{Refused}
use Rattle.sb_plain.specs.Licences.{may_want_memory, may_want_room}
use Rattle.sb_plain.specs.Step.{Steps}
use Rattle.sb_plain.specs.State.{State, Transaction as PlainTransaction, committed, view}
use Rattle.sb_plain.specs.Step.{answered, work_of}
use Rattle.sb_registry.specs.Boxes.{Meanings}
use Rattle.sb_drive.specs.Spaces.{Wanted}
use Rattle.sb_map.specs.declared.place.Place.{Place}
use Rattle.sb_space.specs.Spent.{HasSpent}
use Rattle.sb_txn.specs.Parts.{Parts, parts}
use Rattle.sb_txn.specs.State.{State as StoreState}
use Rattle.sb_session.specs.Calls.{IsOnlyFault, KeepsWanted, Remains}
use Rattle.sb_session.specs.Commits.{FailsOn, Mounted}
use Rattle.sb_session.specs.Transactions.{IsAt, unused}
use Rattle.sb_execution.specs.Serving.{HasPaid, IsPosedIn, IsServed, IsUnservedOn, is_managing}
use Rattle.sb_statements.specs.Statements.{answer_of}
use Rattle.sb_session.specs.declared.session.Open.{Open}
use Rattle.sb_session.specs.Ends.{Ends, IsLacking, IsStep, is_end}
use Rattle.sb_session.specs.Sessions.{CanGoOn, HasFailed, IsInside, Lacks, going_in}
use Rattle.sb_session.proofs.Carried.{end_of_given}
use Rattle.sb_session.proofs.CommitSteps.{going_on}
use Rattle.sb_session.proofs.OpenLemmas.{Inside, IsAt-same, inside_at, paid_more}
use Rattle.sb_session.proofs.RoomLemmas.{Lacks-there}
use Rattle.sb_execution.specs.declared.serving.Served.{Served}
use Rattle.sb_execution.specs.declared.serving.Served.TheVariants as served
use Rattle.sb_execution.specs.Endings.{EndsInside, IsLeft, IsOf, IsReplied}
use Rattle.sb_execution.proofs.CallLemmas.{has_failed, not_both}
use Rattle.sb_execution.proofs.EndLemmas.{Ends-by, Ends-stepped, at_some, ends_given, may_want_memory-works, unserved_cause, unserved_inside, unserved_left, unserved_room, unserved_wants_inside, work_there}
use Rattle.sb_execution.proofs.PagesLemmas.{room_given, room_roomless}
use Rattle.sb_execution.proofs.ReplyLemmas.{answered_given, is_free_reply, read_given}
use Rattle.sb_execution.proofs.StandingLemmas.{CanGoOn-stays, IsAt-taken, IsInside-stays, IsUsable-taken, Stays, Stays-beside, Stays-then}
use Rattle.sb_execution.proofs.StepsOf.{Steps-read_inside, Steps-worked_inside, with_open, with_spent_in, worked}

-- ---- work that was carried out
-- a step with this reply leads to a state with this transaction, and work has come there, which paid for its changes
pub record Reaches (m : Meanings) (place : Place) (want : Wanted) (tx : ℕ) (c : Command) (x : State) (t : PlainTransaction) (q : Parts) (w : EngineWork) (r : Reply) : Type 0 where
  pub of : PlainTransaction
  pub steps : Steps (extensions_of m) x c r (with_open x (Some of))
  pub points : of.points ≡ t.points
  pub at : IsAt m place want tx (going_in of) q w
  pub paid : IsPaid HasSpent 0 (of.spent + 1) q.store
  pub given : is_free_reply r ≡ false

module _ (m : Meanings) (place : Place) (want : Wanted) (tx : ℕ) (c : Command) (works : is_managing c ≡ false) (x : State) (up : x.down ≡ false) (t : PlainTransaction) (inside : x.transaction ≡ Some t)
    (q : Parts) (v w : EngineWork) (r : Reply) where
  abbrev ext : Extensions
  ext = extensions_of m

  abbrev Comes : Going → Parts → Type 0
  Comes = HasPaid m place want tx v

  pub reaches : (x' : Served) → IsServed Comes m x c (going_on t) x' q → IsReplied x' v w r → Reaches m place want tx c x t q w r
  reaches (served.Read reply) done replies = record {
    of = with_spent_in (t.spent + 1) t;
    steps = subst (λ (a : Reply). Steps ext x c a (with_open x (Some (with_spent_in (t.spent + 1) t)))) (sym replies.0) (Steps-read_inside ext x c up t inside reply done.0 done.1);
    points = refl;
    at = subst (λ (w : EngineWork). IsAt m place want tx (going_on t) q w) (sym replies.1) done.2.0;
    paid = paid_more HasSpent (t.spent + 1) (t.spent + 1 + 1) q.store (omega arith) done.2.1;
    given = ap is_free_reply replies.0 ∙ read_given ext (view x) c reply done.1;
  }
  reaches (served.Worked answer) done replies =
      let there = work_there ext (view x) c works done.1 in
      let run : MadeFrom Comes there.0 (going_on t) (answer_of answer) q =
      at_some (work_of ext c) there.0 (λ work. MadeFrom Comes work (going_on t) (answer_of answer) q) there.1 done.2 in
      record {
        of = worked t run.after;
        steps = subst (λ (a : Reply). Steps ext x c a (with_open x (Some (worked t run.after)))) (sym (replies.0 ∙ ap (λ (ks : List Key). answered (answer_of answer) ks) run.stands.0.picked))
            (Steps-worked_inside ext x c up t inside there.0 there.1 run.picks run.after (answer_of answer) done.0 run.leads);
        points = refl;
        at = IsAt-same m place want tx (unused run.after) (going_in (worked t run.after)) q w refl refl refl refl (IsAt-taken m place want tx run.after q v w replies.1 run.stands.0);
        paid = paid_more HasSpent run.after.trail.spent (run.after.trail.spent + 1) q.store (omega arith) run.stands.1;
        given = ap is_free_reply replies.0 ∙ answered_given (answer_of answer) v.picks.items;
      }

-- what stood still stands
pub Stays-replied : (m : Meanings) (place : Place) (tx : ℕ) (p q : Parts) (u v w : EngineWork) (r : Reply) (x : Served) → IsReplied x v w r → Stays m place tx p q u v → Stays m place tx p q u w
Stays-replied m place tx p q u v w r (served.Read reply) replies stays = subst (λ (w : EngineWork). Stays m place tx p q u w) (sym replies.1) stays
Stays-replied m place tx p q u v w r (served.Worked answer) replies stays =
    Stays-then m place tx p q q u v w stays (Stays-beside m place tx q v w replies.1.queue replies.1.gone (IsUsable-taken m place tx q v w replies.1 stays.usable))

module _ {D : Type 0} (told : D → Option Story) (len faults : D → ℕ) (m : Meanings) (place : Place) (c : Command) (works : is_managing c ≡ false)
    (d f : D) (s u : StoreState) (o now : Open) (up : s.book.down ≡ false) (leaves : KeepsWanted (parts told len d s) (parts told len f u)) where
  abbrev p : Parts
  p = parts told len d s

  abbrev q : Parts
  q = parts told len f u

  abbrev LeftBy : Wanted → State → Reply → State → Type 0
  LeftBy want x r t = IsLeft m place want x q (Some now) r t

  -- ---- the disk failed
  pub EndsInside-fault : (r : Refusal) → Remains {T = Reply} told len faults d f s u (Err r) → IsOnlyFault r u → EndsInside told len faults m place c d f s u o now (Err r)
  EndsInside-fault r remains only = record {
    ends = λ want x of posed.
        subst (λ (r : Refusal). Ends (LeftBy want x (Refused r)) (Lacks s.pool.geometry) (HasFailed faults d f) (extensions_of m) x c (Refused r)) (sym only.is) (record {
          up = of.up;
          cause = has_failed told len faults d f s u (Err r) remains up only.down;
          stands = record { down = refl; live = refl; spare = refl; stands = λ on. absurd (false≢true (sym on)) };
        });
    room = λ want x of posed. room_roomless m s.pool.geometry.pages x c r (ap is_room only.is);
    leaves = leaves;
    goes = λ not. absurd (false≢true (sym not ∙ ap is_end only.is));
    fault = λ is. only.down;
    remains = remains;
  }

  module _ (number : now.transaction.tx.store.number ≡ o.transaction.tx.store.number) (listed : now.points.items ≡ o.points.items)
      (stays : Stays m place o.transaction.tx.store.number p q o.transaction.work now.transaction.work) (goes : CanGoOn m place p (Some o)) where
    abbrev tx : ℕ
    tx = o.transaction.tx.store.number

    abbrev within : (want : Wanted) (x : State) → IsOf m place want x p (Some o) → Inside m place want (committed x) p o x.transaction
    within want x of = inside_at m place want (committed x) p o x.transaction of.stands

    -- ---- it went through
    pub EndsInside-done : (r : Reply) → (r ≡ Refused refusal.Fault → ⊥) → Remains told len faults d f s u (Ok r)
        → ((want : Wanted) (x : State) (of : IsOf m place want x p (Some o)) → IsPosedIn m x c → Reaches m place want tx c x (within want x of).of q now.transaction.work r)
        → EndsInside told len faults m place c d f s u o now (Ok r)
    EndsInside-done r told_none remains reaches = record {
      ends = λ want x of posed.
          let to = reaches want x of posed in
          let here = within want x of in
          Ends-stepped (LeftBy want x r) (Lacks s.pool.geometry) (HasFailed faults d f) (extensions_of m) x c r to.given (record {
            after = with_open x (Some to.of);
            steps = to.steps;
            stands = record {
              down = sym (ends_given r to.given);
              live = refl;
              spare = refl;
              stands = λ on. IsInside-stays m place p q o now number listed stays want (committed x) here.of to.of to.points here.inside to.at to.paid;
            };
          });
      room = λ want x of posed. room_given m s.pool.geometry.pages x c r (reaches want x of posed).given;
      leaves = leaves;
      goes = λ not. CanGoOn-stays m place p q o now number listed stays goes;
      fault = λ is. absurd (told_none is);
      remains = remains;
    }

    -- ---- it was refused, and the work is back, with no more spent
    module _ (r : Refusal) (remains : Remains {T = Reply} told len faults d f s u (Err r)) (there : Mounted D) (still : there.store.book.down ≡ false) (sizes : there.store.pool.geometry ≡ s.pool.geometry)
        (faulted : OnFault r (there.store.book.down ≡ true))
        (back : (want : Wanted) (g : Going) → IsAt m place want tx g p o.transaction.work → IsAt m place want tx (unused g) q now.transaction.work)
        (spent : (n : ℕ) → HasSpent n there.store → HasSpent n u)
        (stops : (want : Wanted) (x : State) (of : IsOf m place want x p (Some o)) → IsPosedIn m x c → IsUnservedOn faults m x c (going_on (within want x of).of) r there) where
      stays_inside : (want : Wanted) (x : State) (of : IsOf m place want x p (Some o)) (n : ℕ) → IsPaid HasSpent 0 (n + 1) there.store
          → IsInside m place want (committed x) q now (with_spent_in n (within want x of).of)
      stays_inside want x of n paid =
          let here = within want x of in
          IsInside-stays m place p q o now number listed stays want (committed x) here.of (with_spent_in n here.of) refl here.inside
          (IsAt-same m place want tx (going_in here.of) (going_in (with_spent_in n here.of)) q now.transaction.work refl refl refl refl (back want (going_in here.of) here.inside.at))
          (record { changes = paid.changes; within = paid.within; spent = spent paid.changes paid.spent })

      -- the transaction as it was, but for what was spent
      left_spent : (want : Wanted) (x : State) (of : IsOf m place want x p (Some o)) (n : ℕ) → IsPaid HasSpent 0 (n + 1) there.store → is_end r ≡ false
          → LeftBy want x (Refused r) (with_open x (Some (with_spent_in n (within want x of).of)))
      left_spent want x of n paid not = record { down = sym not; live = refl; spare = refl; stands = λ on. stays_inside want x of n paid }

      lacking : (want : Wanted) (x : State) (of : IsOf m place want x p (Some o)) → IsPosedIn m x c → is_free r ≡ true → is_end r ≡ false → (Cause : Type 0) → Cause
          → IsLacking (LeftBy want x (Refused r)) Cause (extensions_of m) x c
      lacking want x of posed free not Cause cause =
          let here = within want x of in
          let to = unserved_left faults m x c works r there of.up free here.of here.is (stops want x of posed) in
          record { up = of.up; cause = cause; after = with_open x (Some (with_spent_in to.0 here.of)); left = to.1; stands = left_spent want x of to.0 to.2 not }

      cause : (want : Wanted) (x : State) (of : IsOf m place want x p (Some o)) → IsPosedIn m x c → is_free r ≡ true → HasRefusalCause (FailsOn faults) r there
      cause want x of posed free = unserved_cause faults m x c works r there (going_on (within want x of).of) (stops want x of posed) free

      given_step : (want : Wanted) (x : State) (of : IsOf m place want x p (Some o)) → IsPosedIn m x c → is_free r ≡ false → IsStep (LeftBy want x (Refused r)) (extensions_of m) x c (Refused r)
      given_step want x of posed given =
          let here = within want x of in
          let to = unserved_inside faults m x c works r there of.up given here.of here.is (stops want x of posed) in
          record { after = with_open x (Some (with_spent_in to.0 here.of)); steps = to.1; stands = left_spent want x of to.0 to.2 (end_of_given r given) }

      pub EndsInside-refused : EndsInside told len faults m place c d f s u o now (Err r)
      EndsInside-refused = record {
        ends = λ want x of posed. Ends-by (LeftBy want x (Refused r)) (Lacks s.pool.geometry) (HasFailed faults d f) (extensions_of m) x c r
            (λ given. given_step want x of posed given)
            (λ room is. lacking want x of posed (ap is_free is) (ap is_end is) (Lacks s.pool.geometry room × (may_want_room x c ≡ true)) (
              Lacks-there faults s.pool.geometry there sizes room (subst (λ (r : Refusal). HasRefusalCause (FailsOn faults) r there) is (cause want x of posed (ap is_free is))),
              unserved_room faults m x c works r there (going_on (within want x of).of) (stops want x of posed) (ap is_room is),
            ))
            (λ is. lacking want x of posed (ap is_free is) (ap is_end is) (may_want_memory x c ≡ true) (may_want_memory-works x c works))
            (λ is. not_both there.store.book.down still (of_fault r (there.store.book.down ≡ true) faulted is))
            (λ page is. subst (λ (r : Refusal). HasRefusalCause (FailsOn faults) r there) is (cause want x of posed (ap is_free is)));
        room = λ want x of posed.
            let here = within want x of in
            unserved_wants_inside faults m x c works r there of.up s.pool.geometry.pages (λ room. ap (λ (g : Geometry). g.pages) sizes) still here.of here.is (stops want x of posed);
        leaves = leaves;
        goes = λ not. CanGoOn-stays m place p q o now number listed stays goes;
        fault = λ is. let same : r ≡ refusal.Fault = cc in not_both there.store.book.down still (of_fault r (there.store.book.down ≡ true) faulted same);
        remains = remains;
      }
