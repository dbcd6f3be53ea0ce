-- How a command ends whose work was answered, by what comes of the commit.
use Rattle.std.proofs.Common.{◌≡◌, inl, ℕ, true, false, List, [], Option, Ok, Err, sym, ap, ◌∙◌, subst}
use Rattle.std.proofs.lemmas.Bool.{false≢true}
use Rattle.sb_disk.specs.Disk.{Story}
use Rattle.sb_relation.specs.Db.{Db}
use Rattle.sb_fold.specs.declared.refusal.Refusal.{Refusal}
use Rattle.sb_fold.specs.declared.refusal.Refusal.TheVariants as refusal
use Rattle.sb_cascade.specs.Runs.{OnFault}
use Rattle.sb_engine.proofs.RefusedLemmas.{on_fault}
use Rattle.sb_fold.specs.Outcome.{Going}
use Rattle.sb_engine.specs.OpenRelation.{OpenRelation}
use Rattle.sb_engine.specs.declared.running.Work.{Work as EngineWork}
use Rattle.sb_plain.specs.declared.command.Command.{Command}
use Rattle.sb_plain.specs.declared.reply.Reply.{Reply}
use Rattle.sb_plain.specs.declared.reply.Reply.TheVariants.{Refused}
use Rattle.sb_plain.specs.State.{committed}
use Rattle.sb_plain.specs.Step.{Answer}
use Rattle.sb_registry.specs.Boxes.{Meanings}
use Rattle.sb_drive.specs.Spaces.{Wanted}
use Rattle.sb_map.specs.declared.place.Place.{Place}
use Rattle.sb_txn.specs.Parts.{Parts, parts}
use Rattle.sb_txn.specs.State.{State as StoreState}
use Rattle.sb_session.specs.Calls.{IsOnlyFault, KeepsWanted, Remains}
use Rattle.sb_session.specs.Commits.{LeavesOldOrFinished, StaysOpen, StopsAt, is_wanting}
use Rattle.sb_session.specs.Transactions.{IsAt, IsPaidAt, MayStayOpen, Rests, WasBegun}
use Rattle.sb_execution.specs.Endings.{EndsAlone, HasAnswered}
use Rattle.sb_execution.specs.Serving.{may_have_changed}
use Rattle.sb_execution.proofs.AloneLemmas.{EndsAlone-fault, EndsAlone-refused, fallen_commit, leaves_alone, left_by, moments_abort, refuses_commit, remains_abort, remains_alone, rests_abort, was_up}
use Rattle.sb_session.proofs.StayLemmas.{MayStayOpen-none}
use Rattle.sb_execution.proofs.CallLemmas.{Remains-err, err_fault, ok_err}
use Rattle.sb_execution.proofs.EndLemmas.{may_want_memory-works, told_none}

not_wanting : {A : Type 0} (r : Refusal) → is_wanting r ≡ true → r ≡ refusal.Fault → A
not_wanting r wanting is = absurd (false≢true (sym (ap (λ (q : Refusal). is_wanting q) is) ∙ wanting))

module _ {D : Type 0} (told : D → Option Story) (len faults : D → ℕ) (m : Meanings) (place : Place) (c : Command)
    (d e b : D) (s t v : StoreState) (tx : ℕ) (w : EngineWork) (ones : List OpenRelation) (answer : Answer)
    (has : HasAnswered told len faults m place c d e s t tx w ones answer) where
  abbrev here : Parts
  here = parts told len e t

  abbrev between : Parts
  between = parts told len b v

  up : s.book.down ≡ false
  up = was_up told len faults m place d e s t tx has.comes

  -- ---- the commit was refused, and nothing stays open
  module _ (others : List OpenRelation) (closed : others ≡ []) {K : Type 0} (r : Refusal) (kept : Remains {T = K} told len faults e b t v (Err r))
      (stops : (want : Wanted) (g : Going) → IsAt m place want tx g here w → IsPaidAt g here → StopsAt told len faults m tx g r (record { disk = e; store = t }) (record { disk = b; store = v })) where
    none_open : (u : StoreState) (want : Wanted) → MayStayOpen m place.root s.pool.geometry.pages want ones → MayStayOpen m place.root u.pool.geometry.pages want others
    none_open u want may = MayStayOpen-none m place.root u.pool.geometry.pages want others closed

    -- and the transaction is over
    pub EndsAlone-over : ((want : Wanted) (g : Going) → IsAt m place want tx g here w → IsPaidAt g here → LeavesOldOrFinished m place.root want g here between) → ((r ≡ refusal.Fault → ⊥) → KeepsWanted here between)
        → (v.book.down ≡ false → v.book.actives ≡ [])
        → (v.book.down ≡ false → (m : Meanings) (root : ℕ) (want : Wanted) (db : Db) → WasBegun m root want db tx here → Rests m root want db between)
        → OnFault r (v.book.down ≡ true) → EndsAlone told len faults m place c d b s v ones others (Err r)
    EndsAlone-over moments still none aborted faulted =
        EndsAlone-refused told len faults m place c d b s v up ones others (λ x. may_want_memory-works x c has.works) r
        (remains_alone told len faults m place d e s t tx has.comes w {T = Reply} {U = Reply} b v (Err r) (Err r) (λ is. is) (Remains-err told len faults {T = K} {U = Reply} e b t v r kept)) faulted
        (λ not. leaves_alone told len faults m place d e s t tx has.comes {T = K} b v (Err r) kept
        (still (λ is. false≢true (sym (told_none c (Refused r) has.works has.changes not) ∙ ap (λ (q : Refusal). may_have_changed (Refused q)) is))))
        (fallen_commit told len faults m place c d e s t tx w ones answer has b v moments)
        none (none_open v)
        (λ off want x alone. aborted off m place.root want (committed x) (has.comes.begun has.up want x alone.of))
        (refuses_commit told len faults m place c d e s t tx w ones answer has r (record { disk = b; store = v }) stops)

    -- and the transaction goes on, and is aborted then
    module _ (now : EngineWork) (stays : StaysOpen tx here between w now) (f : D) (u : StoreState) (leaves : KeepsWanted between (parts told len f u)) where
      still : KeepsWanted (parts told len d s) (parts told len f u)
      still = moments_abort told len faults m place c d e s t tx w ones answer has {K = K} b f v u now r stays kept leaves

      pub EndsAlone-let_go : is_wanting r ≡ true → Remains {T = Unit {0}} told len faults b f v u (Ok tt) → u.book.actives ≡ [] → (last : ℕ) → last ≡ tx
          → ((m : Meanings) (root : ℕ) (want : Wanted) (db : Db) → WasBegun m root want db last between → Rests m root want db (parts told len f u))
          → EndsAlone told len faults m place c d f s u ones others (Err r)
      EndsAlone-let_go wanting remains none last number rests =
          EndsAlone-refused told len faults m place c d f s u up ones others (λ x. may_want_memory-works x c has.works) r
          (remains_abort told len faults m place c d e s t tx w ones answer has {K = K} b f v u now r stays kept {T = Unit {0}} (Ok tt) (Err r) (λ is. ok_err tt refusal.Fault is) remains)
          (on_fault r (u.book.down ≡ true) (λ is. not_wanting r wanting is))
          (λ not. still) (λ want x alone posed. inl (left_by told len faults m place c d f s u up ones others still want x alone))
          (λ off. none) (none_open u)
          (λ off want x alone.
          rests_abort told len faults m place c d e s t tx w ones answer has {K = K} b f v u now r stays kept
          (λ m root want db was. rests m root want db (subst (λ (k : ℕ). WasBegun m root want db k between) (sym number) was)) has.up want x alone)
          (refuses_commit told len faults m place c d e s t tx w ones answer has r (record { disk = b; store = v }) stops)

      -- and the disk failed in that
      pub EndsAlone-not_let_go : (q : Refusal) → Remains {T = Unit {0}} told len faults b f v u (Err q) → IsOnlyFault q u → EndsAlone told len faults m place c d f s u ones others (Err q)
      EndsAlone-not_let_go q remains only =
          EndsAlone-fault told len faults m place c d f s u up ones others q
          (remains_abort told len faults m place c d e s t tx w ones answer has {K = K} b f v u now r stays kept {T = Unit {0}} (Err q) (Err q)
          (λ is. ap (λ (x : Refusal). Err x) (err_fault {T = Unit {0}} q is)) remains) only
          still
