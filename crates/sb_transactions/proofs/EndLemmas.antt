-- The end of a transaction, by a commit or an abort, behind the work that finishes it.
use Rattle.std.proofs.Common.{◌≡◌, ⊎_elim, inl, inr, ℕ, ◌<◌, ◌≤◌, Bool, true, false, Option, None, Result, Ok, Err, IfErr, IfOk, IsErrOf, OnOk, List, [], All, refl, sym, ap, subst, ◌∙◌, arith}
use Rattle.std.proofs.lemmas.Bool.{false≢true}
use Rattle.std.proofs.lemmas.List.Elements.{All-nil}
use Rattle.sb_disk.specs.Causes.{Rose}
use Rattle.sb_disk.specs.Disk.{Story}
use Rattle.sb_disk.specs.Moments.{LeavesOnly}
use Rattle.sb_disk.proofs.CauseLemmas.{Rose-before, Rose-later}
use Rattle.sb_disk.proofs.MomentLemmas.{and_then, weaker}
use Rattle.sb_images.specs.Images.{Restores, IsOldOrNew}
use Rattle.sb_log.specs.declared.geometry.Geometry.{Geometry}
use Rattle.sb_relation.specs.Db.{Db, Key}
use Rattle.sb_fold.specs.Extensions.{Extensions}
use Rattle.sb_fold.specs.Finish.{first_failing, freed}
use Rattle.sb_fold.specs.Outcome.{Entry, Going, Queue}
use Rattle.sb_fold.specs.Fold.{attachments_at}
use Rattle.sb_fold.specs.declared.refusal.Refusal.{Refusal}
use Rattle.sb_fold.specs.declared.refusal.Refusal.TheVariants.{Fault}
use Rattle.sb_deferred.specs.Complete.{IsComplete}
use Rattle.sb_deferred.specs.Waiting.{nothing}
use Rattle.sb_deferred.proofs.CommitLemmas.{nothing-fails-at-all}
use Rattle.sb_relation.specs.Rules.{entry_fails}
use Rattle.sb_cascade.specs.Runs.{is_free, is_room, MadeFrom, OnFault, StopsFrom}
use Rattle.sb_registry.specs.Boxes.{Meanings}
use Rattle.sb_drive.specs.Spaces.{Wanted}
use Rattle.sb_map.specs.declared.place.Place.{Place}
use Rattle.sb_txn.specs.Clauses.{HoldsPages, LeavesWanted}
use Rattle.sb_txn.specs.Parts.{Parts, parts}
use Rattle.sb_txn.specs.State.{State}
use Rattle.sb_space.specs.Works.{Works}
use Rattle.sb_tables.specs.OpenRelation.{OpenRelation}
use Rattle.sb_tables.specs.Work.{Work}
use Rattle.sb_tables.specs.Refusals.{HasRefusalCause}
use Rattle.sb_tables.specs.Working.{extensions_of}
use Rattle.sb_tables.specs.Tables.{db_of}
use Rattle.sb_tables.proofs.RefusedLemmas.{of_fault, on_fault}
use Rattle.sb_transactions.specs.Calls.{IsOnlyFault, KeepsWanted, Remains}
use Rattle.sb_transactions.specs.declared.refusals.Committed.{Committed}
use Rattle.sb_transactions.specs.declared.refusals.Uncommitted.{Uncommitted}
use Rattle.sb_transactions.specs.declared.transactions.Point.{Point}
use Rattle.sb_transactions.specs.Commits.{by_refusal, ComesTo, FailsOn, Finishes, IsFaulted, IsDone, IsLed, IsOrFaulted, IsStoppedOn, IsEnded, LeavesEither, LeavesOldOrFinished, Mounted, StopsAt, ended, finish_and_free, is_wanting}
use Rattle.sb_transactions.specs.Transactions.{HasNothingLeft, IsAt, IsBack, IsCommitted, IsFinished, IsPaidAt}
use Rattle.sb_transactions.proofs.CallLemmas.{up-earlier}
use Rattle.sb_transactions.proofs.CommitLemmas.{IsDone-freed, LeavesEither-freed}
use Rattle.sb_transactions.proofs.LicenceLemmas.{fault_stops}
use Rattle.sb_transactions.proofs.FinishLemmas.{StopsFrom-behind, StopsFrom-else, finish-at_once, finish-map, made-further}

-- what was paid for is never nothing
paid_some : (g : Going) (p : Parts) → IsPaidAt g p → 0 < g.trail.spent
paid_some g p paid = omega (arith, paid.within)

fault_free : (r : Refusal) → r ≡ Fault → is_free r ≡ true
fault_free r is = ap is_free is

fault_wants : (r : Refusal) → r ≡ Fault → is_wanting r ≡ true → ⊥
fault_wants r is wants = false≢true (sym (ap is_wanting is) ∙ wants)

-- ---- the answer of a call behind which the transaction is over
pub only-ended : {T : Type 0} (r : Result T Refusal) (t : State) (P : Uncommitted → Type 0) → ((q : Refusal) → IsOnlyFault q t → P (record { refusal = q; transaction = None })) → IfErr r (λ q. IsOnlyFault q t)
    → IfErr (ended r) P
only-ended (Ok x) t P gives only = tt
only-ended (Err q) t P gives only = gives q only

pub none-ended : {T : Type 0} (r : Result T Refusal) (t : State) → OnOk r (t.book.actives ≡ []) → IfErr r (λ q. IsOnlyFault q t) → IsEnded (ended r) → t.book.down ≡ false → t.book.actives ≡ []
none-ended (Ok x) t none only ended up = none
none-ended (Err q) t none only ended up = absurd (false≢true (sym up ∙ only.down))

pub remains-ended : {T : Type 0} (P : Result T Refusal → Type 0) (r : Result T Refusal) → P r → P (by_refusal (ended r))
remains-ended P (Ok x) is = is
remains-ended P (Err q) is = is

-- what is so of the relations that were open is so of those that stay open
pub opened-ended : (P : List OpenRelation → Type 0) (ones : List OpenRelation) (r : Result Committed Refusal) → P ones → IfOk r (λ x. x.opened.items ≡ ones) → IfOk (ended r) (λ x. P x.opened.items)
opened-ended P ones (Ok x) is same = subst P (sym same) is
opened-ended P ones (Err q) is same = tt

err_as : {T U : Type 0} (q : Refusal) → IsErrOf {T = T} (Err q) Fault → IsErrOf {T = U} (Err q) Fault
err_as q is = let same : q ≡ Fault = cc in ap (λ (r : Refusal). Err r) same

-- ---- what is answered behind a refusal
-- no room is wanting behind a refusal that says nothing of room
pub roomless-stopped : {D : Type 0} (faults : D → ℕ) (before r : Refusal) (new : Mounted D) → IsOrFaulted faults before r new → is_room before ≡ false → is_room r ≡ false
roomless-stopped faults before r new (inl same) room = ap is_room same ∙ room
roomless-stopped faults before r new (inr failed) room = ap is_room failed.only.is

-- ---- nothing is left
module _ (m : Meanings) (place : Place) (want : Wanted) (tx : ℕ) (g : Going) (p : Parts) (w : Work) (at : IsAt m place want tx g p w) (left : HasNothingLeft w) where
  none_waits : g.queue ≡ nothing
  none_waits = sym at.waits ∙ left.queue

  pub no_action : g.queue.actions ≡ []
  no_action = ap (λ (q : Queue). q.actions) none_waits

  pub IsFinished-left : IsFinished m g w
  IsFinished-left = record {
    gone = left.gone;
    holds = subst (λ (db : Db). first_failing (extensions_of m) db db ≡ None) (sym at.db)
        (nothing-fails-at-all (extensions_of m) (db_of at.kept) nothing at.keeps.tables.rising at.settled.mirrored
        (subst (λ (q : Queue). IsComplete (db_of at.kept) q) none_waits at.settled.complete)
        (All-nil (λ (e : Entry). All (λ a. a.name ≡ e.name → entry_fails (db_of at.kept) e.relation a.rule e.entry ≡ false) (attachments_at (db_of at.kept) e.relation))));
  }

  -- so it is finished at once
  pub finished-left : {S : Type 0} (P : Going → S → Type 0) (x : S) → P (freed g) x → MadeFrom P (finish_and_free (extensions_of m)) g tt x
  finished-left P x is = finish-at_once P (extensions_of m) g x no_action IsFinished-left.holds is

-- ---- by what the commit of the pages answers
module _ (m : Meanings) (place : Place) (tx : ℕ) (p q : Parts) (w : Work) (left : HasNothingLeft w) where
  pub done-left : (r : Result Committed Refusal)
      → IfOk r (λ x. (m : Meanings) (place : Place) (want : Wanted) (g : Going) → IsAt m place want tx g p w → IsFinished m g w → IsDone m place.root want x.picks.items x.opened.items p g q)
      → IfOk (ended r) (λ x. (want : Wanted) (g : Going) → IsAt m place want tx g p w → IsPaidAt g p → Finishes m g (IsDone m place.root want x.picks.items x.opened.items p) q)
  done-left (Ok x) done = λ want g at paid.
      finished-left m place want tx g p w at left (IsDone m place.root want x.picks.items x.opened.items p) q
      (IsDone-freed m place.root want g p q x.picks.items x.opened.items (done m place want g at (IsFinished-left m place want tx g p w at left)))
  done-left (Err e) done = tt

  pub leaves-left : ((m : Meanings) (place : Place) (want : Wanted) (g : Going) → IsAt m place want tx g p w → IsFinished m g w → LeavesEither m place.root want p g q)
      → (want : Wanted) (g : Going) → IsAt m place want tx g p w → IsPaidAt g p → LeavesOldOrFinished m place.root want g p q
  leaves-left either want g at paid =
      inr (finished-left m place want tx g p w at left (LeavesEither m place.root want p) q
      (LeavesEither-freed m place.root want g p q (either m place want g at (IsFinished-left m place want tx g p w at left))))

-- a fault of the commit: behind it the store is down
module _ {D : Type 0} (told : D → Option Story) (len faults : D → ℕ) (m : Meanings) (tx : ℕ) (g : Going) (some : 0 < g.trail.spent) where
  pub StopsAt-failed : {S : Type 0} (P : Going → S → Type 0) (x : S) (old new : Mounted D) (r : Refusal) → IsOnlyFault r new.store → HasRefusalCause (FailsOn faults) r new
      → MadeFrom P (finish_and_free (extensions_of m)) g tt x → StopsAt told len faults m tx g r old new
  StopsAt-failed P x old new r only cause made = record {
    there = new;
    led = λ not. absurd (not only.is);
    stops = StopsFrom-behind (λ h y. g.trail.spent ≤ h.trail.spent) (IsStoppedOn faults m) (finish_and_free (extensions_of m)) g tt x r new (fault_free r only.is)
        (λ h further. fault_stops faults m r h.trail new only (omega (arith, some, further)) cause) (made-further P (extensions_of m) g x made);
    up = λ wants. absurd (fault_wants r only.is wants);
    spent = λ wants n spent. spent;
  }

pub stops-left : {D T : Type 0} (told : D → Option Story) (len faults : D → ℕ) (m : Meanings) (place : Place) (tx : ℕ) (p : Parts) (w : Work) (old new : Mounted D) (r : Result T Refusal) → HasNothingLeft w
    → IfErr r (λ e. IsOnlyFault e new.store) → IfErr r (λ e. HasRefusalCause (FailsOn faults) e new)
    → IfErr (ended r) (λ e. (want : Wanted) (g : Going) → IsAt m place want tx g p w → IsPaidAt g p → StopsAt told len faults m tx g e.refusal old new)
stops-left told len faults m place tx p w old new (Ok x) left only cause = tt
stops-left told len faults m place tx p w old new (Err e) left only cause = λ want g at paid.
    StopsAt-failed told len faults m tx g (paid_some g p paid) (λ h x. Unit {0}) new old new e only cause (finished-left m place want tx g p w at left (λ h x. Unit {0}) new tt)

-- ---- behind the work that finishes it
module _ {D : Type 0} (told : D → Option Story) (len faults : D → ℕ) (m : Meanings) (place : Place) (tx : ℕ) (d e f : D) (s t u : State) (w : Work)
    (led : IsLed told len faults tx (record { disk = d; store = s }) (record { disk = e; store = t })) where
  abbrev old : Parts
  old = parts told len d s

  abbrev mid : Parts
  mid = parts told len e t

  abbrev new : Parts
  new = parts told len f u

  abbrev works : Works told len faults tx led.0 d e s t
  works = led.1

  -- what is kept of it in the whole
  pub Remains-behind : {T U : Type 0} (r : Result T Refusal) (q : Result U Refusal) → (IsErrOf r Fault → IsErrOf q Fault) → Remains told len faults e f t u r → Remains told len faults d f s u q
  Remains-behind r q same remains = record {
    size = remains.size ∙ works.size;
    later = let one = works.later in let two = remains.later in omega arith;
    geometry = remains.geometry ∙ works.geometry;
    ready = remains.ready;
    down = λ on.
        let first = works.down on in
        let second = remains.down (ap (λ (x : State). x.book.down) first.1 ∙ on) in
        record { answer = same second.answer; disk = second.disk ∙ first.0; store = second.store ∙ first.1 };
    up = λ on. same (remains.up on);
    fell = λ on. ⊎_elim
        (λ (was : t.book.down ≡ true). ⊎_elim
        (λ (first : s.book.down ≡ true). inl first)
        (λ (rose : Rose (faults d) (faults e)). inr (Rose-before (faults d) (faults e) (faults f) rose remains.later))
        (works.fell was))
        (λ (rose : Rose (faults e) (faults f)). inr (Rose-later (faults d) (faults e) (faults f) works.later rose))
        (remains.fell on);
  }

  pub Remains-stopped : {U : Type 0} (q : Refusal) → Remains {T = Unit {0}} told len faults e f t u (Err q) → Remains {T = U} told len faults d f s u (Err q)
  Remains-stopped q remains = Remains-behind (Err q) (Err q) (λ is. err_as q is) remains

  -- where the store went down in that work, it is as that left it
  still_down : {T : Type 0} (r : Result T Refusal) → Remains told len faults e f t u r → t.book.down ≡ true → (want : Wanted) → LeavesOnly (told d) (told e) (Restores s.pool.geometry want)
      → LeavesOnly (told d) (told f) (Restores s.pool.geometry want)
  still_down r remains on want leaves = subst (λ (x : D). LeavesOnly (told d) (told x) (Restores s.pool.geometry want)) (sym (remains.down on).disk) leaves

  -- where the work was refused, and the transaction was stopped, a crash left what was wanted
  LeavesWanted-stopped : {T : Type 0} (r : Result T Refusal) → Remains told len faults e f t u r → LeavesWanted mid new → LeavesWanted old new
  LeavesWanted-stopped r remains leaves = by t.book.down refl
    where
      by : (b : Bool) → t.book.down ≡ b → LeavesWanted old new
      by true on = record { each = λ want now store. still_down r remains on want (works.leaves.each want now store) }
      by false off = record {
        each = λ want now store.
            let turns = (works.makes off).pages want now store in
            and_then (told d) (told e) (told f) (Restores s.pool.geometry want) (works.leaves.each want now store)
            (subst (λ (x : Geometry). LeavesOnly (told e) (told f) (Restores x want)) works.geometry (leaves.each want turns.pages turns.store));
      }

  pub KeepsWanted-stopped : {T : Type 0} (r : Result T Refusal) → Remains told len faults e f t u r → KeepsWanted mid new → KeepsWanted old new
  KeepsWanted-stopped r remains keeps = record {
    leaves = LeavesWanted-stopped r remains keeps.leaves;
    stays = λ up want now store.
        let turns = (works.makes (up-earlier told len faults e f t u r remains up)).pages want now store in
        keeps.stays up want turns.pages turns.store;
  }

  -- ---- a commit
  module _ (want : Wanted) (g : Going) (at : (v : Work) × IsAt m place want tx g old v) (finished : Finishes m g (ComesTo m place want tx w) mid) (none : w.gone.items ≡ []) where
    abbrev ext : Extensions
    ext = extensions_of m

    store : HoldsPages want at.1.has.now old
    store = at.1.has.stands.store

    before : LeavesOnly (told d) (told e) (Restores s.pool.geometry want)
    before = works.leaves.each want at.1.has.now store

    -- what the commit of the pages leaves, over the work too
    over : (pages : Wanted) → LeavesOnly (told e) (told f) (IsOldOrNew t.pool.geometry want pages) → LeavesOnly (told d) (told f) (IsOldOrNew s.pool.geometry want pages)
    over pages leaves =
        and_then (told d) (told e) (told f) (IsOldOrNew s.pool.geometry want pages)
        (weaker (told d) (told e) (Restores s.pool.geometry want) (IsOldOrNew s.pool.geometry want pages) (λ image is. inl is) before)
        (subst (λ (x : Geometry). LeavesOnly (told e) (told f) (IsOldOrNew x want pages)) works.geometry leaves)

    IsDone-over : (picks : List Key) (opened : List OpenRelation) (h : Going) → IsDone m place.root want picks opened mid h new → IsDone m place.root want picks opened old h new
    IsDone-over picks opened h done = record { now = done.now; rests = done.rests; opened = done.opened; picked = done.picked; leaves = over done.now done.leaves }

    pub IsDone-behind : (picks : List Key) (opened : List OpenRelation) (tx' : ℕ) → tx' ≡ tx → t.book.down ≡ false
        → ((m : Meanings) (place : Place) (want : Wanted) (g : Going) → IsAt m place want tx' g mid w → IsFinished m g w → IsDone m place.root want picks opened mid g new)
        → Finishes m g (IsDone m place.root want picks opened old) new
    IsDone-behind picks opened tx' same up done =
        finish-map (ComesTo m place want tx w) (IsDone m place.root want picks opened old) ext g mid new
        (λ h holds comes. IsDone-over picks opened h (done m place want h (subst (λ (n : ℕ). IsAt m place want n h mid w) (sym same) (comes up)) (record { gone = none; holds = holds }))) finished

    wider : (h : Going) → LeavesEither m place.root want mid h new → LeavesEither m place.root want old h new
    wider h either = record {
      pages = either.pages;
      committed = subst (λ (n : ℕ). IsCommitted m place.root n either.pages h.db) (ap (λ (x : Geometry). x.pages) works.geometry) either.committed;
      leaves = over either.pages either.leaves;
    }

    pub LeavesOldOrFinished-commit : {T : Type 0} (r : Result T Refusal) (tx' : ℕ) → tx' ≡ tx → Remains told len faults e f t u r
        → ((m : Meanings) (place : Place) (want : Wanted) (g : Going) → IsAt m place want tx' g mid w → IsFinished m g w → LeavesEither m place.root want mid g new)
        → LeavesOldOrFinished m place.root want g old new
    LeavesOldOrFinished-commit r tx' same remains either = by t.book.down refl
      where
        by : (b : Bool) → t.book.down ≡ b → LeavesOldOrFinished m place.root want g old new
        by true on = inl (still_down r remains on want before)
        by false off = inr (finish-map (ComesTo m place want tx w) (LeavesEither m place.root want old) ext g mid new
            (λ h holds comes. wider h (either m place want h (subst (λ (n : ℕ). IsAt m place want n h mid w) (sym same) (comes off)) (record { gone = none; holds = holds }))) finished)

  -- ---- by what the commit of the pages answers
  module _ (v : Work) (finished : (want : Wanted) (g : Going) → IsAt m place want tx g old v → IsPaidAt g old → Finishes m g (ComesTo m place want tx w) mid) (none : w.gone.items ≡ []) where
    pub done-commit : (r : Result Committed Refusal) (tx' : ℕ) → tx' ≡ tx → OnOk r (t.book.down ≡ false)
        → IfOk r (λ x. (m : Meanings) (place : Place) (want : Wanted) (g : Going) → IsAt m place want tx' g mid w → IsFinished m g w → IsDone m place.root want x.picks.items x.opened.items mid g new)
        → IfOk (ended r) (λ x. (want : Wanted) (g : Going) → IsAt m place want tx g old v → IsPaidAt g old → Finishes m g (IsDone m place.root want x.picks.items x.opened.items old) new)
    done-commit (Ok x) tx' same up done = λ want g at paid. IsDone-behind want g (v, at) (finished want g at paid) none x.picks.items x.opened.items tx' same up done
    done-commit (Err e) tx' same up done = tt

    pub stops-commit : {T : Type 0} (r : Result T Refusal) → IfErr r (λ e. IsOnlyFault e u) → IfErr r (λ e. HasRefusalCause (FailsOn faults) e (record { disk = f; store = u }))
        → IfErr (ended r) (λ e. (want : Wanted) (g : Going) → IsAt m place want tx g old v → IsPaidAt g old
        → StopsAt told len faults m tx g e.refusal (record { disk = d; store = s }) (record { disk = f; store = u }))
    stops-commit (Ok x) only cause = tt
    stops-commit (Err e) only cause = λ want g at paid.
        StopsAt-failed told len faults m tx g (paid_some g old paid) (ComesTo m place want tx w) mid (record { disk = d; store = s }) (record { disk = f; store = u }) e only cause (finished want g at paid)

  -- ---- an abort
  module _ (want : Wanted) (g : Going) (at : (v : Work) × IsAt m place want tx g old v) where
    pub LeavesOldOrFinished-abort : {T : Type 0} (r : Result T Refusal) → Remains told len faults e f t u r → LeavesWanted mid new → LeavesOldOrFinished m place.root want g old new
    LeavesOldOrFinished-abort r remains leaves = inl ((LeavesWanted-stopped r remains leaves).each want at.1.has.now at.1.has.stands.store)

  module _ (g : Going) (r : Refusal) (stops : StopsFrom (IsStoppedOn faults m) (finish_and_free (extensions_of m)) g r (record { disk = e; store = t })) where
    -- by what is answered then: the refusal, and where the transaction goes on, it is back at the point; or the disk failed in it
    module _ (q : Refusal) (next : ℕ) (point : Point) (back : is_wanting q ≡ true → (x : Work) × IsBack next point mid new w x) (remains : Remains {T = Unit {0}} told len faults e f t u (Err q)) where
      StopsAt-abort : q ≡ r → StopsAt told len faults m tx g q (record { disk = d; store = s }) (record { disk = f; store = u })
      StopsAt-abort same = record {
        there = record { disk = e; store = t };
        led = λ not. led;
        stops = subst (λ (x : Refusal). StopsFrom (IsStoppedOn faults m) (finish_and_free (extensions_of m)) g x (record { disk = e; store = t })) (sym same) stops;
        up = λ wants. up-earlier told len faults e f t u (Err q) remains (back wants).1.up;
        spent = λ wants. (back wants).1.spent;
      }

      StopsAt-fault : IsFaulted faults q (record { disk = f; store = u }) → StopsAt told len faults m tx g q (record { disk = d; store = s }) (record { disk = f; store = u })
      StopsAt-fault failed = record {
        there = record { disk = f; store = u };
        led = λ not. absurd (not failed.only.is);
        stops = StopsFrom-else (IsStoppedOn faults m) (IsStoppedOn faults m) (finish_and_free (extensions_of m)) g r q (record { disk = e; store = t })
            (record { disk = f; store = u }) (fault_free q failed.only.is)
            (λ trail stopped. fault_stops faults m q trail (record { disk = f; store = u }) failed.only (omega (arith, stopped.paid.within)) failed.cause) stops;
        up = λ wants. absurd (fault_wants q failed.only.is wants);
        spent = λ wants n spent. spent;
      }

      pub StopsAt-stopped : IsOrFaulted faults r q (record { disk = f; store = u }) → StopsAt told len faults m tx g q (record { disk = d; store = s }) (record { disk = f; store = u })
      StopsAt-stopped is = ⊎_elim StopsAt-abort StopsAt-fault is

  -- a fault is answered only where the store is down
  pub down-stopped : (r q : Refusal) → IsOrFaulted faults r q (record { disk = f; store = u }) → OnFault r (t.book.down ≡ true) → Remains {T = Unit {0}} told len faults e f t u (Err q)
      → OnFault q (u.book.down ≡ true)
  down-stopped r q is down remains = on_fault q (u.book.down ≡ true) (λ fault.
      ⊎_elim
      (λ (same : q ≡ r).
      let on : t.book.down ≡ true = of_fault r (t.book.down ≡ true) down (sym same ∙ fault) in
      ap (λ (x : State). x.book.down) (remains.down on).store ∙ on)
      (λ (failed : IsFaulted faults q (record { disk = f; store = u })). failed.only.down)
      is)
