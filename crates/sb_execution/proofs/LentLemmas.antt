-- A command that is tested or served over a store, which is lent.
use Rattle.std.proofs.Common.{◌≡◌, ℕ, Bool, true, false, true≢false, List, Option, Result, Ok, Err, IfErr, IfOk, sym, ◌∙◌, subst}
use Rattle.sb_disk.specs.Disk.{Story}
use Rattle.sb_relation.specs.Db.{Db}
use Rattle.sb_fold.specs.Outcome.{Going, Trail}
use Rattle.sb_fold.specs.declared.refusal.Refusal.{Refusal}
use Rattle.sb_plain.specs.declared.command.Command.{Command}
use Rattle.sb_plain.specs.Refusing.{refused}
use Rattle.sb_plain.specs.State.{State}
use Rattle.sb_registry.specs.Boxes.{Meanings}
use Rattle.sb_drive.specs.Spaces.{Wanted}
use Rattle.sb_map.specs.declared.place.Place.{Place}
use Rattle.sb_session.specs.Calls.{KeepsWanted}
use Rattle.sb_txn.specs.Parts.{Parts, parts}
use Rattle.sb_txn.specs.State.{State as Stored}
use Rattle.sb_space.specs.declared.durable.Durable.{Durable}
use Rattle.sb_space.specs.Durable.{parts_in}
use Rattle.sb_space.specs.Spent.{HasSpent}
use Rattle.sb_space.specs.View.{lent}
use Rattle.sb_space.specs.Works.{HasPages, Works}
use Rattle.sb_space.specs.Works as space
use Rattle.sb_space.proofs.GoingBack.{KeepsChanges-driven}
use Rattle.sb_space.proofs.Looking.{HasPages-still}
use Rattle.sb_engine.specs.declared.running.Work.{Work}
use Rattle.sb_engine.specs.Refusals.{HasRefusalCause}
use Rattle.sb_engine.specs.Working.{IsPaid, IsStoppedIn, extensions_of}
use Rattle.sb_engine.specs.Working as engine
use Rattle.sb_session.specs.Point.{Point}
use Rattle.sb_session.specs.Commits.{FailsOn, IsLed, IsStoppedOn, Mounted}
use Rattle.sb_session.specs.Driven.{HasLent, IsServed as IsReadyLent, LeadsLent, SpentLent, WorksOn}
use Rattle.sb_execution.proofs.CallLemmas.{KeepsWanted-works}
use Rattle.sb_session.specs.Transactions.{IsAt, IsPaidAt, IsPointOf, IsUsable, WasBegun, WasSo}
use Rattle.sb_session.proofs.DrivenLemmas.{Stands-at, driven-begun, driven-each, driven-points, driven-stands}
use Rattle.sb_session.proofs.FinishLemmas.{HasCause-map}
use Rattle.sb_session.proofs.LentLemmas.{FailsLent, IsStoreLent}
use Rattle.sb_session.proofs.LicenceLemmas.{licensed-lent, table_of}
use Rattle.sb_session.specs.declared.session.Savepoint.{Savepoint}
use Rattle.sb_execution.specs.Serving.{HasPaid, IsPosedIn, IsSeenIn, IsServed, IsUnservedIn, IsUnservedOn, KeepsLooked, KeepsOpened, is_read}
use Rattle.sb_execution.specs.declared.serving.Served.{Served}
use Rattle.sb_execution.proofs.WorkLemmas.{IsServed-map, IsUnserved-map}

-- what is lent serves
pub serves-lent : {D : Type 0} (told : D → Option Story) (len : D → ℕ) (m : Meanings) (place : Place) (disk : D) (store : Stored) (tx : ℕ) (a : Durable D) (v : Work) → IsStoreLent disk store tx a
    → IsUsable m place tx (parts told len disk store) v → engine.Serves (IsReadyLent told len) m place a v
serves-lent {D} told len m place disk store tx a v is usable = record {
  ready = subst (λ (n : ℕ). space.Serves n (parts_in told len (lent a))) (sym is.tx_is)
      (subst (λ (d : D). space.Serves tx (parts told len d a.store.now)) (sym is.disk_is)
      (subst (λ (s : Stored). space.Serves tx (parts told len disk s)) (sym is.store_is) usable.ready));
  owner = usable.owner;
  opened = usable.opened;
  within = usable.within;
}

module _ {D : Type 0} (told : D → Option Story) (len faults : D → ℕ) (m : Meanings) (place : Place) (disk : D) (store : Stored) (tx : ℕ) (a b : Durable D) (v w : Work) (is : IsStoreLent disk store tx a)
    (works : WorksOn (LeadsLent told len faults) a b v w) (serves : engine.Serves (IsReadyLent told len) m place b w) (e : D) (same : e ≡ b.disk.now) where
  abbrev start : Parts
  start = parts told len disk store

  abbrev end : Parts
  end = parts told len e b.store.now

  abbrev StandsLent : Going → Durable D → Work → Type 0
  StandsLent g d u = engine.Stands (HasLent told len) SpentLent m place.root g d u

  to_end : (P : ℕ → Parts → Type 0) → P (lent a).tx (parts_in told len (lent b)) → P tx end
  to_end P so =
      subst (λ (d : D). P tx (parts told len d b.store.now)) (sym same)
      (subst (λ (n : ℕ). P n (parts_in told len (lent b))) is.tx_is so)

  to_lent : (P : ℕ → Parts → Type 0) → P tx start → P (lent a).tx (parts_in told len (lent a))
  to_lent P so =
      subst (λ (n : ℕ). P n (parts_in told len (lent a))) (sym is.tx_is)
      (subst (λ (d : D). P tx (parts told len d a.store.now)) (sym is.disk_is)
      (subst (λ (s : Stored). P tx (parts told len disk s)) (sym is.store_is) so))

  -- what was paid for over what is lent is paid for in its store
  paid_lent : (n : ℕ) → IsPaid SpentLent 0 n b → IsPaid HasSpent 0 n b.store.now
  paid_lent n paid = record { changes = paid.changes; within = paid.within; spent = paid.spent }

  module _ (want : Wanted) (g : Going) (at : HasPaid m place want tx v g start) where
    at_lent : IsAt m place want (lent a).tx g (parts_in told len (lent a)) v
    at_lent = to_lent (λ n p. IsAt m place want n g p v) at.0

    stands_lent : StandsLent g a v
    stands_lent = Stands-at told len faults m place want g a v at_lent (to_lent (λ n p. IsPaidAt g p) at.1)

    came : b.store.now.book.down ≡ false → (h : Going) → StandsLent h b w → IsAt m place want tx h end w
    came up h stands = to_end (λ n p. IsAt m place want n h p w) (driven-stands told len faults m place want g h a b v w at_lent works.leads serves stands up)

    came_paid : b.store.now.book.down ≡ false → (h : Going) → StandsLent h b w → HasPaid m place want tx w h end
    came_paid up h stands = (came up h stands, paid_lent h.trail.spent stands.paid)

  -- a look at a store that goes on being up leaves its pages
  looked : b.store.now.book.down ≡ false → KeepsLooked (HasLent told len) (LeadsLent told len faults) a b
  looked up d looks leads want s has =
      let on = (KeepsChanges-driven told len faults leads.0 (lent d) (lent b) leads.1 up).0 in
      HasPages-still told len faults (lent a) (lent d) want s looks (λ down. absurd (true≢false (sym down ∙ on))) has

  -- what is open is so of the store, where it is up
  pub opened-lent : (r : Result Served Refusal)
      → IfOk r (λ x. is_read x ≡ true → KeepsLooked (HasLent told len) (LeadsLent told len faults) a b → KeepsOpened (HasLent told len) m place.root a b v w)
      → IfOk r (λ x. b.store.now.book.down ≡ false → is_read x ≡ true → KeepsOpened HasPages m place.root start end v w)
  opened-lent (Ok x) opened = λ up read want s kept keeping.
      let had = opened read (looked up) want s kept (record { has = to_lent (λ n p. HasPages want s p) keeping.has; tables = keeping.tables; opened = keeping.opened }) in
      record { has = to_end (λ n p. HasPages want s p) had.has; tables = had.tables; opened = had.opened }
  opened-lent (Err r) opened = tt

  module _ (inside : Bool) (points : List Savepoint) (c : Command) where
    pub served-lent : (r : Result Served Refusal)
        → IfOk r (λ x. (s : State) (g : Going) → StandsLent g a v → IsSeenIn m inside points s g → IsPosedIn m s c → IsServed (λ h y. StandsLent h y w) m s c g x b)
        → IfOk r (λ x. b.store.now.book.down ≡ false → (want : Wanted) (s : State) (g : Going) → HasPaid m place want tx v g start → IsSeenIn m inside points s g → IsPosedIn m s c
        → IsServed (HasPaid m place want tx w) m s c g x end)
    served-lent (Ok x) served = λ up want s g at seen posed.
        IsServed-map (λ h y. StandsLent h y w) (HasPaid m place want tx w) m s c g x b end (came_paid want g at up) (served s g (stands_lent want g at) seen posed)
    served-lent (Err r) served = tt

    abbrev mount : Durable D → Mounted D
    mount d = record { disk = d.disk.now; store = d.store.now }

    caused : (r : Refusal) → HasRefusalCause (FailsLent faults) r b → HasRefusalCause (FailsOn faults) r (record { disk = e; store = b.store.now })
    caused r cause =
        subst (λ (d : D). HasRefusalCause (FailsOn faults) r (record { disk = d; store = b.store.now })) (sym same)
        (HasCause-map (FailsLent faults) (FailsOn faults) mount (λ fault x y fails. fails) r b cause)

    stops_lent : (r : Refusal) (trail : Trail) → IsStoppedIn (HasLent told len) SpentLent (LeadsLent told len faults) (FailsLent faults) table_of m r trail b
        → IsStoppedOn faults m r trail (record { disk = e; store = b.store.now })
    stops_lent r trail stopped = record {
      cause = caused r stopped.cause;
      licensed = licensed-lent told len faults m b trail r serves.ready.few stopped.cause stopped.licensed;
      paid = paid_lent trail.spent stopped.paid;
    }

    pub unserved-lent : (r : Result Served Refusal)
        → IfErr r (λ r'. (s : State) (g : Going) → StandsLent g a v → IsSeenIn m inside points s g → IsPosedIn m s c → IsUnservedIn (HasLent told len) SpentLent (LeadsLent told len faults) (FailsLent faults) table_of m s c g r' b)
        → IfErr r (λ r'. (want : Wanted) (s : State) (g : Going) → HasPaid m place want tx v g start → IsSeenIn m inside points s g → IsPosedIn m s c
        → IsUnservedOn faults m s c g r' (record { disk = e; store = b.store.now }))
    unserved-lent (Ok x) unserved = tt
    unserved-lent (Err r) unserved = λ want s g at seen posed.
        IsUnserved-map (IsStoppedIn (HasLent told len) SpentLent (LeadsLent told len faults) (FailsLent faults) table_of m) (IsStoppedOn faults m) m s c g r b
        (record { disk = e; store = b.store.now }) (stops_lent r)
        (unserved s g (stands_lent want g at) seen posed)

    -- ---- tests
    pub tested-lent : (r : Result (Option Refusal) Refusal)
        → IfOk r (λ o. (s : State) (g : Going) → StandsLent g a v → IsSeenIn m inside points s g → o ≡ refused (extensions_of m) s c)
        → IfOk r (λ o. (want : Wanted) (s : State) (g : Going) → HasPaid m place want tx v g start → IsSeenIn m inside points s g → o ≡ refused (extensions_of m) s c)
    tested-lent (Ok o) tested = λ want s g at seen. tested s g (stands_lent want g at) seen
    tested-lent (Err r) tested = tt

    pub stays-lent : (r : Result (Option Refusal) Refusal)
        → IfOk r (λ o. (s : State) (g : Going) → StandsLent g a v → IsSeenIn m inside points s g → StandsLent g b w)
        → IfOk r (λ o. b.store.now.book.down ≡ false → (want : Wanted) (s : State) (g : Going) → HasPaid m place want tx v g start → IsSeenIn m inside points s g → IsAt m place want tx g end w)
    stays-lent (Ok o) stays = λ up want s g at seen. came want g at up g (stays s g (stands_lent want g at) seen)
    stays-lent (Err r) stays = tt

    pub untested-lent : (r : Result (Option Refusal) Refusal)
        → IfErr r (λ r'. (s : State) (g : Going) → StandsLent g a v → IsSeenIn m inside points s g → HasRefusalCause (FailsLent faults) r' b)
        → IfErr r (λ r'. (want : Wanted) (s : State) (g : Going) → HasPaid m place want tx v g start → IsSeenIn m inside points s g
        → HasRefusalCause (FailsOn faults) r' (record { disk = e; store = b.store.now }))
    untested-lent (Ok o) untested = tt
    untested-lent (Err r) untested = λ want s g at seen. caused r (untested s g (stands_lent want g at) seen)

  pub stand-lent : (point : Point) → IsPointOf tx point start v → IsPointOf tx point end w
  stand-lent point of =
      to_end (λ n p. IsPointOf n point p w) (driven-each told len faults point a b v w (to_lent (λ n p. IsPointOf n point p v) of) works)

  pub points-lent : b.store.now.book.down ≡ false → (m : Meanings) (want : Wanted) (g : Going) (point : Point) → WasSo m place want tx g point start v → WasSo m place want tx g point end w
  points-lent up m want g point was =
      to_end (λ n p. WasSo m place want n g point p w) (driven-points told len faults m place want g point a b v w (to_lent (λ n p. WasSo m place want n g point p v) was) works up)

  pub begun-lent : b.store.now.book.down ≡ false → (m : Meanings) (root : ℕ) (want : Wanted) (db : Db) → WasBegun m root want db tx start → WasBegun m root want db tx end
  begun-lent up m root want db begun =
      to_end (λ n p. WasBegun m root want db n p) (driven-begun told len faults m root want db a b (to_lent (λ n p. WasBegun m root want db n p) begun) works.leads up)

  pub led-lent : IsLed told len faults tx (record { disk = disk; store = store }) (record { disk = e; store = b.store.now })
  led-lent =
      let k = works.leads.0 in (
        k,
        subst (λ (n : ℕ). Works told len faults n k disk e store b.store.now) is.tx_is
            (subst (λ (s : Stored). Works told len faults (lent a).tx k disk e s b.store.now) is.store_is
            (subst (λ (d : D). Works told len faults (lent a).tx k d e a.store.now b.store.now) is.disk_is
            (subst (λ (d : D). Works told len faults (lent a).tx k a.disk.now d a.store.now b.store.now) (sym same) works.leads.1.works))),
      )

  pub leaves-lent : KeepsWanted start end
  leaves-lent = KeepsWanted-works told len faults tx led-lent.0 disk e store b.store.now led-lent.1

  pub usable-lent : IsUsable m place tx end w
  usable-lent = to_end (λ n p. IsUsable m place n p w) (record {
    ready = subst (λ (n : ℕ). space.Serves n (parts_in told len (lent b))) works.leads.1.tx serves.ready;
    owner = serves.owner;
    opened = serves.opened;
    within = serves.within;
  })
