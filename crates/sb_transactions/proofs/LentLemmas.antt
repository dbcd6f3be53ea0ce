-- A transaction that is finished over its store, which is lent.
use Rattle.std.proofs.Common.{◌≡◌, ℕ, true, false, [], Option, Result, Ok, Err, IfErr, OnOk, sym, subst}
use Rattle.sb_disk.specs.Disk.{Story}
use Rattle.sb_relation.specs.Db.{Db}
use Rattle.sb_fold.specs.Outcome.{Going}
use Rattle.sb_fold.specs.declared.refusal.Refusal.{Refusal}
use Rattle.sb_fold.specs.declared.refusal.Refusal.TheVariants.{Fault}
use Rattle.sb_cascade.specs.Runs.{MadeFrom, OnFault, StopsFrom, is_room}
use Rattle.sb_registry.specs.Boxes.{Meanings}
use Rattle.sb_drive.specs.Spaces.{LeadsOn, Wanted}
use Rattle.sb_drive.specs.declared.space.SpaceFault.{SpaceFault}
use Rattle.sb_map.specs.declared.place.Place.{Place}
use Rattle.sb_txn.specs.Parts.{Parts, parts}
use Rattle.sb_txn.specs.State.{State}
use Rattle.sb_space.specs.declared.durable.Durable.{Durable}
use Rattle.sb_space.specs.Durable.{parts_in}
use Rattle.sb_space.specs.View.{lent}
use Rattle.sb_space.specs.Works.{Fails}
use Rattle.sb_tables.specs.Work.{Work}
use Rattle.sb_tables.specs.Refusals.{HasFaultCause, HasRefusalCause, IsRefusedBy}
use Rattle.sb_tables.specs.Working.{IsNoneGone, extensions_of}
use Rattle.sb_tables.specs.Working as engine
use Rattle.sb_tables.proofs.RefusedLemmas.{of_fault, on_fault}
use Rattle.sb_transactions.specs.Commits.{ComesTo, FailsOn, Finishes, IsStoppedOn, Mounted, finish_and_free}
use Rattle.sb_transactions.specs.declared.transactions.Point.{Point}
use Rattle.sb_transactions.specs.Driven.{HasLent, IsServed, LeadsLent, SpentLent, WorksOn}
use Rattle.sb_transactions.specs.Transactions.{IsAt, IsPaidAt, IsPointOf, WasBegun, WasSo}
use Rattle.sb_transactions.proofs.CallLemmas.{Fault-down}
use Rattle.sb_transactions.proofs.DrivenLemmas.{Stands-at, driven-begun, driven-each, driven-points, driven-stands}
use Rattle.sb_transactions.proofs.FinishLemmas.{HasCause-map, StopsFrom-map, finish-map}
use Rattle.sb_transactions.proofs.LicenceLemmas.{licensed-lent, table_of}

-- what is lent
pub record IsStoreLent {D : Type 0} (disk : D) (store : State) (tx : ℕ) (a : Durable D) : Type 0 where
  pub store_is : a.store.now ≡ store
  pub disk_is : a.disk.now ≡ disk
  pub tx_is : (lent a).tx ≡ tx

abbrev pub FailsLent : {D : Type 0} → (D → ℕ) → SpaceFault → Durable D → Durable D → Type 0
FailsLent faults e a b = Fails faults e a.disk.now b.disk.now a.store.now b.store.now

module _ {D : Type 0} (told : D → Option Story) (len faults : D → ℕ) (m : Meanings) (place : Place) (disk : D) (store : State) (tx : ℕ) (a b : Durable D) (v w : Work) (is : IsStoreLent disk store tx a)
    (leads : LeadsOn (LeadsLent told len faults) a b) (serves : engine.Serves (IsServed told len) m place b w) (e : D) (same : e ≡ b.disk.now) where
  abbrev end : Parts
  end = parts told len e b.store.now

  to_end : (P : Parts → Type 0) → P (parts_in told len (lent b)) → P end
  to_end P so = subst (λ (d : D). P (parts told len d b.store.now)) (sym same) so

  to_lent : (P : ℕ → Parts → Type 0) → P tx (parts told len disk store) → P (lent a).tx (parts_in told len (lent a))
  to_lent P so =
      subst (λ (n : ℕ). P n (parts_in told len (lent a))) (sym is.tx_is)
      (subst (λ (d : D). P tx (parts told len d a.store.now)) (sym is.disk_is)
      (subst (λ (s : State). P tx (parts told len disk s)) (sym is.store_is) so))

  module _ (want : Wanted) (g : Going) (at : IsAt m place want tx g (parts told len disk store) v) (paid : IsPaidAt g (parts told len disk store)) where
    at_lent : IsAt m place want (lent a).tx g (parts_in told len (lent a)) v
    at_lent = to_lent (λ n p. IsAt m place want n g p v) at

    stands_lent : engine.Stands (HasLent told len) SpentLent m place.root g a v
    stands_lent = Stands-at told len faults m place want g a v at_lent (to_lent (λ n p. IsPaidAt g p) paid)

    came : (h : Going) → engine.Stands (HasLent told len) SpentLent m place.root h b w → ComesTo m place want tx w h end
    came h stands = to_end (λ p. ComesTo m place want tx w h p) (λ up. subst (λ (n : ℕ). IsAt m place want n h (parts_in told len (lent b)) w) is.tx_is (driven-stands told len faults m place want g h a b v w at_lent leads serves stands up))

  pub finished-lent : {T : Type 0} (r : Result T Refusal)
      → OnOk r ((g : Going) → engine.Stands (HasLent told len) SpentLent m place.root g a v → MadeFrom (λ h x. engine.Stands (HasLent told len) SpentLent m place.root h x w) (finish_and_free (extensions_of m)) g tt b)
      → OnOk r ((want : Wanted) (g : Going) → IsAt m place want tx g (parts told len disk store) v → IsPaidAt g (parts told len disk store) → Finishes m g (ComesTo m place want tx w) end)
  finished-lent (Ok x) made = λ want g at paid.
      finish-map (λ h y. engine.Stands (HasLent told len) SpentLent m place.root h y w) (ComesTo m place want tx w) (extensions_of m) g b end (λ h holds stands. came want g at paid h stands) (made g (stands_lent want g at paid))
  finished-lent (Err r) made = tt

  abbrev mount : Durable D → Mounted D
  mount d = record { disk = d.disk.now; store = d.store.now }

  pub refused-lent : {T : Type 0} (r : Result T Refusal)
      → IfErr r (λ r'. (g : Going) → engine.Stands (HasLent told len) SpentLent m place.root g a v
      → StopsFrom (engine.IsStoppedIn (HasLent told len) SpentLent (LeadsLent told len faults) (FailsLent faults) table_of m) (finish_and_free (extensions_of m)) g r' b)
      → IfErr r (λ r'. (want : Wanted) (g : Going) → IsAt m place want tx g (parts told len disk store) v → IsPaidAt g (parts told len disk store)
      → StopsFrom (IsStoppedOn faults m) (finish_and_free (extensions_of m)) g r' (record { disk = e; store = b.store.now }))
  refused-lent (Ok x) stops = tt
  refused-lent (Err r) stops = λ want g at paid.
      StopsFrom-map (engine.IsStoppedIn (HasLent told len) SpentLent (LeadsLent told len faults) (FailsLent faults) table_of m) (IsStoppedOn faults m) (finish_and_free (extensions_of m)) g r b
      (record { disk = e; store = b.store.now })
      (λ trail stopped. record {
        cause = subst (λ (d : D). HasRefusalCause (FailsOn faults) r (record { disk = d; store = b.store.now })) (sym same)
            (HasCause-map (FailsLent faults) (FailsOn faults) mount (λ fault x y fails. fails) r b stopped.cause);
        licensed = licensed-lent told len faults m b trail r serves.ready.few stopped.cause stopped.licensed;
        paid = record { changes = stopped.paid.changes; within = stopped.paid.within; spent = stopped.paid.spent };
      })
      (stops g (stands_lent want g at paid))

  -- a fault is answered only where the store is down
  pub faulted-lent : {T : Type 0} (r : Result T Refusal) → IfErr r (λ q. HasFaultCause (FailsLent faults) q b) → IfErr r (λ q. OnFault q (b.store.now.book.down ≡ true))
  faulted-lent (Ok x) cause = tt
  faulted-lent (Err q) cause = on_fault q (b.store.now.book.down ≡ true) (λ is.
      Fault-down faults (mount b) (HasCause-map (FailsLent faults) (FailsOn faults) mount (λ fault x y fails. fails) Fault b
      (of_fault q (IsRefusedBy (FailsLent faults) Fault b) cause is)))

  pub roomless-lent : {T : Type 0} (r : Result T Refusal)
      → IfErr r (λ q. (g : Going) → engine.Stands (HasLent told len) SpentLent m place.root g a v → g.queue.actions ≡ [] → IsNoneGone g.gone → is_room q ≡ false)
      → IfErr r (λ q. (want : Wanted) (g : Going) → IsAt m place want tx g (parts told len disk store) v → IsPaidAt g (parts told len disk store) → g.queue.actions ≡ [] → IsNoneGone g.gone → is_room q ≡ false)
  roomless-lent (Ok x) room = tt
  roomless-lent (Err q) room = λ want g at paid. room g (stands_lent want g at paid)

  pub begun-lent : b.store.now.book.down ≡ false → (m : Meanings) (root : ℕ) (want : Wanted) (db : Db) → WasBegun m root want db tx (parts told len disk store) → WasBegun m root want db tx end
  begun-lent up m root want db begun =
      to_end (λ p. WasBegun m root want db tx p) (subst (λ (n : ℕ). WasBegun m root want db n (parts_in told len (lent b))) is.tx_is
      (driven-begun told len faults m root want db a b (to_lent (λ n p. WasBegun m root want db n p) begun) leads up))

  -- ---- points, where it was stopped
  module _ (works : WorksOn (LeadsLent told len faults) a b v w) where
    IsPointOf-lent : (one : Point) → IsPointOf tx one (parts told len disk store) v → IsPointOf tx one end w
    IsPointOf-lent one of =
        to_end (λ p. IsPointOf tx one p w) (subst (λ (n : ℕ). IsPointOf n one (parts_in told len (lent b)) w) is.tx_is
        (driven-each told len faults one a b v w (to_lent (λ n p. IsPointOf n one p v) of) works))

    WasSo-lent : b.store.now.book.down ≡ false → (m : Meanings) (place : Place) (want : Wanted) (g : Going) (one : Point) → WasSo m place want tx g one (parts told len disk store) v → WasSo m place want tx g one end w
    WasSo-lent up m place want g one was =
        to_end (λ p. WasSo m place want tx g one p w) (subst (λ (n : ℕ). WasSo m place want n g one (parts_in told len (lent b)) w) is.tx_is
        (driven-points told len faults m place want g one a b v w (to_lent (λ n p. WasSo m place want n g one p v) was) works up))

  pub points-lent : {T : Type 0} (r : Result T Refusal) → IfErr r (λ q. WorksOn (LeadsLent told len faults) a b v w)
      → IfErr r (λ q. (one : Point) → IsPointOf tx one (parts told len disk store) v → IsPointOf tx one end w)
  points-lent (Ok x) works = tt
  points-lent (Err q) works = IsPointOf-lent works

  pub was-lent : {T : Type 0} (r : Result T Refusal) → IfErr r (λ q. WorksOn (LeadsLent told len faults) a b v w)
      → IfErr r (λ q. b.store.now.book.down ≡ false → (m : Meanings) (place : Place) (want : Wanted) (g : Going) (one : Point) → WasSo m place want tx g one (parts told len disk store) v → WasSo m place want tx g one end w)
  was-lent (Ok x) works = tt
  was-lent (Err q) works = WasSo-lent works
