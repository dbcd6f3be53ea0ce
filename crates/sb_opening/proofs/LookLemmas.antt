-- Codes that are read over a store, which is lent.
use Rattle.std.proofs.Common.{◌≡◌, ℕ, Option, Result, Ok, Err, IfErr, IfOk, OnOk, List, sym, subst}
use Rattle.sb_disk.specs.Disk.{Story}
use Rattle.sb_drive.specs.Slots.{Slots}
use Rattle.sb_drive.specs.Spaces.{IsRefused, UnlessDown, Wanted}
use Rattle.sb_drive.specs.declared.space.SpaceFault.{SpaceFault}
use Rattle.sb_drive.specs.declared.space.SpaceFault.TheVariants.{Fault, DataFull, TempFull, LogFull, GatesFull, Damaged, Down, NoMemory}
use Rattle.sb_registry.specs.Boxes.{Meanings}
use Rattle.sb_standing.specs.Tables.{Kept}
use Rattle.sb_session.specs.Opened.{OverTables}
use Rattle.sb_txn.specs.Parts.{Parts, parts}
use Rattle.sb_txn.specs.State.{State}
use Rattle.sb_space.specs.declared.durable.Durable.{Durable}
use Rattle.sb_space.specs.Durable.{Leads, parts_in}
use Rattle.sb_space.specs.View.{lent}
use Rattle.sb_space.specs.Works.{Fails, HasPages, MeansDown, Serves, Works}
use Rattle.sb_session.specs.Driven.{HasLent}
use Rattle.sb_session.proofs.LentLemmas.{FailsLent, IsStoreLent}
use Rattle.sb_opening.specs.Looking.{OverCatalogue}

-- what is lent serves
pub serves-lent : {D : Type 0} (told : D → Option Story) (len : D → ℕ) (disk : D) (store : State) (tx : ℕ) (a : Durable D) → IsStoreLent disk store tx a
    → Serves tx (parts told len disk store) → Serves (lent a).tx (parts_in told len (lent a))
serves-lent {D} told len disk store tx a is serves =
    subst (λ (n : ℕ). Serves n (parts_in told len (lent a))) (sym is.tx_is)
    (subst (λ (d : D). Serves tx (parts told len d a.store.now)) (sym is.disk_is)
    (subst (λ (s : State). Serves tx (parts told len disk s)) (sym is.store_is) serves))

module _ {D : Type 0} (told : D → Option Story) (len faults : D → ℕ) (disk : D) (store : State) (tx : ℕ) (a b : Durable D) (is : IsStoreLent disk store tx a)
    (leads : Leads told len faults 0 (lent a) (lent b)) (e : D) (same : e ≡ b.disk.now) where
  abbrev start : Parts
  start = parts told len disk store

  abbrev end : Parts
  end = parts told len e b.store.now

  to_lent : (P : Parts → Type 0) → P start → P (parts_in told len (lent a))
  to_lent P so =
      subst (λ (d : D). P (parts told len d a.store.now)) (sym is.disk_is)
      (subst (λ (s : State). P (parts told len disk s)) (sym is.store_is) so)

  to_end : (P : Parts → Type 0) → P (parts_in told len (lent b)) → P end
  to_end P so = subst (λ (d : D). P (parts told len d b.store.now)) (sym same) so

  pub looked-works : Works told len faults tx 0 disk e store b.store.now
  looked-works =
      subst (λ (n : ℕ). Works told len faults n 0 disk e store b.store.now) is.tx_is
      (subst (λ (s : State). Works told len faults (lent a).tx 0 disk e s b.store.now) is.store_is
      (subst (λ (d : D). Works told len faults (lent a).tx 0 d e a.store.now b.store.now) is.disk_is
      (subst (λ (d : D). Works told len faults (lent a).tx 0 a.disk.now d a.store.now b.store.now) (sym same) leads.works)))

  pub looked-serves : Serves (lent b).tx (parts_in told len (lent b)) → Serves tx end
  looked-serves serves =
      to_end (λ p. Serves tx p) (subst (λ (n : ℕ). Serves n (parts_in told len (lent b))) is.tx_is
      (subst (λ (n : ℕ). Serves n (parts_in told len (lent b))) leads.tx serves))

  pub looked-same : {T : Type 0} (r : Result T SpaceFault) → UnlessDown r ((want : Wanted) (s : Slots) → HasLent told len want s a → HasLent told len want s b)
      → OnOk r ((want : Wanted) (s : Slots) → HasPages want s start → HasPages want s end)
  looked-same (Ok x) stays = λ want s has. to_end (λ p. HasPages want s p) (stays want s (to_lent (λ p. HasPages want s p) has))
  looked-same (Err x) stays = tt

  -- what is read of the relations of a catalogue, or isn't
  pub looked-over : {T : Type 0} (root : ℕ) (IsSo : T → List Kept → Type 0) (r : Result T SpaceFault) → IfOk r (λ x. (m : Meanings) → OverTables (HasLent told len) m root a (IsSo x))
      → IfOk r (λ x. OverCatalogue root start (λ s. IsSo x))
  looked-over root IsSo (Ok x) over = λ m want s kept has tables. over m want s kept (to_lent (λ p. HasPages want s p) has) tables
  looked-over root IsSo (Err x) over = tt

  pub refused-over : {T : Type 0} (root : ℕ) (IsSo : SpaceFault → List Kept → Type 0) (r : Result T SpaceFault) → IfErr r (λ x. (m : Meanings) → OverTables (HasLent told len) m root a (IsSo x))
      → IfErr r (λ x. OverCatalogue root start (λ s. IsSo x))
  refused-over root IsSo (Ok x) over = tt
  refused-over root IsSo (Err x) over = λ m want s kept has tables. over m want s kept (to_lent (λ p. HasPages want s p) has) tables

  -- a call on the disk has failed
  fails-lent : (x : SpaceFault) → FailsLent faults x a b → Fails faults x disk e store b.store.now
  fails-lent x fails =
      subst (λ (s : State). Fails faults x disk e s b.store.now) is.store_is
      (subst (λ (d : D). Fails faults x d e a.store.now b.store.now) is.disk_is
      (subst (λ (d : D). Fails faults x a.disk.now d a.store.now b.store.now) (sym same) fails))

  failed : (x : SpaceFault) (Same : Type 0) → IsRefused Same (FailsLent faults x a b) x → MeansDown x → FailsLent faults x a b
  failed Fault Same refused means = refused
  failed Down Same refused means = refused
  failed (DataFull used total) Same refused means = absurd means
  failed (TempFull used total) Same refused means = absurd means
  failed (LogFull used need total) Same refused means = absurd means
  failed (GatesFull used total) Same refused means = absurd means
  failed (Damaged page) Same refused means = absurd means
  failed NoMemory Same refused means = absurd means

  pub looked-fails : {T : Type 0} (Same : Type 0) (r : Result T SpaceFault) → IfErr r (λ x. IsRefused Same (FailsLent faults x a b) x)
      → IfErr r (λ x. MeansDown x → Fails faults x disk e store b.store.now)
  looked-fails Same (Ok x) refused = tt
  looked-fails Same (Err x) refused = λ means. fails-lent x (failed x Same refused means)
