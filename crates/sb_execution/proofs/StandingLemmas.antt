-- What goes on standing of a transaction while a command works in it.
use Rattle.std.proofs.Common.{◌≡◌, ℕ, ◌+◌, ◌≤◌, List, length, take, get_or, All, Some, sym, ap, ◌∙◌, subst, arith}
use Rattle.sb_relation.specs.Db.{Db}
use Rattle.sb_fold.specs.Outcome.{Going, Queue}
use Rattle.sb_deferred.specs.Waiting.{IsWithin}
use Rattle.sb_registry.specs.Boxes.{Meanings}
use Rattle.sb_drive.specs.Spaces.{Wanted}
use Rattle.sb_map.specs.declared.place.Place.{Place}
use Rattle.sb_standing.specs.Standing.{Keeps}
use Rattle.sb_engine.specs.OpenRelation.{OpenRelation}
use Rattle.sb_engine.specs.Opened.{IsDurable, IsOpen}
use Rattle.sb_space.specs.Spent.{HasSpent}
use Rattle.sb_txn.specs.Parts.{Parts}
use Rattle.sb_engine.specs.declared.running.Work.{Work}
use Rattle.sb_engine.specs.Measures.{AreHeld}
use Rattle.sb_engine.specs.Working.{AreOpened, IsPaid}
use Rattle.sb_session.specs.Point.{Point}
use Rattle.sb_session.specs.Transactions.{IsAt, IsPointOf, IsUsable, WasBegun, WasSo, unused, waited_at}
use Rattle.sb_session.proofs.WorkLemmas.{left_same}
use Rattle.sb_plain.specs.State.{Point as PlainPoint, Transaction as PlainTransaction}
use Rattle.sb_session.specs.declared.session.Open.{Open}
use Rattle.sb_session.specs.declared.session.Savepoint.{Savepoint}
use Rattle.sb_session.specs.Sessions.{AreInOrder, AreSavepoints, CanGoOn, IsInside, going_in}
use Rattle.sb_session.proofs.PointLemmas.{AreSavepoints-kept}
use Rattle.sb_execution.specs.Endings.{IsTaken}

-- ---- work that differs in what it has open and what it picked
pub IsPointOf-beside : (tx : ℕ) (point : Point) (p : Parts) (v w : Work) → w.queue ≡ v.queue → w.gone.items ≡ v.gone.items → IsPointOf tx point p v → IsPointOf tx point p w
IsPointOf-beside tx point p v w queue gone of = record {
  changes = of.changes;
  queue = subst (λ (q : Queue). IsWithin point.queue q) (sym queue) of.queue;
  done = of.done;
  gone = subst (λ (xs : List ℕ). point.gone ≤ length xs) (sym gone) of.gone;
}

module _ (m : Meanings) (place : Place) where
  pub WasSo-beside : (want : Wanted) (tx : ℕ) (g : Going) (point : Point) (p : Parts) (v w : Work) → w.queue ≡ v.queue → w.gone.items ≡ v.gone.items
      → WasSo m place want tx g point p v → WasSo m place want tx g point p w
  WasSo-beside want tx g point p v w queue gone so = record {
    of = IsPointOf-beside tx point p v w queue gone so.of;
    slots = so.slots;
    kept = so.kept;
    was = so.was;
    db = so.db;
    keeps = subst (λ (xs : List ℕ). Keeps m IsDurable place.root so.slots (take point.gone xs) so.kept) (sym gone) so.keeps;
    settled = so.settled;
    waited = ap (waited_at point) queue ∙ so.waited;
    gone = λ none. ap (take point.gone) gone ∙ so.gone none;
    aside = subst (λ (xs : List ℕ). AreHeld so.slots (take point.gone xs) g.gone.durable) (sym gone) so.aside;
  }

  -- its picks were taken
  pub IsUsable-taken : (tx : ℕ) (p : Parts) (v w : Work) → IsTaken v w → IsUsable m place tx p v → IsUsable m place tx p w
  IsUsable-taken tx p v w taken usable = record {
    ready = usable.ready;
    owner = usable.owner;
    opened = subst (λ (xs : List OpenRelation). All (IsOpen m) xs) (sym taken.opened) usable.opened;
    within = let done = taken.done in let long = ap (λ (q : Queue). length q.actions) taken.queue in let within = usable.within in omega arith;
  }

  pub IsAt-taken : (want : Wanted) (tx : ℕ) (g : Going) (p : Parts) (v w : Work) → IsTaken v w → IsAt m place want tx g p v → IsAt m place want tx (unused g) p w
  IsAt-taken want tx g p v w taken at = record {
    usable = IsUsable-taken tx p v w taken at.usable;
    slots = at.slots;
    kept = at.kept;
    has = at.has;
    db = at.db;
    keeps = subst (λ (xs : List ℕ). Keeps m IsDurable place.root at.slots xs at.kept) (sym taken.gone) at.keeps;
    settled = at.settled;
    opened = subst (λ (xs : List OpenRelation). AreOpened m at.kept xs) (sym taken.opened) at.opened;
    waits = left_same v w taken.done taken.queue ∙ at.waits;
    picked = taken.picks;
    gone = λ none. taken.gone ∙ at.gone none;
    aside = subst (λ (xs : List ℕ). AreHeld at.slots xs g.gone.durable) (sym taken.gone) at.aside;
  }

  -- ---- what goes on standing
  -- work can go on; and what the transaction was begun over, and what its points were, they are still
  pub record Stays (tx : ℕ) (p q : Parts) (v w : Work) : Type 0 where
    pub usable : IsUsable m place tx q w
    pub begun : (want : Wanted) (db : Db) → WasBegun m place.root want db tx p → WasBegun m place.root want db tx q
    pub was : (want : Wanted) (g : Going) (one : Point) → WasSo m place want tx g one p v → WasSo m place want tx g one q w
    pub stand : (one : Point) → IsPointOf tx one p v → IsPointOf tx one q w

  pub Stays-then : (tx : ℕ) (p q r : Parts) (u v w : Work) → Stays tx p q u v → Stays tx q r v w → Stays tx p r u w
  Stays-then tx p q r u v w one two = record {
    usable = two.usable;
    begun = λ want db is. two.begun want db (one.begun want db is);
    was = λ want g point so. two.was want g point (one.was want g point so);
    stand = λ point of. two.stand point (one.stand point of);
  }

  pub Stays-beside : (tx : ℕ) (p : Parts) (v w : Work) → w.queue ≡ v.queue → w.gone.items ≡ v.gone.items → IsUsable m place tx p w → Stays tx p p v w
  Stays-beside tx p v w queue gone usable = record {
    usable = usable;
    begun = λ want db is. is;
    was = λ want g point so. WasSo-beside want tx g point p v w queue gone so;
    stand = λ point of. IsPointOf-beside tx point p v w queue gone of;
  }

  -- the same of open transactions with the same savepoints
  module _ (p q : Parts) (o now : Open) (number : now.transaction.tx.store.number ≡ o.transaction.tx.store.number) (listed : now.points.items ≡ o.points.items)
      (stays : Stays o.transaction.tx.store.number p q o.transaction.work now.transaction.work) where
    abbrev tx : ℕ
    tx = o.transaction.tx.store.number

    pub CanGoOn-stays : CanGoOn m place p (Some o) → CanGoOn m place q (Some now)
    CanGoOn-stays goes = (
      subst (λ (n : ℕ). IsUsable m place n q now.transaction.work) (sym number) stays.usable,
      subst (λ (n : ℕ). All (λ one. IsPointOf n one.point q now.transaction.work) now.points.items) (sym number)
          (subst (λ (ones : List Savepoint). All (λ one. IsPointOf tx one.point q now.transaction.work) ones) (sym listed)
          (λ k d h. stays.stand (get_or o.points.items k d).point (goes.1 k d h))),
      subst (λ (ones : List Savepoint). AreInOrder ones) (sym listed) goes.2,
    )

    pub IsInside-stays : (want : Wanted) (db : Db) (t u : PlainTransaction) → u.points ≡ t.points → IsInside m place want db p o t
        → IsAt m place want tx (going_in u) q now.transaction.work → IsPaid HasSpent 0 (u.spent + 1) q.store → IsInside m place want db q now u
    IsInside-stays want db t u same inside at paid = record {
      at = subst (λ (n : ℕ). IsAt m place want n (going_in u) q now.transaction.work) (sym number) at;
      begun = subst (λ (n : ℕ). WasBegun m place.root want db n q) (sym number) (stays.begun want db inside.begun);
      points = subst (λ (n : ℕ). AreSavepoints m place want n q now.transaction.work now.points.items u.points) (sym number)
          (subst (λ (ones : List Savepoint). AreSavepoints m place want tx q now.transaction.work ones u.points) (sym listed)
          (let P : List PlainPoint → Type 0 = λ ps. AreSavepoints m place want tx q now.transaction.work o.points.items ps in
          subst P (sym same)
          (AreSavepoints-kept m place want tx p q o.transaction.work now.transaction.work (stays.was want) o.points.items t.points inside.points)));
      spent = paid;
    }
