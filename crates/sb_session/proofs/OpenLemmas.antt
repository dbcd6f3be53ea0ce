-- Open transactions and what they stand for.
use Rattle.std.proofs.Common.{◌≡◌, ℕ, ◌+◌, ◌≤◌, List, Option, Some, None, refl, sym, ap, ◌∙◌, subst, arith}
use Rattle.sb_relation.specs.Db.{Db}
use Rattle.sb_fold.specs.Outcome.{Going, Gone, Queue}
use Rattle.sb_plain.specs.State.{State, Transaction as PlainTransaction, with_spent}
use Rattle.sb_registry.specs.Boxes.{Meanings}
use Rattle.sb_drive.specs.Spaces.{Wanted}
use Rattle.sb_transactions.specs.Place.{Place}
use Rattle.sb_transactions.specs.Spent.{HasSpent}
use Rattle.sb_txn.specs.Parts.{Parts}
use Rattle.sb_transactions.specs.Measures.{AreHeld}
use Rattle.sb_transactions.specs.Work.{Work}
use Rattle.sb_transactions.specs.Working.{IsNoneGone, IsPaid}
use Rattle.sb_transactions.specs.declared.transactions.Transaction.{Transaction}
use Rattle.sb_transactions.specs.Transactions.{IsAt, IsSettled, Rests, WasBegun}
use Rattle.sb_session.specs.declared.session.Open.{Open}
use Rattle.sb_session.specs.declared.session.Savepoint.{Savepoint}
use Rattle.sb_session.specs.Sessions.{AreSavepoints, IsInside, IsOpenFor, going_in}

-- what work has come to is its database, what waits, the picks that were used, and what is gone
pub IsAt-same : (m : Meanings) (place : Place) (want : Wanted) (tx : ℕ) (g h : Going) (p : Parts) (w : Work) → h.db ≡ g.db → h.queue ≡ g.queue → h.used ≡ g.used → h.gone ≡ g.gone
    → IsAt m place want tx g p w → IsAt m place want tx h p w
IsAt-same m place want tx g h p w db queue used same at = record {
  usable = at.usable;
  slots = at.slots;
  kept = at.kept;
  has = at.has;
  db = db ∙ at.db;
  keeps = at.keeps;
  settled = subst (λ (q : Queue). IsSettled m at.kept q) (sym queue) at.settled;
  opened = at.opened;
  waits = at.waits ∙ sym queue;
  picked = at.picked ∙ sym used;
  gone = λ none. at.gone (subst (λ (x : Gone). IsNoneGone x) same none);
  aside = subst (λ (x : Gone). AreHeld at.slots w.gone.items x.durable) (sym same) at.aside;
}

-- what was enough stays so where more is paid
pub paid_more : {S : Type 0} (Spent : ℕ → S → Type 0) (few many : ℕ) (x : S) → few ≤ many → IsPaid Spent 0 few x → IsPaid Spent 0 many x
paid_more Spent few many x less is = record { changes = is.changes; within = omega (arith, is.within, less); spent = is.spent }

pub with_spent-inside : (n : ℕ) (s : State) (t : PlainTransaction) → s.transaction ≡ Some t → with_spent n s ≡ record s { transaction = Some (record t { spent = n }) }
with_spent-inside n s t inside = ap (λ (o : Option PlainTransaction). elim o as (λ _. State) [ None ↦ s | Some t ↦ record s { transaction = Some (record t { spent = n }) } ]) inside

module _ (m : Meanings) (place : Place) (want : Wanted) (db : Db) (p : Parts) where
  -- where more was spent
  pub IsInside-spent : (n : ℕ) (o : Open) (t : PlainTransaction) → t.spent ≤ n → IsInside m place want db p o t → IsInside m place want db p o (record t { spent = n })
  IsInside-spent n o t less inside = record {
    at = IsAt-same m place want o.transaction.tx.store.number (going_in t) (going_in (record t { spent = n })) p o.transaction.work refl refl refl refl inside.at;
    begun = inside.begun;
    points = inside.points;
    spent = paid_more HasSpent (t.spent + 1) (n + 1) p.store (omega (arith, less)) inside.spent;
  }

  pub IsOpenFor-spent : (n : ℕ) (o : Option Open) (t : PlainTransaction) → t.spent ≤ n → IsOpenFor m place want db p o (Some t)
      → IsOpenFor m place want db p o (Some (record t { spent = n }))
  IsOpenFor-spent n None t less none = none
  IsOpenFor-spent n (Some o) t less inside = IsInside-spent n o t less inside

  -- a session without a transaction stands for a state without one
  pub record Outside (transaction : Option PlainTransaction) : Type 0 where
    pub none : transaction ≡ None
    pub rests : Rests m place.root want db p

  pub outside_at : (transaction : Option PlainTransaction) → IsOpenFor m place want db p None transaction → Outside transaction
  outside_at None rests = record { none = refl; rests = rests }
  outside_at (Some t) opened = absurd opened

  pub outside : (o : Option Open) (transaction : Option PlainTransaction) → o ≡ None → IsOpenFor m place want db p o transaction → Outside transaction
  outside o transaction is opened = outside_at transaction (subst (λ (o : Option Open). IsOpenFor m place want db p o transaction) is opened)

  -- one with a transaction for a state with one
  pub record Inside (o : Open) (transaction : Option PlainTransaction) : Type 0 where
    pub of : PlainTransaction
    pub is : transaction ≡ Some of
    pub inside : IsInside m place want db p o of

  pub inside_at : (o : Open) (transaction : Option PlainTransaction) → IsOpenFor m place want db p (Some o) transaction → Inside o transaction
  inside_at o None opened = absurd opened
  inside_at o (Some t) inside = record { of = t; is = refl; inside = inside }

  pub inside : (o : Open) (of : Option Open) (transaction : Option PlainTransaction) → of ≡ Some o → IsOpenFor m place want db p of transaction → Inside o transaction
  inside o of transaction is opened = inside_at o transaction (subst (λ (o : Option Open). IsOpenFor m place want db p o transaction) is opened)

  -- the same transaction with the same savepoints
  pub IsInside-same : (a b : Open) (t : PlainTransaction) → b.transaction ≡ a.transaction → b.points.items ≡ a.points.items → IsInside m place want db p a t → IsInside m place want db p b t
  IsInside-same a b t same points inside = record {
    at = subst (λ (x : Transaction). IsAt m place want x.tx.store.number (going_in t) p x.work) (sym same) inside.at;
    begun = subst (λ (x : Transaction). WasBegun m place.root want db x.tx.store.number p) (sym same) inside.begun;
    points = subst (λ (x : Transaction). AreSavepoints m place want x.tx.store.number p x.work b.points.items t.points) (sym same)
        (subst (λ (ones : List Savepoint). AreSavepoints m place want a.transaction.tx.store.number p a.transaction.work ones t.points) (sym points) inside.points);
    spent = inside.spent;
  }
