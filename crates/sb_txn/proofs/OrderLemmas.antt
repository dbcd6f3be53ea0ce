-- A store whose book has one of the active transactions first, and one in the place of another.
use Rattle.std.proofs.Common.{◌≡◌, ℕ, ◌≤◌, Option, Some, List, [], ◌∷◌, ◌++◌, length, refl, sym, ◌∙◌, ap, subst, arith}
use Rattle.std.specs.List.{All}
use Rattle.std.proofs.lemmas.List.{length-append}
use Rattle.std.proofs.lemmas.List.Elements.{All-cons, All-head, All-tail}
use Rattle.sb_disk.specs.Disk.{Story}
use Rattle.sb_journal.specs.State.{used_of}
use Rattle.sb_journal.specs.State as journal
use Rattle.sb_log.specs.declared.geometry.Geometry.{Geometry}
use Rattle.sb_log.specs.Records.{Record}
use Rattle.sb_log.specs.Views.{Active, active_with, IsInactive}
use Rattle.sb_log.proofs.WholeLemmas.{IsWhole-front, IsWhole-place}
use Rattle.sb_images.specs.Store.{IsStoreOn}
use Rattle.sb_images.proofs.StoreLemmas.{IsStoreOn-step}
use Rattle.sb_pool.specs.State as pool
use Rattle.sb_txn.specs.Ahead.{Leans}
use Rattle.sb_txn.specs.Book.{ActiveTransaction, Book, views, begun_in, transaction_with, others, put_in, with_actives}
use Rattle.sb_txn.specs.Clauses.{HasRoom}
use Rattle.sb_txn.specs.Parts.{stored}
use Rattle.sb_txn.specs.State.{State, together}
use Rattle.sb_txn.specs.Tied.{AreTransactionsOf, AreOnce, Holds}
use Rattle.sb_txn.proofs.CalledLemmas.{IsAt, transaction_with-split}

-- ---- one of a list comes to the front, and goes back to its place
-- the list of actives is in the same order
pub views-append : (xs ys : List ActiveTransaction) → views (xs ++ ys) ≡ views xs ++ views ys
views-append [] ys = refl
views-append (x ∷ xs) ys = ap (λ (l : List Active). active_with x.tx (length x.undos) ∷ l) (views-append xs ys)

length-front : (before : List ActiveTransaction) (o : ActiveTransaction) (behind : List ActiveTransaction) → length (before ++ o ∷ behind) ≡ length (o ∷ (before ++ behind))
length-front before o behind = let e = length-append before (o ∷ behind) in let f = length-append before behind in omega arith

begun_in-front : (before : List ActiveTransaction) (o : ActiveTransaction) (behind : List ActiveTransaction) → begun_in (before ++ o ∷ behind) ≡ begun_in (o ∷ (before ++ behind))
begun_in-front [] o behind = refl
begun_in-front (b ∷ before) o behind = let e = begun_in-front before o behind in omega arith

All-front : (P : ActiveTransaction → Type 0) (before : List ActiveTransaction) (o : ActiveTransaction) (behind : List ActiveTransaction) → All P (before ++ o ∷ behind) → All P (o ∷ (before ++ behind))
All-front P [] o behind all = all
All-front P (b ∷ before) o behind all =
    let front = All-front P before o behind (All-tail P b (before ++ o ∷ behind) all) in
    All-cons P o (b ∷ (before ++ behind)) (All-head P o (before ++ behind) front)
    (All-cons P b (before ++ behind) (All-head P b (before ++ o ∷ behind) all) (All-tail P o (before ++ behind) front))

All-place : (P : ActiveTransaction → Type 0) (before : List ActiveTransaction) (o : ActiveTransaction) (behind : List ActiveTransaction) → All P (o ∷ (before ++ behind)) → All P (before ++ o ∷ behind)
All-place P [] o behind all = all
All-place P (b ∷ before) o behind all =
    let rest = All-tail P o (b ∷ (before ++ behind)) all in
    All-cons P b (before ++ o ∷ behind) (All-head P b (before ++ behind) rest)
    (All-place P before o behind (All-cons P o (before ++ behind) (All-head P o (b ∷ (before ++ behind)) all) (All-tail P b (before ++ behind) rest)))

module _ (count : ℕ) (recs : List Record) (next : ℕ) where
  AreTransactionsOf-front : (before : List ActiveTransaction) (o : ActiveTransaction) (behind : List ActiveTransaction) → AreTransactionsOf count recs next (before ++ o ∷ behind) → AreTransactionsOf count recs next (o ∷ (before ++ behind))
  AreTransactionsOf-front [] o behind are = are
  AreTransactionsOf-front (b ∷ before) o behind are = let front = AreTransactionsOf-front before o behind are.1 in (front.0, (are.0, front.1))

  AreTransactionsOf-place : (before : List ActiveTransaction) (o : ActiveTransaction) (behind : List ActiveTransaction) → AreTransactionsOf count recs next (o ∷ (before ++ behind)) → AreTransactionsOf count recs next (before ++ o ∷ behind)
  AreTransactionsOf-place [] o behind are = are
  AreTransactionsOf-place (b ∷ before) o behind are = (are.1.0, AreTransactionsOf-place before o behind (are.0, are.1.1))

module _ (tx : ℕ) where
  IsInactive-front : (before : List ActiveTransaction) (o : ActiveTransaction) (behind : List ActiveTransaction) → IsInactive tx (views (before ++ o ∷ behind)) → IsInactive tx (views (o ∷ (before ++ behind)))
  IsInactive-front [] o behind idle = idle
  IsInactive-front (b ∷ before) o behind idle = let front = IsInactive-front before o behind idle.1 in (front.0, (idle.0, front.1))

  IsInactive-place : (before : List ActiveTransaction) (o : ActiveTransaction) (behind : List ActiveTransaction) → IsInactive tx (views (o ∷ (before ++ behind))) → IsInactive tx (views (before ++ o ∷ behind))
  IsInactive-place [] o behind idle = idle
  IsInactive-place (b ∷ before) o behind idle = (idle.1.0, IsInactive-place before o behind (idle.0, idle.1.1))

AreOnce-front : (before : List ActiveTransaction) (o : ActiveTransaction) (behind : List ActiveTransaction) → AreOnce (before ++ o ∷ behind) → AreOnce (o ∷ (before ++ behind))
AreOnce-front [] o behind once = once
AreOnce-front (b ∷ before) o behind once =
    let front = AreOnce-front before o behind once.1 in
    let idle = IsInactive-front b.tx before o behind once.0 in
    (((λ e. idle.0 (sym e)), front.0), (idle.1, front.1))

AreOnce-place : (before : List ActiveTransaction) (o : ActiveTransaction) (behind : List ActiveTransaction) → AreOnce (o ∷ (before ++ behind)) → AreOnce (before ++ o ∷ behind)
AreOnce-place [] o behind once = once
AreOnce-place (b ∷ before) o behind once =
    (IsInactive-place b.tx before o behind ((λ e. once.0.0 (sym e)), once.1.0), AreOnce-place before o behind (once.0.1, once.1.1))

module _ (want now : ℕ → List ℕ) (told : Option Story) (j : journal.State) (g : Geometry) (opened pending : List Record) (before : List ActiveTransaction) (o : ActiveTransaction) (behind : List ActiveTransaction) where
  abbrev a : Active
  a = active_with o.tx (length o.undos)

  IsStoreOn-front : IsStoreOn want now told j g opened pending (views (before ++ o ∷ behind)) → IsStoreOn want now told j g opened pending (views (o ∷ (before ++ behind)))
  IsStoreOn-front store =
      subst (λ (l : List Active). IsStoreOn want now told j g opened pending (a ∷ l)) (sym (views-append before behind))
      (IsStoreOn-step want now j g opened pending (views before ++ a ∷ views behind) now (a ∷ (views before ++ views behind)) told
      (λ disk whole. IsWhole-front g.pages disk now opened pending (views before) a (views behind) whole)
      (subst (λ (l : List Active). IsStoreOn want now told j g opened pending l) (views-append before (o ∷ behind)) store))

  IsStoreOn-place : IsStoreOn want now told j g opened pending (views (o ∷ (before ++ behind))) → IsStoreOn want now told j g opened pending (views (before ++ o ∷ behind))
  IsStoreOn-place store =
      subst (λ (l : List Active). IsStoreOn want now told j g opened pending l) (sym (views-append before (o ∷ behind)))
      (IsStoreOn-step want now j g opened pending (a ∷ (views before ++ views behind)) now (views before ++ a ∷ views behind) told
      (λ disk whole. IsWhole-place g.pages disk now opened pending (views before) a (views behind) whole)
      (subst (λ (l : List Active). IsStoreOn want now told j g opened pending (a ∷ l)) (views-append before behind) store))

-- ---- the list of a book
module _ (tx : ℕ) (os : List ActiveTransaction) (o : ActiveTransaction) (is : transaction_with tx os ≡ Some o) where
  place : IsAt os (others tx os) o
  place = transaction_with-split tx os o is

  -- a fact that stays when it comes to the front
  front : (P : List ActiveTransaction → Type 0) → ((before behind : List ActiveTransaction) → P (before ++ o ∷ behind) → P (o ∷ (before ++ behind))) → P os → P (o ∷ others tx os)
  front P step has = subst (λ (l : List ActiveTransaction). P (o ∷ l)) (sym place.rest_is) (step place.before place.behind (subst P place.is has))

  pub length-first : length (o ∷ others tx os) ≡ length os
  length-first = front (λ (l : List ActiveTransaction). length l ≡ length os) (λ before behind e. sym (length-front before o behind) ∙ e) refl

  begun_in-first : begun_in (o ∷ others tx os) ≡ begun_in os
  begun_in-first = front (λ (l : List ActiveTransaction). begun_in l ≡ begun_in os) (λ before behind e. sym (begun_in-front before o behind) ∙ e) refl

  -- a fact that stays when another goes to its place
  module _ (x : ActiveTransaction) (own : x.tx ≡ o.tx) where
    put : (P : List ActiveTransaction → Type 0) → ((before behind : List ActiveTransaction) → P (x ∷ (before ++ behind)) → P (before ++ x ∷ behind)) → P (x ∷ others tx os) → P (put_in x os)
    put P step has = subst P (sym (place.put x own)) (step place.before place.behind (subst (λ (l : List ActiveTransaction). P (x ∷ l)) place.rest_is has))

    length-put : length (put_in x os) ≡ length (x ∷ others tx os)
    length-put = put (λ (l : List ActiveTransaction). length l ≡ length (x ∷ others tx os)) (λ before behind e. length-front before x behind ∙ e) refl

    begun_in-put : begun_in (put_in x os) ≡ begun_in (x ∷ others tx os)
    begun_in-put = put (λ (l : List ActiveTransaction). begun_in l ≡ begun_in (x ∷ others tx os)) (λ before behind e. begun_in-front before x behind ∙ e) refl

-- ---- a store with the transaction first
module _ (want now : ℕ → List ℕ) (told : Option Story) (size : ℕ) (j : journal.State) (p : pool.State) (book : Book) (opened pending : List Record) (tx : ℕ) (o : ActiveTransaction) (is : transaction_with tx book.actives ≡ Some o) where
  pub Holds-first : Holds want now opened pending (stored told size j p book) → Holds want now opened pending (stored told size j p (with_actives book (o ∷ others tx book.actives)))
  Holds-first holds =
      let count = length-first tx book.actives o is in
      let begun = begun_in-first tx book.actives o is in
      record {
        up = holds.up;
        store = front tx book.actives o is (λ (l : List ActiveTransaction). IsStoreOn want now told j p.geometry opened pending (views l))
            (λ before behind store. IsStoreOn-front want now told j p.geometry opened pending before o behind store) holds.store;
        serves = holds.serves;
        agrees = holds.agrees;
        pages = holds.pages;
        tied = holds.tied;
        knows = record {
          images = holds.knows.images;
          count = holds.knows.count;
          actives = front tx book.actives o is (λ (l : List ActiveTransaction). AreTransactionsOf p.geometry.pages (opened ++ pending) book.next l)
              (λ before behind are. AreTransactionsOf-front p.geometry.pages (opened ++ pending) book.next before o behind are) holds.knows.actives;
          fresh = holds.knows.fresh;
          once = front tx book.actives o is (λ (l : List ActiveTransaction). AreOnce l) (λ before behind once. AreOnce-front before o behind once) holds.knows.once;
          most = let h = holds.knows.most in omega arith;
        };
        spare = record {
          few = front tx book.actives o is (λ (l : List ActiveTransaction). All (λ (x : ActiveTransaction). length x.undos ≤ used_of j) l)
              (λ before behind all. All-front (λ (x : ActiveTransaction). length x.undos ≤ used_of j) before o behind all) holds.spare.few;
          room = let h = holds.spare.room in omega arith;
          gates = let h = holds.spare.gates in omega arith;
        };
      }

-- there is as much room
pub HasRoom-first : (s : State) (tx : ℕ) (o : ActiveTransaction) (page count : ℕ) → transaction_with tx s.book.actives ≡ Some o → HasRoom s o page count → HasRoom (together s.journal s.pool (with_actives s.book (o ∷ others tx s.book.actives))) o page count
HasRoom-first s tx o page count is room =
    let same = length-first tx s.book.actives o is in
    record { bytes = let h = room.bytes in omega arith; gates = let h = room.gates in omega arith }

-- ---- a store with a transaction in the place of another
module _ (want now then : ℕ → List ℕ) (told : Option Story) (size : ℕ) (j : journal.State) (p : pool.State) (book : Book) (opened pending : List Record) (tx : ℕ) (os : List ActiveTransaction) (o : ActiveTransaction)
    (is : transaction_with tx os ≡ Some o) (x : ActiveTransaction) (own : x.tx ≡ o.tx) where
  pub Leans-put : Leans want now then opened pending (stored told size j p (with_actives book (x ∷ others tx os))) → Leans want now then opened pending (stored told size j p (with_actives book (put_in x os)))
  Leans-put leans =
      let count = length-put tx os o is x own in
      let begun = begun_in-put tx os o is x own in
      record {
        up = leans.up;
        store = put tx os o is x own (λ (l : List ActiveTransaction). IsStoreOn want then told j p.geometry opened pending (views l))
            (λ before behind store. IsStoreOn-place want then told j p.geometry opened pending before x behind store) leans.store;
        serves = leans.serves;
        agrees = leans.agrees;
        pages = leans.pages;
        tied = leans.tied;
        knows = record {
          images = leans.knows.images;
          count = leans.knows.count;
          actives = put tx os o is x own (λ (l : List ActiveTransaction). AreTransactionsOf p.geometry.pages (opened ++ pending) book.next l)
              (λ before behind are. AreTransactionsOf-place p.geometry.pages (opened ++ pending) book.next before x behind are) leans.knows.actives;
          fresh = leans.knows.fresh;
          once = put tx os o is x own (λ (l : List ActiveTransaction). AreOnce l) (λ before behind once. AreOnce-place before x behind once) leans.knows.once;
          most = let h = leans.knows.most in omega arith;
        };
        spare = record {
          few = put tx os o is x own (λ (l : List ActiveTransaction). All (λ (y : ActiveTransaction). length y.undos ≤ used_of j) l)
              (λ before behind all. All-place (λ (y : ActiveTransaction). length y.undos ≤ used_of j) before x behind all) leans.spare.few;
          room = let h = leans.spare.room in omega arith;
          gates = let h = leans.spare.gates in omega arith;
        };
      }
