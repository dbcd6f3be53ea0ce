-- What a checkpoint and a begin leave of a store.
use Rattle.std.proofs.Common.{◌≡◌, ℕ, ◌+◌, ◌<◌, ◌≤◌, false, cond, Option, List, [], ◌∷◌, ◌++◌, length, replicate, refl, sym, ◌∙◌, ap, subst, arith}
use Rattle.std.proofs.lemmas.List.{append-nil, get_or-replicate, length-replicate, length_push}
use Rattle.std.proofs.lemmas.List.Elements.{All-nil, All-cons, All-append}
use Rattle.sb_disk.specs.Disk.{Story}
use Rattle.sb_journal.specs.State.{used_of, after_force, after_close}
use Rattle.sb_journal.specs.State as journal
use Rattle.sb_log.specs.declared.geometry.Geometry.{Geometry}
use Rattle.sb_log.specs.Records.{Change, Record}
use Rattle.sb_log.specs.Standing.{keep, standing, own_changes, count_of}
use Rattle.sb_log.specs.Views.{Active, active_with, IsInactive}
use Rattle.sb_log.specs.Whole.{IsWhole}
use Rattle.sb_log.proofs.StandingLemmas.{own_changes-keep, AreBelow-higher, AreBelow-committed, AreBelow-standing, count_of-none}
use Rattle.sb_log.proofs.WholeLemmas.{IsWhole-active, IsWhole-place}
use Rattle.sb_images.specs.Store.{IsStoreOn}
use Rattle.sb_images.proofs.StoreLemmas.{IsStoreOn-step}
use Rattle.sb_pool.specs.Calls.{Serves, AreTied}
use Rattle.sb_pool.specs.Pages.{AgreesOn, ArePagesOn}
use Rattle.sb_pool.specs.State.{flushed}
use Rattle.sb_pool.specs.State as pool
use Rattle.sb_pool.proofs.FlushLemmas.{flushed-clean}
use Rattle.sb_pool.proofs.TieLemmas.{AreTied-clean}
use Rattle.sb_txn.specs.Book.{ActiveTransaction, Book, views, begun_in, new_transaction, begun_book, emptied_book}
use Rattle.sb_txn.specs.Tied.{AreUndos, IsTransactionOf, AreTransactionsOf, AreOnce, IsBookOf, HasReserve, Holds}
use Rattle.sb_txn.specs.Clauses.{Checkpoints, MakesRoom}
use Rattle.sb_txn.specs.Parts.{Parts, stored}
use Rattle.sb_txn.specs.Steps.{TakesCheckpoint}
use Rattle.sb_txn.proofs.OrderLemmas.{views-append}

-- ---- a checkpoint
IsBookOf-emptied : (count : ℕ) (recs : List Record) (book : Book) → book.actives ≡ [] → IsBookOf count recs book → IsBookOf count [] (emptied_book book)
IsBookOf-emptied count recs book none knows = record {
  images = λ q lt. get_or-replicate (length book.imaged) q false false (let e = knows.count in omega arith);
  count = length-replicate (length book.imaged) false ∙ knows.count;
  actives = subst (λ (l : List ActiveTransaction). AreTransactionsOf count [] 1 l) (sym none) tt;
  fresh = tt;
  once = knows.once;
  most = knows.most;
}

HasReserve-emptied : (j : journal.State) (book : Book) → book.actives ≡ [] → HasReserve (after_close j) (emptied_book book)
HasReserve-emptied j book none =
    let empty : HasReserve (after_close j) (record { next = 1; imaged = replicate (length book.imaged) false; actives = []; down = book.down }) = record {
      few = All-nil (λ (o : ActiveTransaction). length o.undos ≤ 0);
      room = omega arith;
      gates = omega arith;
    } in
    subst (λ (l : List ActiveTransaction). HasReserve (after_close j) (record { next = 1; imaged = replicate (length book.imaged) false; actives = l; down = book.down })) (sym none) empty

module _ (want now : ℕ → List ℕ) (told new : Option Story) (size len : ℕ) (j l : journal.State) (p after : pool.State) (book : Book) (opened pending : List Record) where
  pub Holds-checkpoint : Holds want now opened pending (stored told size j p book) → book.actives ≡ [] → l ≡ after_close (after_force j) → after ≡ flushed p → IsStoreOn want now new l p.geometry [] [] []
      → Serves new len l after.geometry → AgreesOn new l after → ArePagesOn now new l after → Holds want now [] [] (stored new len l after (emptied_book book))
  Holds-checkpoint holds none done is store serves agrees pages =
      let same : after.geometry ≡ p.geometry = ap (λ (x : pool.State). x.geometry) is in
      record {
        up = ap (λ (x : journal.State). x.failed) done ∙ holds.up;
        store = subst (λ (o : List ActiveTransaction). IsStoreOn want now new l after.geometry [] [] (views o)) (sym none) (subst (λ (g : Geometry). IsStoreOn want now new l g [] [] []) (sym same) store);
        serves = serves;
        agrees = agrees;
        pages = pages;
        tied = subst (λ (x : pool.State). AreTied x l [] []) (sym is) (AreTied-clean (flushed p) l [] [] (flushed-clean p));
        knows = subst (λ (g : Geometry). IsBookOf g.pages [] (emptied_book book)) (sym same) (IsBookOf-emptied p.geometry.pages (opened ++ pending) book none holds.knows);
        spare = subst (λ (k : journal.State). HasReserve k (emptied_book book)) (sym done) (HasReserve-emptied (after_force j) book none);
      }

pub used-closed : (j l : journal.State) → l ≡ after_close j → (used_of l ≡ 0) × (l.lens ≡ [])
used-closed j l done = (ap (λ (k : journal.State). used_of k) done, ap (λ (k : journal.State). k.lens) done)

-- ---- a begin
module _ (count tx : ℕ) (recs : List Record) where
  take_none : (cs : List Change) → own_changes tx (keep tx 0 cs) ≡ []
  take_none cs = own_changes-keep tx 0 cs

  pub IsTransactionOf-new : (next : ℕ) → tx < next → count_of tx (standing recs) ≡ 0 → IsTransactionOf count recs next (new_transaction tx)
  IsTransactionOf-new next lt none = record {
    undos = subst (λ (cs : List Change). AreUndos [] cs) (sym (take_none (standing recs))) tt;
    logged = λ _. omega arith;
    none = λ _. refl;
    number = lt;
    fit = tt;
  }

-- ---- it is the last of the active ones
begun_in-last : (os : List ActiveTransaction) (o : ActiveTransaction) → begun_in (os ++ o ∷ []) ≡ begun_in os + cond o.begun 1 0
begun_in-last [] o = omega arith
begun_in-last (x ∷ os) o = let e = begun_in-last os o in omega arith

module _ (count : ℕ) (recs : List Record) (next more : ℕ) (le : next ≤ more) where
  AreTransactionsOf-last : (os : List ActiveTransaction) (o : ActiveTransaction) → AreTransactionsOf count recs next os → IsTransactionOf count recs more o → AreTransactionsOf count recs more (os ++ o ∷ [])
  AreTransactionsOf-last [] o are is = (is, tt)
  AreTransactionsOf-last (x ∷ os) o are is = (
    record { undos = are.0.undos; logged = are.0.logged; none = are.0.none; number = let h = are.0.number in omega arith; fit = are.0.fit },
    AreTransactionsOf-last os o are.1 is,
  )

-- its number is none of theirs
IsInactive-next : (count : ℕ) (recs : List Record) (next : ℕ) (os : List ActiveTransaction) → AreTransactionsOf count recs next os → IsInactive next (views os)
IsInactive-next count recs next [] are = tt
IsInactive-next count recs next (o ∷ os) are = ((λ e. absurd (let h = are.0.number in omega arith)), IsInactive-next count recs next os are.1)

IsInactive-last : (tx : ℕ) (os : List ActiveTransaction) (o : ActiveTransaction) → IsInactive tx (views os) → (o.tx ≡ tx → ⊥) → IsInactive tx (views (os ++ o ∷ []))
IsInactive-last tx [] o idle other = (other, tt)
IsInactive-last tx (x ∷ os) o idle other = (idle.0, IsInactive-last tx os o idle.1 other)

AreOnce-last : (os : List ActiveTransaction) (o : ActiveTransaction) → AreOnce os → IsInactive o.tx (views os) → AreOnce (os ++ o ∷ [])
AreOnce-last [] o once idle = (tt, tt)
AreOnce-last (x ∷ os) o once idle = (IsInactive-last x.tx os o once.0 (λ e. idle.0 (sym e)), AreOnce-last os o once.1 idle.1)

module _ (want now : ℕ → List ℕ) (told : Option Story) (size : ℕ) (j : journal.State) (p : pool.State) (book : Book) (opened pending : List Record) (holds : Holds want now opened pending (stored told size j p book)) (few : length book.actives < 8) where
  abbrev recs : List Record
  recs = opened ++ pending

  idle : IsInactive book.next (views book.actives)
  idle = IsInactive-next p.geometry.pages recs book.next book.actives holds.knows.actives

  store_begin : IsStoreOn want now told j p.geometry opened pending (views (book.actives ++ new_transaction book.next ∷ []))
  store_begin =
      subst (λ (l : List Active). IsStoreOn want now told j p.geometry opened pending l) (sym (views-append book.actives (new_transaction book.next ∷ [])))
      (IsStoreOn-step want now j p.geometry opened pending (views book.actives) now (views book.actives ++ active_with book.next 0 ∷ []) told
      (λ disk whole. IsWhole-place p.geometry.pages disk now opened pending (views book.actives) (active_with book.next 0) []
      (subst (λ (l : List Active). IsWhole p.geometry.pages disk now opened pending (active_with book.next 0 ∷ l)) (sym (append-nil (views book.actives)))
      (IsWhole-active p.geometry.pages disk now opened pending book.next (views book.actives) (AreBelow-committed book.next recs holds.knows.fresh) idle whole)))
      holds.store)

  pub Holds-begin : Holds want now opened pending (stored told size j p (begun_book book))
  Holds-begin =
      let fresh = holds.knows.fresh in
      let none : count_of book.next (standing recs) ≡ 0 = count_of-none book.next (standing recs) (AreBelow-standing book.next recs fresh) in
      let begun = begun_in-last book.actives (new_transaction book.next) in
      record {
        up = holds.up;
        store = store_begin;
        serves = holds.serves;
        agrees = holds.agrees;
        pages = holds.pages;
        tied = holds.tied;
        knows = record {
          images = holds.knows.images;
          count = holds.knows.count;
          actives = AreTransactionsOf-last p.geometry.pages recs book.next (book.next + 1) (omega arith) book.actives (new_transaction book.next) holds.knows.actives
              (IsTransactionOf-new p.geometry.pages book.next recs (book.next + 1) (omega arith) none);
          fresh = AreBelow-higher book.next (book.next + 1) recs (omega arith) fresh;
          once = AreOnce-last book.actives (new_transaction book.next) holds.knows.once idle;
          most = let e = length_push book.actives (new_transaction book.next) in omega arith;
        };
        spare = record {
          few = All-append (λ (o : ActiveTransaction). length o.undos ≤ used_of j) book.actives (new_transaction book.next ∷ []) holds.spare.few
              (All-cons (λ (o : ActiveTransaction). length o.undos ≤ used_of j) (new_transaction book.next) [] (omega arith) (All-nil (λ (o : ActiveTransaction). length o.undos ≤ used_of j)));
          room = let h = holds.spare.room in omega arith;
          gates = let h = holds.spare.gates in omega arith;
        };
      }

-- ---- a checkpoint before it
pub MakesRoom-checkpoint : (old new : Parts) → TakesCheckpoint old.store.journal old.store.book → Checkpoints old new → MakesRoom old new
MakesRoom-checkpoint old new takes done = record {
  actives = done.actives ∙ sym takes.none;
  pages = λ want now store. ([], [], done.pages want now store);
  stays = λ not. absurd (not takes);
  empties = λ _. done;
}
