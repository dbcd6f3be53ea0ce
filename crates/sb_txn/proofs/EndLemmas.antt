-- What the end of a transaction leaves of a store.
use Rattle.std.proofs.Common.{◌≡◌, ℕ, suc, ◌+◌, ◌*◌, ◌^◌, ◌<◌, ◌≤◌, Bool, false, true, cond, ◌==◌, ◌||◌, Option, Some, None, List, [], ◌∷◌, ◌++◌, length, refl, sym, ◌∙◌, ap, subst, arith, append_assoc}
use Rattle.std.specs.List.{All}
use Rattle.std.proofs.lemmas.Bool.{false≢true}
use Rattle.std.proofs.lemmas.List.{append-nil}
use Rattle.std.proofs.lemmas.List.Elements.{All-nil, All-cons, All-head, All-tail}
use Rattle.sb_disk.specs.Disk.{Range, Story, WhereTold}
use Rattle.sb_disk.specs.Moments.{LeavesOnly}
use Rattle.sb_disk.proofs.MomentLemmas.{weaker}
use Rattle.sb_journal.specs.State.{StandsOn, used_of, after_append, after_force}
use Rattle.sb_journal.specs.State as journal
use Rattle.sb_log.specs.declared.geometry.Geometry.{Geometry}
use Rattle.sb_log.specs.Records.{Change, Record, Back, Commit}
use Rattle.sb_log.specs.Restored.{base, imaged}
use Rattle.sb_log.specs.Standing.{keep, standing, own_changes, count_of, AreBelow}
use Rattle.sb_log.specs.Views.{Active, active_with, IsInactive, IsPage}
use Rattle.sb_log.proofs.RestoredLemmas.{imaged-append}
use Rattle.sb_log.proofs.StandingLemmas.{or_false, stood_all-append, keep-again, own_changes-keep, AreBelow-append}
use Rattle.sb_log.proofs.WholeLemmas.{IsWhole-drop}
use Rattle.sb_images.specs.Images.{IsOldOrNew}
use Rattle.sb_images.specs.Layout.{page_at}
use Rattle.sb_images.specs.Store.{IsStoreOn, own_of, with_changes}
use Rattle.sb_images.proofs.CallLemmas.{LeavesOnly-idle, IsReadyOn-as}
use Rattle.sb_images.proofs.CommitLemmas.{LeavesOnly-old}
use Rattle.sb_images.proofs.ImageLemmas.{IsOldOrNew-as}
use Rattle.sb_images.proofs.StoreLemmas.{IsStoreOn-ready, IsStoreOn-step, IsStore-idle, WillBe-commit, WillBe-alone}
use Rattle.sb_pool.specs.Calls.{AreImaged}
use Rattle.sb_pool.specs.Pages.{ArePagesOn}
use Rattle.sb_pool.specs.State as pool
use Rattle.sb_pool.proofs.StoreLemmas.{SamePages, AgreesOn-same, ArePagesOn-same}
use Rattle.sb_txn.specs.Book.{Undo, ActiveTransaction, Book, views, begun_in, transaction_with, others, standing_of, with_actives}
use Rattle.sb_txn.specs.Clauses.{IsReady, LeavesWanted, committed_pages, Commits, LeavesCommit, LeavesOne}
use Rattle.sb_txn.specs.Parts.{Parts, stored}
use Rattle.sb_txn.specs.Steps.{some, KeepsDisk, filled}
use Rattle.sb_txn.specs.Tied.{IsTransactionOf, AreTransactionsOf, AreOnce, IsBookOf, Holds, reserve, gates_used}
use Rattle.sb_txn.proofs.CalledLemmas.{transaction_with-tx, standing_of-found}
use Rattle.sb_txn.proofs.LogLemmas.{SamePages-as}
use Rattle.sb_txn.proofs.OrderLemmas.{Holds-first}
use Rattle.sb_txn.proofs.OthersLemmas.{own-ended, AreTransactionsOf-still}
use Rattle.sb_txn.proofs.RoomLemmas.{SameRoom-force, lens-gates, filled-used, used-append, gates-append}

-- ---- a Back in front
-- the transaction's changes that stand are the same
pub own_of-back : (b : Bool) (opened pending : List Record) (tx n : ℕ) → own_of (opened ++ (pending ++ some b (Back tx n))) (active_with tx n) ≡ own_of (opened ++ pending) (active_with tx n)
own_of-back true opened pending tx n =
    ap (λ (l : List Record). own_of l (active_with tx n)) (sym (append_assoc opened pending (Back tx n ∷ [])))
    ∙ ap (λ (cs : List Change). own_changes tx (keep tx n cs)) (stood_all-append [] (opened ++ pending) (Back tx n ∷ []))
    ∙ ap (λ (cs : List Change). own_changes tx cs) (keep-again tx n (standing (opened ++ pending)))
own_of-back false opened pending tx n = ap (λ (l : List Record). own_of (opened ++ l) (active_with tx n)) (append-nil pending)

-- ---- the first active transaction
pub few_more : (n m : ℕ) (os : List ActiveTransaction) → n ≤ m → All (λ (x : ActiveTransaction). length x.undos ≤ n) os → All (λ (x : ActiveTransaction). length x.undos ≤ m) os
few_more n m [] more few = All-nil (λ (x : ActiveTransaction). length x.undos ≤ m)
few_more n m (o ∷ os) more few =
    All-cons (λ (x : ActiveTransaction). length x.undos ≤ m) o os (let h = All-head (λ (x : ActiveTransaction). length x.undos ≤ n) o os few in omega arith) (few_more n m os more (All-tail (λ (x : ActiveTransaction). length x.undos ≤ n) o os few))

module _ (want now : ℕ → List ℕ) (told : Option Story) (size : ℕ) (j : journal.State) (p : pool.State) (book : Book) (o : ActiveTransaction) (rest : List ActiveTransaction) (is : book.actives ≡ o ∷ rest) (opened pending : List Record)
    (holds : Holds want now opened pending (stored told size j p book)) where
  pub first_transaction : IsTransactionOf p.geometry.pages (opened ++ pending) book.next o
  first_transaction = (subst (λ (l : List ActiveTransaction). AreTransactionsOf p.geometry.pages (opened ++ pending) book.next l) is holds.knows.actives).0

  pub first_store : IsStoreOn want now told j p.geometry opened pending (active_with o.tx (length o.undos) ∷ views rest)
  first_store = subst (λ (l : List ActiveTransaction). IsStoreOn want now told j p.geometry opened pending (views l)) is holds.store

  pub first_once : IsInactive o.tx (views rest) × AreOnce rest
  first_once = subst (λ (l : List ActiveTransaction). AreOnce l) is holds.knows.once

  pub rest_most : suc (length rest) ≤ 8
  rest_most = let e = ap (λ (l : List ActiveTransaction). length l) is in let h = holds.knows.most in omega arith

  pub first_room : used_of j + reserve * (cond o.begun 1 0 + begun_in rest) ≤ j.log.len
  first_room = let e = ap begun_in is in let h = holds.spare.room in omega arith

  pub first_gates : gates_used j + (cond o.begun 1 0 + begun_in rest) ≤ j.gates.len
  first_gates = let e = ap begun_in is in let h = holds.spare.gates in omega arith

  pub first_few : length o.undos ≤ used_of j
  first_few = All-head (λ (x : ActiveTransaction). length x.undos ≤ used_of j) o rest (subst (λ (l : List ActiveTransaction). All (λ (x : ActiveTransaction). length x.undos ≤ used_of j) l) is holds.spare.few)

  pub rest_few : (n : ℕ) → used_of j ≤ n → All (λ (x : ActiveTransaction). length x.undos ≤ n) rest
  rest_few n more = few_more (used_of j) n rest more (All-tail (λ (x : ActiveTransaction). length x.undos ≤ used_of j) o rest (subst (λ (l : List ActiveTransaction). All (λ (x : ActiveTransaction). length x.undos ≤ used_of j) l) is holds.spare.few))

  pub rest_transactions : AreTransactionsOf p.geometry.pages (opened ++ pending) book.next rest
  rest_transactions = (subst (λ (l : List ActiveTransaction). AreTransactionsOf p.geometry.pages (opened ++ pending) book.next l) is holds.knows.actives).1

  -- none of its changes stands
  pub Holds-drop : o.undos ≡ [] → Holds want now opened pending (stored told size j p (with_actives book rest))
  Holds-drop none = record {
    up = holds.up;
    store = IsStoreOn-step want now j p.geometry opened pending (active_with o.tx 0 ∷ views rest) now (views rest) told
        (λ disk whole. IsWhole-drop p.geometry.pages disk now opened pending o.tx (views rest) whole)
        (subst (λ (us : List Undo). IsStoreOn want now told j p.geometry opened pending (active_with o.tx (length us) ∷ views rest)) none first_store);
    serves = holds.serves;
    agrees = holds.agrees;
    pages = holds.pages;
    tied = holds.tied;
    knows = record { images = holds.knows.images; count = holds.knows.count; actives = rest_transactions; fresh = holds.knows.fresh; once = first_once.1; most = let h = rest_most in omega arith };
    spare = record { few = rest_few (used_of j) (omega arith); room = let h = first_room in omega arith; gates = let h = first_gates in omega arith };
  }

-- ---- where none is active
-- the pages wanted are those now
IsStoreOn-idle : (want now : ℕ → List ℕ) (told : Option Story) (j : journal.State) (g : Geometry) (opened pending : List Record) → IsStoreOn want now told j g opened pending [] → IsStoreOn now now told j g opened pending []
IsStoreOn-idle want now None j g opened pending store = tt
IsStoreOn-idle want now (Some s) j g opened pending store = record {
  ready = IsReadyOn-as want now (Some s) j g opened pending (λ q lt. sym (IsStore-idle want now j g opened pending [] s refl store q lt)) store.ready;
  whole = store.whole;
}

pub Holds-idle : (want now : ℕ → List ℕ) (told : Option Story) (size : ℕ) (j : journal.State) (p : pool.State) (book : Book) (opened pending : List Record) → book.actives ≡ [] → Holds want now opened pending (stored told size j p book) → Holds now now opened pending (stored told size j p book)
Holds-idle want now told size j p book opened pending none holds = record {
  up = holds.up;
  store = subst (λ (l : List ActiveTransaction). IsStoreOn now now told j p.geometry opened pending (views l)) (sym none)
      (IsStoreOn-idle want now told j p.geometry opened pending (subst (λ (l : List ActiveTransaction). IsStoreOn want now told j p.geometry opened pending (views l)) none holds.store));
  serves = holds.serves;
  agrees = holds.agrees;
  pages = holds.pages;
  tied = holds.tied;
  knows = holds.knows;
  spare = holds.spare;
}

-- the pages now are those wanted
wanted : (want now : ℕ → List ℕ) (told : Option Story) (j : journal.State) (g : Geometry) (opened pending : List Record) → IsStoreOn want now told j g opened pending [] → IsStoreOn want want told j g opened pending []
wanted want now None j g opened pending store = tt
wanted want now (Some s) j g opened pending store = record {
  ready = store.ready;
  whole = record {
    plain = store.whole.plain;
    covered = store.whole.covered;
    active = store.whole.active;
    pages = λ q lt. subst (λ (l : List ℕ). IsPage (opened ++ pending) [] (base q (opened ++ pending) (page_at g q s.now.reads)) l q) (IsStore-idle want now j g opened pending [] s refl store q lt) (store.whole.pages q lt);
  };
}

pages_wanted : (want now : ℕ → List ℕ) (told : Option Story) (j : journal.State) (p : pool.State) (opened pending : List Record) → IsStoreOn want now told j p.geometry opened pending [] → ArePagesOn now told j p → ArePagesOn want told j p
pages_wanted want now None j p opened pending store pages = tt
pages_wanted want now (Some s) j p opened pending store pages = λ up q lt. pages up q lt ∙ IsStore-idle want now j p.geometry opened pending [] s refl store q lt

pub Holds-wanted : (want now : ℕ → List ℕ) (told : Option Story) (size : ℕ) (j : journal.State) (p : pool.State) (book : Book) (opened pending : List Record) → book.actives ≡ [] → Holds want now opened pending (stored told size j p book) → Holds want want opened pending (stored told size j p book)
Holds-wanted want now told size j p book opened pending none holds =
    let store = subst (λ (l : List ActiveTransaction). IsStoreOn want now told j p.geometry opened pending (views l)) none holds.store in
    record {
      up = holds.up;
      store = subst (λ (l : List ActiveTransaction). IsStoreOn want want told j p.geometry opened pending (views l)) (sym none) (wanted want now told j p.geometry opened pending store);
      serves = holds.serves;
      agrees = holds.agrees;
      pages = pages_wanted want now told j p opened pending store holds.pages;
      tied = holds.tied;
      knows = holds.knows;
      spare = holds.spare;
    }

-- ---- a commit of a transaction that has no record
pub Commits-idle : (told : Option Story) (size : ℕ) (j : journal.State) (p : pool.State) (book : Book) (o : ActiveTransaction) (rest : List ActiveTransaction) → book.actives ≡ o ∷ rest → o.begun ≡ false → Commits (stored told size j p book) (stored told size j p (with_actives book rest)) o rest
Commits-idle told size j p book o rest is off = record {
  book = refl;
  pages = λ want now opened pending holds.
      let none = (first_transaction want now told size j p book o rest is opened pending holds).none off in
      let dropped = Holds-drop want now told size j p book o rest is opened pending holds none in
      let nothing : own_of (opened ++ pending) (active_with o.tx (length o.undos)) ≡ [] = ap (λ (us : List Undo). own_of (opened ++ pending) (active_with o.tx (length us))) none ∙ own_changes-keep o.tx 0 (standing (opened ++ pending)) in
      (opened, pending, subst (λ (cs : List Change). Holds (with_changes cs want) now opened pending (stored told size j p (with_actives book rest))) (sym nothing) dropped);
  alone = λ last want now store.
      let none = (first_transaction want now told size j p book o rest is store.0 store.1 store.2).none off in
      (store.0, store.1, Holds-idle want now told size j p (with_actives book rest) store.0 store.1 last (Holds-drop want now told size j p book o rest is store.0 store.1 store.2 none));
  grows = record { bytes = omega arith; least = omega arith; gates = omega arith };
  chunks = omega arith;
}

pub LeavesCommit-idle : (told : Option Story) (size : ℕ) (j : journal.State) (p : pool.State) (book after : Book) (o : ActiveTransaction) → LeavesCommit (stored told size j p book) (stored told size j p after) o
LeavesCommit-idle told size j p book after o want now opened pending holds =
    LeavesOnly-old want (committed_pages (opened ++ pending) o want) p.geometry told told
    (LeavesOnly-idle want j p.geometry opened pending told (IsStoreOn-ready want now told j p.geometry opened pending (views book.actives) holds.store))

-- ---- the active one
-- with its changes the pages wanted are those now
alone_pages : (want now : ℕ → List ℕ) (s : Story) (j : journal.State) (g : Geometry) (opened pending : List Record) (a : Active) → IsStoreOn want now (Some s) j g opened pending (a ∷ []) → (q : ℕ) → q < g.pages → with_changes (own_of (opened ++ pending) a) want q ≡ now q
alone_pages want now s j g opened pending a store q lt = sym (WillBe-commit want now j g opened pending a [] (Some s) store q lt) ∙ WillBe-alone want now (Some s) j g opened pending a store q lt

-- a disk that tells nothing leaves nothing
LeavesOnly-none : (new : Option Story) (P Q : List ℕ → Type 0) → LeavesOnly None new P → LeavesOnly None new Q
LeavesOnly-none None P Q run = record { tells = run.tells; later = run.later; before = run.before; since = λ t image le may. absurd may }
LeavesOnly-none (Some t) P Q run = absurd (false≢true run.tells)

leaves_alone : (want now : ℕ → List ℕ) (told new : Option Story) (j : journal.State) (g : Geometry) (opened pending : List Record) (a : Active) → IsStoreOn want now told j g opened pending (a ∷ [])
    → LeavesOnly told new (IsOldOrNew g want (with_changes (own_of (opened ++ pending) a) want)) → LeavesOnly told new (IsOldOrNew g want now)
leaves_alone want now None new j g opened pending a store run = LeavesOnly-none new (IsOldOrNew g want (with_changes (own_of (opened ++ pending) a) want)) (IsOldOrNew g want now) run
leaves_alone want now (Some s) new j g opened pending a store run =
    weaker (Some s) new (IsOldOrNew g want (with_changes (own_of (opened ++ pending) a) want)) (IsOldOrNew g want now)
    (λ image old_or_new. IsOldOrNew-as g want (with_changes (own_of (opened ++ pending) a) want) now image (alone_pages want now s j g opened pending a store) old_or_new) run

pub LeavesOne-commit : (old new : Parts) (o : ActiveTransaction) → old.store.book.actives ≡ o ∷ [] → LeavesCommit old new o → LeavesOne old new
LeavesOne-commit old new o is run want now store =
    leaves_alone want now old.told new.told old.store.journal old.store.pool.geometry store.0 store.1 (active_with o.tx (length o.undos))
    (first_store want now old.told old.size old.store.journal old.store.pool old.store.book o [] is store.0 store.1 store.2) (run want now store.0 store.1 store.2)

-- ---- a commit
-- the records of its end
abbrev ends : Bool → ℕ → ℕ → List Record
ends b tx n = some b (Back tx n) ++ Commit tx ∷ []

ends-imaged : (b : Bool) (tx n q : ℕ) → imaged (ends b tx n) q ≡ false
ends-imaged true tx n q = refl
ends-imaged false tx n q = refl

ends-below : (b : Bool) (tx n next : ℕ) → tx < next → AreBelow next (ends b tx n)
ends-below true tx n next lt = (lt, (lt, tt))
ends-below false tx n next lt = (lt, tt)

ends-len : (b : Bool) → (cond b 9 0 + 5 ≤ 14) × (0 < cond b 9 0 + 5)
ends-len true = (omega arith, omega arith)
ends-len false = (omega arith, omega arith)

same_records : (opened pending : List Record) (b : Bool) (tx n : ℕ) → opened ++ ((pending ++ some b (Back tx n)) ++ Commit tx ∷ []) ≡ (opened ++ pending) ++ ends b tx n
same_records opened pending b tx n = ap (λ (l : List Record). opened ++ l) (append_assoc pending (some b (Back tx n)) (Commit tx ∷ [])) ∙ sym (append_assoc opened pending (ends b tx n))

no_image : (recs : List Record) (b : Bool) (tx n q : ℕ) → imaged (recs ++ ends b tx n) q ≡ imaged recs q
no_image recs b tx n q = imaged-append recs (ends b tx n) q ∙ ap (λ (x : Bool). imaged recs q || x) (ends-imaged b tx n q) ∙ or_false (imaged recs q)

-- What `finish` leaves of disk and journal.
pub record Finishes (told new : Option Story) (j k : journal.State) (tx n : ℕ) (undone : Bool) : Type 0 where
  pub done : k ≡ after_force (after_append (cond undone 9 0 + 5) j)
  pub pages : KeepsDisk j told new
  pub stands : StandsOn new k
  pub store : (want now : ℕ → List ℕ) (g : Geometry) (opened pending : List Record) (rest : List Active) → IsStoreOn want now told j g opened pending (active_with tx n ∷ rest) → (undone ≡ false → count_of tx (standing (opened ++ pending)) ≤ n)
      → IsStoreOn (with_changes (own_of (opened ++ pending) (active_with tx n)) want) now new k g (opened ++ ((pending ++ some undone (Back tx n)) ++ Commit tx ∷ [])) [] rest

-- a transaction that has a record is counted
one_if : (b : Bool) → b ≡ true → ◌≡◌ {A = ℕ} (cond b 1 0) 1
one_if true is = refl
one_if false is = absurd (false≢true is)

-- the journal after it
record IsFinished (j k : journal.State) (m : ℕ) : Type 0 where
  pub used : used_of k ≡ filled j + m
  pub gates : gates_used k ≡ length j.lens + 1
  pub lens : length k.lens ≤ length j.lens + 1
  pub up : k.failed ≡ j.failed
  pub gates_is : k.gates ≡ j.gates
  pub log_is : k.log ≡ j.log
  pub clean : k.clean ≡ j.clean
  pub none : k.pending ≡ 0

IsFinished-after : (j : journal.State) (m : ℕ) → 0 < m → IsFinished j (after_force (after_append m j)) m
IsFinished-after j m some =
    let same = SameRoom-force (after_append m j) in
    let gates : gates_used (after_force (after_append m j)) ≡ length j.lens + 1 = same.gates ∙ gates-append j m some in
    record {
      used = same.used ∙ used-append j m some;
      gates = gates;
      lens = let e = lens-gates (after_force (after_append m j)) in omega arith;
      up = refl;
      gates_is = refl;
      log_is = refl;
      clean = refl;
      none = refl;
    }

IsFinished-done : (j k : journal.State) (undone : Bool) → k ≡ after_force (after_append (cond undone 9 0 + 5) j) → IsFinished j k (cond undone 9 0 + 5)
IsFinished-done j k undone done = subst (λ (l : journal.State). IsFinished j l (cond undone 9 0 + 5)) (sym done) (IsFinished-after j (cond undone 9 0 + 5) (ends-len undone).1)

module _ (told new : Option Story) (size len : ℕ) (j k : journal.State) (p : pool.State) (book : Book) (o : ActiveTransaction) (rest : List ActiveTransaction) (is : book.actives ≡ o ∷ rest) (begun : o.begun ≡ true) (long : len ≡ size)
    (finish : Finishes told new j k o.tx (length o.undos) o.undone) where
  finished : IsFinished j k (cond o.undone 9 0 + 5)
  finished = IsFinished-done j k o.undone finish.done

  finish_bytes : used_of k ≤ used_of j + 18
  finish_bytes = let e = finished.used in let m = (ends-len o.undone).0 in let f = (filled-used j).0 in omega arith

  finish_more : used_of j ≤ used_of k
  finish_more = let e = finished.used in let f = (filled-used j).1 in omega arith

  module _ (want now : ℕ → List ℕ) (opened pending : List Record) (holds : Holds want now opened pending (stored told size j p book)) where
    abbrev tail : List Record
    tail = ends o.undone o.tx (length o.undos)

    abbrev recs : List Record
    recs = (opened ++ pending) ++ tail

    is_one : IsTransactionOf p.geometry.pages (opened ++ pending) book.next o
    is_one = first_transaction want now told size j p book o rest is opened pending holds

    same_disk : WhereTold told new (SamePages p.geometry)
    same_disk = SamePages-as p.geometry told new (finish.pages p.geometry holds.serves.gates holds.serves.log)

    was_up : k.failed ≡ false → j.failed ≡ false
    was_up up = sym finished.up ∙ up

    all : recs ≡ recs ++ []
    all = sym (append-nil recs)

    images : AreImaged p recs
    images q dirty = no_image (opened ++ pending) o.undone o.tx (length o.undos) q ∙ holds.tied.imaged q dirty

    pub Holds-finish : Holds (committed_pages (opened ++ pending) o want) now recs [] (stored new len k p (with_actives book rest))
    Holds-finish = record {
      up = finished.up ∙ holds.up;
      store = subst (λ (l : List Record). IsStoreOn (committed_pages (opened ++ pending) o want) now new k p.geometry l [] (views rest)) (same_records opened pending o.undone o.tx (length o.undos))
          (finish.store want now p.geometry opened pending (views rest) (first_store want now told size j p book o rest is opened pending holds) is_one.logged);
      serves = record {
        sizes = holds.serves.sizes;
        room = let h = holds.serves.room in omega arith;
        gates = finished.gates_is ∙ holds.serves.gates;
        log = finished.log_is ∙ holds.serves.log;
        stands = finish.stands;
        clean = finished.clean ∙ holds.serves.clean;
        free = λ some. absurd (let e = finished.none in omega arith);
      };
      agrees = AgreesOn-same j k was_up p told new same_disk (let h = holds.agrees.position in let m = finish_more in omega arith) holds.agrees;
      pages = ArePagesOn-same j k was_up now p told new same_disk holds.pages;
      tied = record { imaged = subst (λ (l : List Record). AreImaged p l) all images; forced = λ within. images };
      knows = subst (λ (l : List Record). IsBookOf p.geometry.pages l (with_actives book rest)) all (record {
        images = λ q lt. holds.knows.images q lt ∙ sym (no_image (opened ++ pending) o.undone o.tx (length o.undos) q);
        count = holds.knows.count;
        actives = AreTransactionsOf-still p.geometry.pages (opened ++ pending) recs book.next o.tx rest (first_once want now told size j p book o rest is opened pending holds).0
            (λ t other. ap (λ (l : List Record). own_changes t (standing l)) (sym (same_records opened pending o.undone o.tx (length o.undos))) ∙ own-ended opened pending t o.tx other o.undone (length o.undos))
            (λ q has. no_image (opened ++ pending) o.undone o.tx (length o.undos) q ∙ has) (rest_transactions want now told size j p book o rest is opened pending holds);
        fresh = AreBelow-append book.next (opened ++ pending) tail holds.knows.fresh (ends-below o.undone o.tx (length o.undos) book.next is_one.number);
        once = (first_once want now told size j p book o rest is opened pending holds).1;
        most = let h = rest_most want now told size j p book o rest is opened pending holds in omega arith;
      });
      spare = record {
        few = rest_few want now told size j p book o rest is opened pending holds (used_of k) finish_more;
        room =
            let one = one_if o.begun begun in
            let h = first_room want now told size j p book o rest is opened pending holds in
            let m = finish_bytes in
            let l = ap (λ (r : Range). r.len) finished.log_is in
            omega arith;
        gates =
            let one = one_if o.begun begun in
            let h = first_gates want now told size j p book o rest is opened pending holds in
            let e = finished.gates in
            let m = lens-gates j in
            let l = ap (λ (r : Range). r.len) finished.gates_is in
            omega arith;
      };
    }

  pub Commits-finish : Commits (stored told size j p book) (stored new len k p (with_actives book rest)) o rest
  Commits-finish = record {
    book = refl;
    pages = λ want now opened pending holds. (recs want now opened pending holds, [], Holds-finish want now opened pending holds);
    alone = λ last want now store.
        (recs want now store.0 store.1 store.2, [], Holds-idle (committed_pages (store.0 ++ store.1) o want) now new len k p (with_actives book rest) (recs want now store.0 store.1 store.2) [] last (Holds-finish want now store.0 store.1 store.2));
    grows = record {
      bytes = let m = finish_bytes in omega arith;
      least = finish_more;
      gates = let e = finished.gates in let m = lens-gates j in omega arith;
    };
    chunks = finished.lens;
  }

-- what a crash leaves at each moment of it
pub record LeavesFinish (told new : Option Story) (j : journal.State) (tx n : ℕ) (undone : Bool) : Type 0 where
  pub each : (want now : ℕ → List ℕ) (g : Geometry) (opened pending : List Record) (rest : List Active) → IsStoreOn want now told j g opened pending (active_with tx n ∷ rest) → (undone ≡ false → count_of tx (standing (opened ++ pending)) ≤ n)
      → LeavesOnly told new (IsOldOrNew g want (with_changes (own_of (opened ++ pending) (active_with tx n)) want))

pub LeavesCommit-finish : (told new : Option Story) (size len : ℕ) (j k : journal.State) (p : pool.State) (book after : Book) (o : ActiveTransaction) (rest : List ActiveTransaction) → book.actives ≡ o ∷ rest → LeavesFinish told new j o.tx (length o.undos) o.undone
    → LeavesCommit (stored told size j p book) (stored new len k p after) o
LeavesCommit-finish told new size len j k p book after o rest is leaves want now opened pending holds =
    leaves.each want now p.geometry opened pending (views rest) (first_store want now told size j p book o rest is opened pending holds)
    (first_transaction want now told size j p book o rest is opened pending holds).logged

-- there is room for the records of its end, and a gate
pub room_finish : (want now : ℕ → List ℕ) (told : Option Story) (size : ℕ) (j : journal.State) (p : pool.State) (book : Book) (o : ActiveTransaction) (rest : List ActiveTransaction) (is : book.actives ≡ o ∷ rest) (opened pending : List Record)
    (holds : Holds want now opened pending (stored told size j p book)) → o.begun ≡ true → (filled j + 14 ≤ j.log.len) × (length j.lens < j.gates.len)
room_finish want now told size j p book o rest is opened pending holds begun =
    let one = one_if o.begun begun in
    let bytes = first_room want now told size j p book o rest is opened pending holds in
    let gates = first_gates want now told size j p book o rest is opened pending holds in
    let used = (filled-used j).0 in
    let lens = lens-gates j in
    (omega arith, omega arith)

-- ---- the same of a transaction that stands anywhere among the active ones
-- its changes that stand are few
standing_most : (tx n : ℕ) (os : List ActiveTransaction) → All (λ (x : ActiveTransaction). length x.undos ≤ n) os → standing_of tx os ≤ n
standing_most tx n [] few = omega arith
standing_most tx n (o ∷ os) few = by_test (o.tx == tx) (All-head (λ (x : ActiveTransaction). length x.undos ≤ n) o os few) (standing_most tx n os (All-tail (λ (x : ActiveTransaction). length x.undos ≤ n) o os few))
  where
    by_test : (t : Bool) → length o.undos ≤ n → standing_of tx os ≤ n → cond t (length o.undos) (standing_of tx os) ≤ n
    by_test true here behind = here
    by_test false here behind = behind

pub standing_few : (p : Parts) (tx : ℕ) → p.store.book.down ≡ false → IsReady p → standing_of tx p.store.book.actives < 2 ^ 32
standing_few p tx up ready =
    let holds = (ready up).2.2 in
    let most = standing_most tx (used_of p.store.journal) p.store.book.actives holds.spare.few in
    let room = holds.spare.room in
    let log = ap (λ (r : Range). r.len) holds.serves.log in
    let sizes = holds.serves.sizes.log.1 in
    omega arith

module _ (told : Option Story) (size : ℕ) (j : journal.State) (p : pool.State) (book : Book) (tx : ℕ) (o : ActiveTransaction) (is : transaction_with tx book.actives ≡ Some o) (new : Parts) where
  -- what a commit says of the store with it first
  pub Commits-first : Commits (stored told size j p (with_actives book (o ∷ others tx book.actives))) new o (others tx book.actives) → Commits (stored told size j p book) new o (others tx book.actives)
  Commits-first commits = record {
    book = commits.book;
    pages = λ want now opened pending holds. commits.pages want now opened pending (Holds-first want now told size j p book opened pending tx o is holds);
    alone = λ last want now store. commits.alone last want now (store.0, store.1, Holds-first want now told size j p book store.0 store.1 tx o is store.2);
    grows = record { bytes = commits.grows.bytes; least = commits.grows.least; gates = commits.grows.gates };
    chunks = commits.chunks;
  }

  pub LeavesCommit-first : LeavesCommit (stored told size j p (with_actives book (o ∷ others tx book.actives))) new o → LeavesCommit (stored told size j p book) new o
  LeavesCommit-first leaves want now opened pending holds = leaves want now opened pending (Holds-first want now told size j p book opened pending tx o is holds)

module _ (P : ℕ → ℕ → Bool → Type 0) (tx : ℕ) (actives : List ActiveTransaction) (o : ActiveTransaction) (is : transaction_with tx actives ≡ Some o) (n : ℕ) (undone : Bool) where
  -- what is so of its number, the count of its changes and its flag
  pub of_found : n ≡ standing_of tx actives → undone ≡ o.undone → P tx n undone → P o.tx (length o.undos) o.undone
  of_found count flag has =
      let number : o.tx ≡ tx = transaction_with-tx tx actives o is in
      let size : n ≡ length o.undos = count ∙ standing_of-found tx actives o is in
      subst (λ (t : ℕ). P t (length o.undos) o.undone) (sym number) (subst (λ (m : ℕ). P tx m o.undone) size (subst (λ (u : Bool). P tx n u) flag has))

-- ---- a commit of which a crash leaves the pages wanted
pub LeavesCommit-wanted : (old new : Parts) (o : ActiveTransaction) → LeavesWanted old new → LeavesCommit old new o
LeavesCommit-wanted old new o leaves want now opened pending holds = LeavesOnly-old want (committed_pages (opened ++ pending) o want) old.store.pool.geometry old.told new.told (leaves.each want now (opened, pending, holds))

pub LeavesOne-wanted : (old new : Parts) → LeavesWanted old new → LeavesOne old new
LeavesOne-wanted old new leaves want now store = LeavesOnly-old want now old.store.pool.geometry old.told new.told (leaves.each want now store)
