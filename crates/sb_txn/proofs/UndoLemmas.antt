-- What the undoing of changes leaves of a store.
use Rattle.std.proofs.Common.{◌≡◌, ℕ, suc, ◌+◌, ◌<◌, ◌≤◌, Option, Some, List, [], ◌∷◌, ◌++◌, length, refl, sym, ◌∙◌, ap, subst, arith}
use Rattle.std.proofs.lemmas.Bool.{false≢true}
use Rattle.std.proofs.lemmas.List.{length_push, length-take}
use Rattle.std.proofs.lemmas.List.Elements.{All-cons}
use Rattle.sb_disk.specs.Disk.{Story}
use Rattle.sb_journal.specs.State.{used_of}
use Rattle.sb_journal.specs.State as journal
use Rattle.sb_log.specs.Records.{Change, Record}
use Rattle.sb_log.specs.Standing.{keep, standing, own_changes, count_of}
use Rattle.sb_log.specs.Views.{active_with}
use Rattle.sb_log.specs.Whole.{with_range}
use Rattle.sb_log.proofs.StandingLemmas.{own_changes-keep, count_of-own}
use Rattle.sb_log.proofs.ViewLemmas.{HasLast, HasLast-some, HasLast-own}
use Rattle.sb_log.proofs.WholeLemmas.{IsWhole-undo}
use Rattle.sb_images.specs.Store.{IsStoreOn}
use Rattle.sb_images.proofs.StoreLemmas.{IsStoreOn-step}
use Rattle.sb_pool.specs.Pages.{with_bytes}
use Rattle.sb_pool.specs.State as pool
use Rattle.sb_txn.specs.Ahead.{Leans, IsAhead, CatchesUp, LeavesAhead}
use Rattle.sb_txn.specs.Book.{Undo, ActiveTransaction, Book, views, transaction_with, others, with_actives, undone_transaction, Pops}
use Rattle.sb_txn.specs.Clauses.{HoldsPages, LeavesWanted, UndoesLast}
use Rattle.sb_txn.specs.Parts.{Parts, stored}
use Rattle.sb_txn.specs.State.{together}
use Rattle.sb_txn.specs.Tied.{IsUndo, AreUndos, UndoFits, UndosFit, IsTransactionOf, Holds}
use Rattle.sb_txn.proofs.EndLemmas.{first_transaction, first_store, first_once, rest_most, first_room, first_gates, first_few, rest_transactions, rest_few}
use Rattle.sb_txn.proofs.OrderLemmas.{Holds-first, Leans-put}

-- ---- undo lists and changes
pub length-AreUndos : (us : List Undo) (cs : List Change) → AreUndos us cs → length cs ≡ length us
length-AreUndos [] [] are = refl
length-AreUndos [] (c ∷ cs) are = absurd are
length-AreUndos (u ∷ us) [] are = absurd are
length-AreUndos (u ∷ us) (c ∷ cs) are = let e = length-AreUndos us cs are.1 in omega arith

AreUndos-last : (us : List Undo) (cs : List Change) (u : Undo) (c : Change) → AreUndos (us ++ u ∷ []) (cs ++ c ∷ []) → AreUndos us cs × IsUndo u c
AreUndos-last [] [] u c are = (tt, are.0)
AreUndos-last [] (d ∷ cs) u c are = absurd (let e = length-AreUndos [] (cs ++ c ∷ []) are.1 in let l = length_push cs c in omega arith)
AreUndos-last (v ∷ us) [] u c are = absurd (let e = length-AreUndos (us ++ u ∷ []) [] are.1 in let l = length_push us u in omega arith)
AreUndos-last (v ∷ us) (d ∷ cs) u c are = let rest = AreUndos-last us cs u c are.1 in ((are.0, rest.0), rest.1)

UndosFit-last : (count : ℕ) (recs : List Record) (us : List Undo) (u : Undo) → UndosFit count recs (us ++ u ∷ []) → UndosFit count recs us × UndoFits count recs u
UndosFit-last count recs [] u fit = (tt, fit.0)
UndosFit-last count recs (v ∷ us) u fit = let rest = UndosFit-last count recs us u fit.1 in ((fit.0, rest.0), rest.1)

-- ---- the last change of a transaction
-- the bytes before it, in the words of the pool
same_bytes : (u : Undo) (c : Change) (now : ℕ → List ℕ) → IsUndo u c → with_range c c.before now ≡ with_bytes u.page u.offset u.before now
same_bytes u c now is =
    ap (λ (x : ℕ). with_bytes x c.offset c.before now) (sym is.page) ∙ ap (λ (x : ℕ). with_bytes u.page x c.before now) (sym is.offset) ∙ ap (λ (x : List ℕ). with_bytes u.page u.offset x now) (sym is.before)

module _ (count : ℕ) (recs : List Record) (next : ℕ) (o : ActiveTransaction) (us : List Undo) (u : Undo) (was : o.undos ≡ us ++ u ∷ []) (is_one : IsTransactionOf count recs next o) where
  abbrev n : ℕ
  n = length us

  one_more : length o.undos ≡ suc n
  one_more = ap (λ (vs : List Undo). length vs) was ∙ length_push us u ∙ (omega arith)

  are : AreUndos (us ++ u ∷ []) (own_changes o.tx (keep o.tx (suc n) (standing recs)))
  are = subst (λ (k : ℕ). AreUndos (us ++ u ∷ []) (own_changes o.tx (keep o.tx k (standing recs)))) one_more
      (subst (λ (vs : List Undo). AreUndos vs (own_changes o.tx (keep o.tx (length o.undos) (standing recs)))) was is_one.undos)

  enough : n < count_of o.tx (standing recs)
  enough =
      let long = length-AreUndos (us ++ u ∷ []) (own_changes o.tx (keep o.tx (suc n) (standing recs))) are in
      let taken = ap (λ (cs : List Change). length cs) (own_changes-keep o.tx (suc n) (standing recs)) in
      let most = length-take (suc n) (own_changes o.tx (standing recs)) in
      let all = count_of-own o.tx (standing recs) in
      let more = length_push us u in
      omega arith

  pub last_change : HasLast o.tx n (standing recs)
  last_change = HasLast-some o.tx n (standing recs) enough

  parted : AreUndos us (own_changes o.tx (keep o.tx n (standing recs))) × IsUndo u last_change.c
  parted = AreUndos-last us (own_changes o.tx (keep o.tx n (standing recs))) u last_change.c
      (subst (λ (cs : List Change). AreUndos (us ++ u ∷ []) cs) (HasLast-own o.tx n (standing recs) last_change) are)

  pub fits_last : UndoFits count recs u
  fits_last = (UndosFit-last count recs us u (subst (λ (vs : List Undo). UndosFit count recs vs) was is_one.fit)).1

  some_undo : us ++ u ∷ [] ≡ [] → ⊥
  some_undo e = absurd (let l = ap (λ (vs : List Undo). length vs) e in let m = length_push us u in omega arith)

  pub IsTransactionOf-undone : IsTransactionOf count recs next (undone_transaction o us)
  IsTransactionOf-undone = record {
    undos = parted.0;
    logged = λ e. absurd (false≢true (sym e));
    none = λ e. absurd (some_undo (sym was ∙ is_one.none e));
    number = is_one.number;
    fit = (UndosFit-last count recs us u (subst (λ (vs : List Undo). UndosFit count recs vs) was is_one.fit)).0;
  }

module _ (want now : ℕ → List ℕ) (told : Option Story) (size : ℕ) (j : journal.State) (p : pool.State) (book : Book) (o : ActiveTransaction) (rest : List ActiveTransaction) (is : book.actives ≡ o ∷ rest) (us : List Undo) (u : Undo) (was : o.undos ≡ us ++ u ∷ []) (opened pending : List Record)
    (holds : Holds want now opened pending (stored told size j p book)) where
  abbrev then : ℕ → List ℕ
  then = with_bytes u.page u.offset u.before now

  abbrev popped : Book
  popped = with_actives book (undone_transaction o us ∷ rest)

  first_is_one : IsTransactionOf p.geometry.pages (opened ++ pending) book.next o
  first_is_one = first_transaction want now told size j p book o rest is opened pending holds

  fits_popped : UndoFits p.geometry.pages (opened ++ pending) u
  fits_popped = fits_last p.geometry.pages (opened ++ pending) book.next o us u was first_is_one

  store_popped : IsStoreOn want then told j p.geometry opened pending (views popped.actives)
  store_popped =
      let last = last_change p.geometry.pages (opened ++ pending) book.next o us u was first_is_one in
      let store = subst (λ (n : ℕ). IsStoreOn want now told j p.geometry opened pending (active_with o.tx n ∷ views rest)) (one_more p.geometry.pages (opened ++ pending) book.next o us u was first_is_one)
      (first_store want now told size j p book o rest is opened pending holds) in
      subst (λ (pages : ℕ → List ℕ). IsStoreOn want pages told j p.geometry opened pending (views popped.actives))
      (same_bytes u last.c now (parted p.geometry.pages (opened ++ pending) book.next o us u was first_is_one).1)
      (IsStoreOn-step want now j p.geometry opened pending (active_with o.tx (suc (length us)) ∷ views rest) (with_range last.c last.c.before now) (active_with o.tx (length us) ∷ views rest) told
      (λ disk whole. IsWhole-undo p.geometry.pages disk now opened pending o.tx (length us) (views rest) last whole) store)

  leans_popped : Leans want now then opened pending (stored told size j p popped)
  leans_popped = record {
    up = holds.up;
    store = store_popped;
    serves = holds.serves;
    agrees = holds.agrees;
    pages = holds.pages;
    tied = holds.tied;
    knows = record {
      images = holds.knows.images;
      count = holds.knows.count;
      actives = (IsTransactionOf-undone p.geometry.pages (opened ++ pending) book.next o us u was first_is_one, rest_transactions want now told size j p book o rest is opened pending holds);
      fresh = holds.knows.fresh;
      once = first_once want now told size j p book o rest is opened pending holds;
      most = rest_most want now told size j p book o rest is opened pending holds;
    };
    spare = record {
      few = All-cons (λ (x : ActiveTransaction). length x.undos ≤ used_of j) (undone_transaction o us) rest
          (let e = one_more p.geometry.pages (opened ++ pending) book.next o us u was first_is_one in let h = first_few want now told size j p book o rest is opened pending holds in omega arith)
          (rest_few want now told size j p book o rest is opened pending holds (used_of j) (omega arith));
      room = let h = first_room want now told size j p book o rest is opened pending holds in omega arith;
      gates = let h = first_gates want now told size j p book o rest is opened pending holds in omega arith;
    };
  }

-- ---- the write of the bytes before it, as the call has them
module _ (told : Option Story) (size : ℕ) (j : journal.State) (p : pool.State) (book after : Book) (tx : ℕ) (o : ActiveTransaction) (is : transaction_with tx book.actives ≡ Some o) (u : Undo) (pops : Pops o book after u) (bytes : List ℕ) (same : bytes ≡ u.before) where
  abbrev old : Parts
  old = record { told = told; size = size; store = together j p book }

  abbrev mid : Parts
  mid = record { told = told; size = size; store = together j p after }

  -- the book with the transaction first
  abbrev rest : List ActiveTransaction
  rest = others tx book.actives

  abbrev front : Book
  front = with_actives book (o ∷ rest)

  module _ (want now : ℕ → List ℕ) (store : HoldsPages want now old) where
    holds_first : Holds want now store.0 store.1 (stored told size j p front)
    holds_first = Holds-first want now told size j p book store.0 store.1 tx o is store.2

    fits : UndoFits p.geometry.pages (store.0 ++ store.1) u
    fits = fits_popped want now told size j p front o rest refl pops.others u pops.was store.0 store.1 holds_first

    leans : Leans want now (with_bytes u.page u.offset u.before now) store.0 store.1 mid
    leans = subst (λ (b : Book). Leans want now (with_bytes u.page u.offset u.before now) store.0 store.1 (stored told size j p b)) (sym pops.is)
        (Leans-put want now (with_bytes u.page u.offset u.before now) told size j p book store.0 store.1 tx book.actives o is (undone_transaction o pops.others) refl
        (leans_popped want now told size j p front o rest refl pops.others u pops.was store.0 store.1 holds_first))

    -- they lie in a page of the store
    pub UndoFits-undo : (u.page < p.geometry.pages) × (u.offset + length bytes ≤ 4096)
    UndoFits-undo = (fits.page, subst (λ (l : List ℕ). u.offset + length l ≤ 4096) (sym same) fits.within)

    -- the pool wants just them
    pub IsAhead-undo : IsAhead want now u.page u.offset bytes mid
    IsAhead-undo = subst (λ (l : List ℕ). IsAhead want now u.page u.offset l mid) (sym same)
        (record { opened = store.0; pending = store.1; leans = leans; covered = fits.covered })

  -- a crash meanwhile leaves what was wanted
  pub LeavesWanted-undo : (end : Parts) → LeavesAhead mid end u.page u.offset bytes → LeavesWanted old end
  LeavesWanted-undo end leaves = record { each = λ want now store. leaves.each want now (IsAhead-undo want now store) }

  -- and with them the change is undone
  pub UndoesLast-undo : (end : Parts) → CatchesUp mid end u.page u.offset bytes → UndoesLast old end o
  UndoesLast-undo end caught = record {
    others = pops.others;
    last = u;
    was = pops.was;
    book = caught.book ∙ pops.is;
    pages = λ want now store.
        subst (λ (l : List ℕ). HoldsPages want (with_bytes u.page u.offset l now) end) same (caught.pages want now (IsAhead-undo want now store));
    journal = caught.journal;
  }
