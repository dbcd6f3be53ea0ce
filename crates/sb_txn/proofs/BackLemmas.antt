-- What going back to a savepoint leaves of a store.
use Rattle.std.proofs.Common.{◌≡◌, inl, ℕ, zero, suc, ◌<◌, ◌≤◌, Bool, true, false, ◌||◌, Option, Some, Result, Ok, List, [], ◌∷◌, ◌++◌, length, take, drop, get_or, nat_lt, refl, sym, ◌∙◌, ap, subst, arith}
use Rattle.std.proofs.Math.Seq.{take-suc, drop-cons, take-length, drop-length}
use Rattle.std.proofs.lemmas.Bool.{lt-ltb, le-ltb}
use Rattle.std.proofs.lemmas.List.{length_push, length-take-le}
use Rattle.sb_disk.specs.Disk.{Story}
use Rattle.sb_log.proofs.StandingLemmas.{or_false}
use Rattle.sb_journal.specs.State as journal
use Rattle.sb_pool.specs.State as pool
use Rattle.sb_txn.specs.Book.{Undo, ActiveTransaction, Book, transaction_with, others, put_in, standing_of, with_actives}
use Rattle.sb_txn.specs.Clauses.{IsReady, HoldsPages, LeavesWanted, StaysReady, unwound, cut_back, UndoesLast, GoesBack, Aborts}
use Rattle.sb_txn.specs.Parts.{Parts, parts, stored}
use Rattle.sb_txn.specs.State.{State}
use Rattle.sb_txn.specs.Tied.{Holds}
use Rattle.sb_txn.specs.declared.fault.StoreFault.{StoreFault}
use Rattle.sb_txn.proofs.CalledLemmas.{standing_of-found, found_standing, put_in-same, put_in-again, transaction_with-put, others-put}
use Rattle.sb_txn.proofs.KeepsLemmas.{LeavesWanted-none, LeavesWanted-then, StaysReady-ok, StaysReady-then, StaysReady-still}
use Rattle.sb_txn.proofs.RoomLemmas.{IsSameOrForced-then}
use Rattle.sb_txn.proofs.EndLemmas.{Holds-drop, Holds-wanted}
use Rattle.sb_txn.proofs.OrderLemmas.{Holds-first}

-- ---- lists
snoc_one : (xs ys : List Undo) (x y : Undo) → xs ++ x ∷ [] ≡ ys ++ y ∷ [] → (xs ≡ ys) × (x ≡ y)
snoc_one [] [] x y e = (refl, cc)
snoc_one [] (v ∷ ys) x y e = absurd (let l = ap (λ (us : List Undo). length us) e in let m = length_push ys y in omega arith)
snoc_one (u ∷ xs) [] x y e = absurd (let l = ap (λ (us : List Undo). length us) e in let m = length_push xs x in omega arith)
snoc_one (u ∷ xs) (v ∷ ys) x y e =
    let head : u ≡ v = cc in
    let tail : xs ++ x ∷ [] ≡ ys ++ y ∷ [] = cc in
    let rest = snoc_one xs ys x y tail in
    (ap (λ (w : Undo). w ∷ xs) head ∙ ap (λ (l : List Undo). v ∷ l) rest.0, rest.1)

-- the last of the first n and one
record IsCut (us : List Undo) (n : ℕ) (others : List Undo) (last : Undo) : Type 0 where
  pub front : others ≡ take n us
  pub behind : drop n us ≡ last ∷ drop (suc n) us

IsCut-at : (us : List Undo) (n : ℕ) (others : List Undo) (last : Undo) → n < length us → take (suc n) us ≡ others ++ last ∷ [] → IsCut us n others last
IsCut-at us n others last lt was =
    let both = snoc_one others (take n us) last (get_or us n last) (sym was ∙ take-suc us n last lt) in
    record { front = both.0; behind = drop-cons us n last lt ∙ ap (λ (u : Undo). u ∷ drop (suc n) us) (sym both.1) }

-- ---- one change more is undone
all_stand : (o : ActiveTransaction) → cut_back o (length o.undos) ≡ o
all_stand o = ap (λ (us : List Undo). record o { undos = us; undone = o.undone || nat_lt (length o.undos) (length o.undos) }) (take-length o.undos)
    ∙ ap (λ (b : Bool). record o { undone = b }) (ap (λ (b : Bool). o.undone || b) (le-ltb (length o.undos) (length o.undos) (omega arith)) ∙ or_false o.undone)

pub GoesBack-none : (p : Parts) (tx : ℕ) (o : ActiveTransaction) → transaction_with tx p.store.book.actives ≡ Some o → GoesBack p p o (length o.undos)
GoesBack-none p tx o is = record {
  book = ap (λ (l : List ActiveTransaction). with_actives p.store.book l)
      (sym (ap (λ (x : ActiveTransaction). put_in x p.store.book.actives) (all_stand o) ∙ put_in-same tx p.store.book.actives o is));
  pages = λ want now store. subst (λ (us : List Undo). HoldsPages want (unwound us now) p) (sym (drop-length o.undos)) store;
  journal = inl refl;
}

or_true : (b : Bool) → true ≡ (b || true)
or_true true = refl
or_true false = refl

pub GoesBack-more : (old mid new : Parts) (o : ActiveTransaction) (n : ℕ) → n < length o.undos → GoesBack old mid o (suc n) → UndoesLast mid new (cut_back o (suc n)) → GoesBack old new o n
GoesBack-more old mid new o n lt so_far one =
    let cut = IsCut-at o.undos n one.others one.last lt one.was in
    let book : Book = old.store.book in
    let last : ActiveTransaction = record o { undos = one.others; undone = true } in
    record {
      book = one.book ∙ ap (λ (b : Book). with_actives b (put_in last b.actives)) so_far.book
          ∙ ap (λ (l : List ActiveTransaction). with_actives book l) (put_in-again (cut_back o (suc n)) last book.actives refl)
          ∙ ap (λ (us : List Undo). with_actives book (put_in (record o { undos = us; undone = true }) book.actives)) cut.front
          ∙ ap (λ (b : Bool). with_actives book (put_in (record o { undos = take n o.undos; undone = b }) book.actives)) (or_true o.undone ∙ ap (λ (b : Bool). o.undone || b) (sym (lt-ltb n (length o.undos) lt)));
      pages = λ want now store.
          subst (λ (us : List Undo). HoldsPages want (unwound us now) new) (sym cut.behind) (one.pages want (unwound (drop (suc n) o.undos) now) (so_far.pages want now store));
      journal = IsSameOrForced-then old.store.journal mid.store.journal new.store.journal so_far.journal one.journal;
    }

-- the transaction is active still, with those of its changes alone
pub transaction_with-back : (old new : Parts) (tx : ℕ) (o : ActiveTransaction) → transaction_with tx old.store.book.actives ≡ Some o → (n : ℕ) → GoesBack old new o n → transaction_with tx new.store.book.actives ≡ Some (cut_back o n)
transaction_with-back old new tx o is n back = ap (λ (b : Book). transaction_with tx b.actives) back.book ∙ transaction_with-put tx old.store.book.actives o is (cut_back o n) refl

-- ---- the loop
-- what a call answers that has nothing to say
abbrev pub done : Result (Unit {0}) StoreFault
done = Ok tt

-- So many changes of the transaction stand still, at least those up to the savepoint.
pub record WentBack {D : Type 0} (told : D → Option Story) (len faults : D → ℕ) (old new : D) (s t : State) (tx n : ℕ) : Type 0 where
  pub left : ℕ
  pub standing : standing_of tx t.book.actives ≡ left
  pub least : n ≤ left
  pub most : (o : ActiveTransaction) → transaction_with tx s.book.actives ≡ Some o → left ≤ length o.undos
  pub undoes : (o : ActiveTransaction) → transaction_with tx s.book.actives ≡ Some o → GoesBack (parts told len old s) (parts told len new t) o left
  pub found : 0 < left → (o : ActiveTransaction) × (transaction_with tx s.book.actives ≡ Some o)
  pub up : t.book.down ≡ false
  pub leaves : LeavesWanted (parts told len old s) (parts told len new t)
  pub keeps : StaysReady told len faults old new s t done

module _ {D : Type 0} (told : D → Option Story) (len faults : D → ℕ) where
  pub WentBack-none : (d : D) (s : State) (tx n : ℕ) → s.book.down ≡ false → n ≤ standing_of tx s.book.actives → IsReady (parts told len d s) → WentBack told len faults d d s s tx n
  WentBack-none d s tx n up least ready = record {
    left = standing_of tx s.book.actives;
    standing = refl;
    least = least;
    most = λ o is. let e = standing_of-found tx s.book.actives o is in omega arith;
    undoes = λ o is. subst (λ (k : ℕ). GoesBack (parts told len d s) (parts told len d s) o k) (sym (standing_of-found tx s.book.actives o is)) (GoesBack-none (parts told len d s) tx o is);
    found = λ some. found_standing tx s.book.actives some;
    up = up;
    leaves = LeavesWanted-none (parts told len d s);
    keeps = StaysReady-ok told len faults tt d d s s up up refl refl (omega arith) ready;
  }

  module _ (old mid new : D) (s m t : State) (tx n : ℕ) (so_far : WentBack told len faults old mid s m tx n) (some : n < standing_of tx m.book.actives)
      (leaves : LeavesWanted (parts told len mid m) (parts told len new t)) where
    now_found : (o : ActiveTransaction) × (transaction_with tx s.book.actives ≡ Some o)
    now_found = so_far.found (let e = so_far.standing in omega arith)

    -- up to the call, also where it fails
    pub leaves_now : LeavesWanted (parts told len old s) (parts told len new t)
    leaves_now = LeavesWanted-then (parts told len old s) (parts told len mid m) (parts told len new t) (unwound (drop so_far.left now_found.0.undos)) so_far.keeps.geometry
        (so_far.undoes now_found.0 now_found.1).pages so_far.leaves leaves

    module _ (undoes : (o : ActiveTransaction) → transaction_with tx m.book.actives ≡ Some o → UndoesLast (parts told len mid m) (parts told len new t) o) where
      one_fewer : (k : ℕ) → 0 < k → (j : ℕ) × (k ≡ suc j)
      one_fewer zero lt = absurd (omega arith)
      one_fewer (suc j) lt = (j, refl)

      fewer : (j : ℕ) × (so_far.left ≡ suc j)
      fewer = one_fewer so_far.left (let e = so_far.standing in omega arith)

      below : (o : ActiveTransaction) → transaction_with tx s.book.actives ≡ Some o → fewer.0 < length o.undos
      below o is = let e = fewer.1 in let h = so_far.most o is in omega arith

      mid_found : (o : ActiveTransaction) → transaction_with tx s.book.actives ≡ Some o → transaction_with tx m.book.actives ≡ Some (cut_back o (suc fewer.0))
      mid_found o is = transaction_with-back (parts told len old s) (parts told len mid m) tx o is so_far.left (so_far.undoes o is) ∙ ap (λ (k : ℕ). Some (cut_back o k)) fewer.1

      undoes_now : (o : ActiveTransaction) → transaction_with tx s.book.actives ≡ Some o → GoesBack (parts told len old s) (parts told len new t) o fewer.0
      undoes_now o is = GoesBack-more (parts told len old s) (parts told len mid m) (parts told len new t) o fewer.0 (below o is)
          (subst (λ (k : ℕ). GoesBack (parts told len old s) (parts told len mid m) o k) fewer.1 (so_far.undoes o is))
          (undoes (cut_back o (suc fewer.0)) (mid_found o is))

      standing_now : (o : ActiveTransaction) → transaction_with tx s.book.actives ≡ Some o → standing_of tx t.book.actives ≡ fewer.0
      standing_now o is = standing_of-found tx t.book.actives (cut_back o fewer.0) (transaction_with-back (parts told len old s) (parts told len new t) tx o is fewer.0 (undoes_now o is))
          ∙ length-take-le fewer.0 o.undos (let h = below o is in omega arith)

      pub WentBack-more : StaysReady told len faults mid new m t done → WentBack told len faults old new s t tx n
      WentBack-more keeps = record {
        left = fewer.0;
        standing = standing_now now_found.0 now_found.1;
        least = let e = fewer.1 in let h = so_far.standing in omega arith;
        most = λ o is. let h = below o is in omega arith;
        undoes = undoes_now;
        found = λ _. now_found;
        up = StaysReady-still told len faults tt mid new m t so_far.up keeps;
        leaves = leaves_now;
        keeps = StaysReady-then told len faults tt done old mid new s m t so_far.keeps keeps;
      }

      pub fewer_now : standing_of tx t.book.actives < standing_of tx m.book.actives
      fewer_now = let e = standing_now now_found.0 now_found.1 in let f = fewer.1 in let h = so_far.standing in omega arith

-- ---- what the calls say of it
-- none is left, and the transaction ends
module _ (old : Parts) (told : Option Story) (size : ℕ) (j : journal.State) (p : pool.State) (book : Book) (tx : ℕ) (o : ActiveTransaction) (is : transaction_with tx old.store.book.actives ≡ Some o) (back : GoesBack old (stored told size j p book) o 0) where
  same_others : others tx book.actives ≡ others tx old.store.book.actives
  same_others = ap (λ (b : Book). others tx b.actives) back.book ∙ others-put tx old.store.book.actives o is (cut_back o 0) refl

  abbrev ended : Book
  ended = with_actives book (others tx book.actives)

  pages_now : (want now : ℕ → List ℕ) → HoldsPages want now old → HoldsPages want (unwound o.undos now) (stored told size j p ended)
  pages_now want now store =
      let mid = back.pages want now store in
      let found = transaction_with-back old (stored told size j p book) tx o is 0 back in
      let first : Holds want (unwound o.undos now) mid.0 mid.1 (stored told size j p (with_actives book (cut_back o 0 ∷ others tx book.actives))) =
      Holds-first want (unwound o.undos now) told size j p book mid.0 mid.1 tx (cut_back o 0) found mid.2 in
      (mid.0, mid.1, Holds-drop want (unwound o.undos now) told size j p (with_actives book (cut_back o 0 ∷ others tx book.actives)) (cut_back o 0) (others tx book.actives) refl mid.0 mid.1 first refl)

  pub Aborts-back : Aborts old (stored told size j p ended) o (others tx old.store.book.actives)
  Aborts-back = record {
    book = ap (λ (l : List ActiveTransaction). with_actives book l) same_others ∙ ap (λ (b : Book). with_actives b (others tx old.store.book.actives)) back.book;
    pages = pages_now;
    alone = λ none want now store.
        let end = pages_now want now store in
        (end.0, end.1, Holds-wanted want (unwound o.undos now) told size j p ended end.0 end.1 (same_others ∙ none) end.2);
    journal = back.journal;
  }
