-- A transaction is the only one still behind a call.
use Rattle.std.proofs.Common.{◌≡◌, ℕ, ◌≤◌, Bool, true, false, Option, Some, Result, Ok, Err, OnOk, IfErr, IsErrOf, List, length, refl, sym, ◌∙◌, ap, subst, arith}
use Rattle.std.proofs.lemmas.List.{length_push}
use Rattle.sb_disk.specs.Disk.{Story}
use Rattle.sb_txn.specs.Book.{ActiveTransaction, Undo, Book, transaction_with, put_in, IsOnly, standing_of, changed_transaction}
use Rattle.sb_txn.specs.Clauses.{StaysReady, Refused, undo_in, Changes, ChangeErr, cut_back, GoesBack, IsFaultOrDown}
use Rattle.sb_txn.specs.Parts.{parts}
use Rattle.sb_txn.specs.State.{State}
use Rattle.sb_txn.specs.declared.fault.StoreFault.{StoreFault}
use Rattle.sb_txn.specs.declared.fault.StoreFault.TheVariants.{Fault, LogFull, GatesFull, Down, NoMemory}
use Rattle.sb_txn.proofs.KeepsLemmas.{not_both, StaysReady-up}
use Rattle.sb_txn.proofs.CalledLemmas.{transaction_with-among, standing_of-found, standing_of-put, IsOnly-put}

module _ {D : Type 0} (told : D → Option Story) (len faults : D → ℕ) (old new : D) (s t : State) (tx : ℕ) (only : s.book.down ≡ false → IsOnly tx s.book.actives) (up : t.book.down ≡ false) where
  -- the book is as it was
  same_book : t.book ≡ s.book → IsOnly tx t.book.actives
  same_book same = subst (λ (b : Book). IsOnly tx b.actives) (sym same) (only (ap (λ (b : Book). b.down) (sym same) ∙ up))

  -- the call failed, or the store was down
  fault_only : StaysReady {T = Unit {0}} told len faults old new s t (Err Fault) → IsOnly tx t.book.actives
  fault_only keeps = not_both t.book.down up (keeps.fault refl).1

  down_only : StaysReady {T = Unit {0}} told len faults old new s t (Err Down) → IsOnly tx t.book.actives
  down_only keeps = same_book (ap (λ (x : State). x.book) (keeps.down (keeps.only refl)).store)

  -- it has changed
  changed_only : StaysReady {T = Unit {0}} told len faults old new s t (Ok tt) → ((o : ActiveTransaction) → transaction_with tx s.book.actives ≡ Some o → (after : ActiveTransaction) × (after.tx ≡ o.tx) × (t.book.actives ≡ put_in after s.book.actives)) → IsOnly tx t.book.actives
  changed_only keeps changes =
      let was = only (StaysReady-up told len faults tt old new s t keeps) in
      let is = transaction_with-among tx s.book.actives was.0 in
      let now = changes is.0 is.1 in
      subst (λ (l : List ActiveTransaction). IsOnly tx l) (sym now.2) (IsOnly-put tx s.book.actives is.0 is.1 now.0 now.1 was.1)

  -- it is refused for another reason
  refused_only : (e : StoreFault) → StaysReady {T = Unit {0}} told len faults old new s t (Err e) → (IsErrOf {T = Unit {0}} (Err e) Down → ⊥) → ((o : ActiveTransaction) → transaction_with tx s.book.actives ≡ Some o → Refused (parts told len old s) (parts told len new t)) → IsOnly tx t.book.actives
  refused_only e keeps other refused =
      let is = transaction_with-among tx s.book.actives (only (by_case s.book.down (λ on. other (keeps.down on).answer))).0 in
      same_book (refused is.0 is.1).book
    where
      by_case : (b : Bool) → (b ≡ true → ⊥) → b ≡ false
      by_case true off = absurd (off refl)
      by_case false off = refl

  pub IsOnly-change : (result : Result (Unit {0}) StoreFault) (owner page offset : ℕ) (bytes : List ℕ) → StaysReady told len faults old new s t result
      → OnOk result ((o : ActiveTransaction) → transaction_with tx s.book.actives ≡ Some o → Changes (parts told len old s) (parts told len new t) o owner page offset bytes)
      → IfErr result (λ e. (o : ActiveTransaction) → transaction_with tx s.book.actives ≡ Some o → ChangeErr (parts told len old s) (parts told len new t) o page (length bytes) e) → IsOnly tx t.book.actives
  IsOnly-change (Ok x) owner page offset bytes keeps changes refused = changed_only keeps (λ o is. (changed_transaction o (undo_in page offset (changes o is).image bytes), refl, ap (λ (b : Book). b.actives) (changes o is).book))
  IsOnly-change (Err Fault) owner page offset bytes keeps changes refused = fault_only keeps
  IsOnly-change (Err Down) owner page offset bytes keeps changes refused = down_only keeps
  IsOnly-change (Err NoMemory) owner page offset bytes keeps changes refused = refused_only NoMemory keeps (λ e. cc) (λ o is. refused o is)
  IsOnly-change (Err (LogFull used need total)) owner page offset bytes keeps changes refused = refused_only (LogFull used need total) keeps (λ e. cc) (λ o is. (refused o is).4)
  IsOnly-change (Err (GatesFull used total)) owner page offset bytes keeps changes refused = refused_only (GatesFull used total) keeps (λ e. cc) (λ o is. (refused o is).4)

  pub IsOnly-back : (result : Result (Unit {0}) StoreFault) (n : ℕ) → StaysReady told len faults old new s t result
      → OnOk result ((o : ActiveTransaction) → transaction_with tx s.book.actives ≡ Some o → GoesBack (parts told len old s) (parts told len new t) o n) → IfErr result IsFaultOrDown → IsOnly tx t.book.actives
  IsOnly-back (Ok x) n keeps back err = changed_only keeps (λ o is. (cut_back o n, refl, ap (λ (b : Book). b.actives) (back o is).book))
  IsOnly-back (Err Fault) n keeps back err = fault_only keeps
  IsOnly-back (Err Down) n keeps back err = down_only keeps
  IsOnly-back (Err NoMemory) n keeps back err = absurd err
  IsOnly-back (Err (LogFull used need total)) n keeps back err = absurd err
  IsOnly-back (Err (GatesFull used total)) n keeps back err = absurd err

module _ {D : Type 0} (told : D → Option Story) (len faults : D → ℕ) (old new : D) (s t : State) (tx : ℕ) (only : s.book.down ≡ false → IsOnly tx s.book.actives) where
  -- no change that stood is gone
  pub standing-change : (result : Result (Unit {0}) StoreFault) (owner page offset : ℕ) (bytes : List ℕ) → StaysReady told len faults old new s t result
      → OnOk result ((o : ActiveTransaction) → transaction_with tx s.book.actives ≡ Some o → Changes (parts told len old s) (parts told len new t) o owner page offset bytes) → OnOk result (standing_of tx s.book.actives ≤ standing_of tx t.book.actives)
  standing-change (Err e) owner page offset bytes keeps changes = tt
  standing-change (Ok x) owner page offset bytes keeps changes =
      let is = transaction_with-among tx s.book.actives (only (StaysReady-up told len faults tt old new s t keeps)).0 in
      let change = changes is.0 is.1 in
      let u : Undo = undo_in page offset change.image bytes in
      let was = standing_of-found tx s.book.actives is.0 is.1 in
      let now = ap (λ (b : Book). standing_of tx b.actives) change.book ∙ standing_of-put tx s.book.actives is.0 is.1 (changed_transaction is.0 u) refl in
      let more = length_push is.0.undos u in
      omega arith
