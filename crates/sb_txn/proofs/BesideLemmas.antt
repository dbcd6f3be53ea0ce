-- Two transactions stay beside each other.
use Rattle.std.proofs.Common.{◌≡◌, inl, inr, ⊎_elim, ℕ, Bool, true, false, cond, not, Option, Some, IsSome, Result, Ok, Err, OnOk, IfErr, IsErrOf, List, [], ◌∷◌, ◌++◌, length, drop, refl, sym, ◌∙◌, ap, subst, arith}
use Rattle.std.specs.List.{All}
use Rattle.std.proofs.lemmas.Bool.{eq-eqb, ne_eqb}
use Rattle.std.proofs.lemmas.List.{length-take}
use Rattle.std.proofs.lemmas.List.Elements.{All-nil, All-cons, All-head, All-tail, All-append}
use Rattle.sb_disk.specs.Disk.{Story}
use Rattle.sb_txn.specs.Book.{Undo, ActiveTransaction, Book, MayBegin, IsClear, AreClear, transaction_with, IsAmong, others, put_in, IsOnly, changed_transaction}
use Rattle.sb_txn.specs.Tied.{AreOnce}
use Rattle.sb_txn.specs.Beside.{IsOn, AreOn, IsOne, AreTwo}
use Rattle.sb_txn.specs.Clauses.{IsReady, StaysReady, Refused, Begins, undo_in, Changes, ChangeErr, IsFaultOrDown}
use Rattle.sb_txn.specs.Parts.{Parts, parts}
use Rattle.sb_txn.specs.State.{State}
use Rattle.sb_txn.specs.declared.fault.StoreFault.{StoreFault}
use Rattle.sb_txn.specs.declared.fault.StoreFault.TheVariants.{Fault, LogFull, GatesFull, Down, NoMemory}
use Rattle.sb_txn.proofs.KeepsLemmas.{not_both, StaysReady-up}
use Rattle.sb_txn.proofs.PlaceLemmas.{transaction_with-first, others-first, IsOnly-one}

-- ---- sides
not_not : (b : Bool) → not (not b) ≡ b
not_not true = refl
not_not false = refl

-- what undoes a change is on the side of the change
on_undo : (low : Bool) (page offset : ℕ) (image bytes : List ℕ) → IsOn low offset (length bytes) → IsOn low offset (length (undo_in page offset image bytes).before)
on_undo true page offset image bytes on = let e = length-take (length bytes) (drop offset image) in omega arith
on_undo false page offset image bytes on = on

clear_one : (low : Bool) (page offset count : ℕ) (u : Undo) → IsOn low offset count → IsOn (not low) u.offset (length u.before) → IsClear page offset count u
clear_one true page offset count u on beside here = inr (omega arith)
clear_one false page offset count u on beside here = inl (omega arith)

clear_all : (low : Bool) (page offset count : ℕ) (us : List Undo) → IsOn low offset count → AreOn (not low) us → All (IsClear page offset count) us
clear_all low page offset count [] on beside = All-nil (IsClear page offset count)
clear_all low page offset count (u ∷ us) on beside = All-cons (IsClear page offset count) u us
    (clear_one low page offset count u on (All-head (λ (v : Undo). IsOn (not low) v.offset (length v.before)) u us beside))
    (clear_all low page offset count us on (All-tail (λ (v : Undo). IsOn (not low) v.offset (length v.before)) u us beside))

-- ---- the one of a call and the other
pub AreTwo-swap : (low : Bool) (tx other : ℕ) (actives : List ActiveTransaction) → AreTwo low tx other actives → AreTwo (not low) other tx actives
AreTwo-swap low tx other actives two = record {
  first = two.second;
  second = two.first;
  own = two.others;
  others = two.own;
  differ = λ e. two.differ (sym e);
  on = two.beside;
  beside = subst (λ (b : Bool). AreOn b two.first.undos) (sym (not_not low)) two.on;
  is = ⊎_elim (λ (e : actives ≡ two.first ∷ two.second ∷ []). inr e) (λ (e : actives ≡ two.second ∷ two.first ∷ []). inl e) two.is;
}

module _ (low : Bool) (tx other : ℕ) (actives : List ActiveTransaction) (two : AreTwo low tx other actives) where
  abbrev a : ActiveTransaction
  a = two.first

  abbrev b : ActiveTransaction
  b = two.second

  not_own : b.tx ≡ tx → ⊥
  not_own e = two.differ (sym e ∙ two.others)

  pub found_two : transaction_with tx actives ≡ Some a
  found_two = ⊎_elim
      (λ (e : actives ≡ a ∷ b ∷ []). ap (transaction_with tx) e ∙ transaction_with-first tx a (b ∷ []) two.own)
      (λ (e : actives ≡ b ∷ a ∷ []). ap (transaction_with tx) e ∙ ap (λ (t : Bool). cond t (Some b) (transaction_with tx (a ∷ []))) (ne_eqb b.tx tx not_own) ∙ transaction_with-first tx a [] two.own)
      two.is

  pub others_two : others tx actives ≡ b ∷ []
  others_two = ⊎_elim
      (λ (e : actives ≡ a ∷ b ∷ []). ap (others tx) e ∙ others-first tx a (b ∷ []) two.own)
      (λ (e : actives ≡ b ∷ a ∷ []). ap (others tx) e ∙ ap (λ (t : Bool). cond t (a ∷ []) (b ∷ others tx (a ∷ []))) (ne_eqb b.tx tx not_own) ∙ ap (λ (l : List ActiveTransaction). b ∷ l) (others-first tx a [] two.own))
      two.is

  pub IsAmong-two : IsAmong tx actives
  IsAmong-two = subst IsSome (sym found_two) refl

  pub AreClear-two : (page offset count : ℕ) → IsOn low offset count → AreClear page offset count (others tx actives)
  AreClear-two page offset count on = subst (λ (l : List ActiveTransaction). AreClear page offset count l) (sym others_two)
      (All-cons (λ (o : ActiveTransaction). All (IsClear page offset count) o.undos) b [] (clear_all low page offset count b.undos on two.beside) (All-nil (λ (o : ActiveTransaction). All (IsClear page offset count) o.undos)))

  -- with a change more
  two_changed : (page offset : ℕ) (image bytes : List ℕ) → IsOn low offset (length bytes) → AreTwo low tx other (put_in (changed_transaction a (undo_in page offset image bytes)) actives)
  two_changed page offset image bytes on =
      let u : Undo = undo_in page offset image bytes in
      let x : ActiveTransaction = changed_transaction a u in
      record {
        first = x;
        second = b;
        own = two.own;
        others = two.others;
        differ = two.differ;
        on = All-append (λ (v : Undo). IsOn low v.offset (length v.before)) a.undos (u ∷ []) two.on
            (All-cons (λ (v : Undo). IsOn low v.offset (length v.before)) u [] (on_undo low page offset image bytes on) (All-nil (λ (v : Undo). IsOn low v.offset (length v.before))));
        beside = two.beside;
        is = ⊎_elim
            (λ (e : actives ≡ a ∷ b ∷ []). inl (ap (put_in x) e ∙ ap (λ (t : Bool). cond t (x ∷ b ∷ []) (a ∷ put_in x (b ∷ []))) (eq-eqb a.tx a.tx refl)))
            (λ (e : actives ≡ b ∷ a ∷ []). inr (ap (put_in x) e ∙ ap (λ (t : Bool). cond t (x ∷ a ∷ []) (b ∷ put_in x (a ∷ []))) (ne_eqb b.tx a.tx (λ same. not_own (same ∙ two.own)))
            ∙ ap (λ (t : Bool). b ∷ cond t (x ∷ []) (a ∷ [])) (eq-eqb a.tx a.tx refl)))
            two.is;
      }

-- ---- a begin
pub MayBegin-none : (b : Book) → b.actives ≡ [] → MayBegin b
MayBegin-none b none = record {
  few = let e = ap (λ (l : List ActiveTransaction). length l) none in omega arith;
  numbered = λ some. absurd (let e = ap (λ (l : List ActiveTransaction). length l) none in omega arith);
}

pub IsOne-begin : (low : Bool) (old new : Parts) (tx : ℕ) → old.store.book.actives ≡ [] → Begins old new tx → IsOne low tx new.store.book.actives
IsOne-begin low old new tx none begins = record {
  first = record { tx = tx; undos = []; begun = false; undone = false };
  is = begins.actives ∙ ap (λ (l : List ActiveTransaction). l ++ record { tx = tx; undos = []; begun = false; undone = false } ∷ []) none;
  own = refl;
  on = All-nil (λ (u : Undo). IsOn low u.offset (length u.before));
}

pub IsOnly-one_active : (low : Bool) (tx : ℕ) (actives : List ActiveTransaction) → IsOne low tx actives → IsOnly tx actives
IsOnly-one_active low tx actives one = subst (λ (l : List ActiveTransaction). IsOnly tx l) (sym one.is) (IsOnly-one tx one.first one.own)

pub AreTwo-begin : (low : Bool) (old new : Parts) (one tx : ℕ) → IsOne low one old.store.book.actives → Begins old new tx → new.store.book.down ≡ false → IsReady new → AreTwo low one tx new.store.book.actives
AreTwo-begin low old new one tx was begins up ready =
    let second : ActiveTransaction = record { tx = tx; undos = []; begun = false; undone = false } in
    let actives : new.store.book.actives ≡ was.first ∷ second ∷ [] = begins.actives ∙ ap (λ (l : List ActiveTransaction). l ++ second ∷ []) was.is in
    let store = ready up in
    let once = subst AreOnce actives store.2.2.knows.once in
    record {
      first = was.first;
      second = second;
      own = was.own;
      others = refl;
      differ = λ e. once.0.0 (sym e ∙ sym was.own);
      on = was.on;
      beside = All-nil (λ (u : Undo). IsOn (not low) u.offset (length u.before));
      is = inl actives;
    }

-- ---- the calls of one of them
module _ {D : Type 0} (told : D → Option Story) (len faults : D → ℕ) (old new : D) (s t : State) (low : Bool) (tx other : ℕ) (two : s.book.down ≡ false → AreTwo low tx other s.book.actives) (up : t.book.down ≡ false) where
  down_two : StaysReady {T = Unit {0}} told len faults old new s t (Err Down) → AreTwo low tx other t.book.actives
  down_two keeps =
      let same = ap (λ (x : State). x.book) (keeps.down (keeps.only refl)).store in
      subst (λ (b : Book). AreTwo low tx other b.actives) (sym same) (two (ap (λ (b : Book). b.down) (sym same) ∙ up))

  fault_two : StaysReady {T = Unit {0}} told len faults old new s t (Err Fault) → AreTwo low tx other t.book.actives
  fault_two keeps = not_both t.book.down up (keeps.fault refl).1

  refused_two : (e : StoreFault) → StaysReady {T = Unit {0}} told len faults old new s t (Err e) → (IsErrOf {T = Unit {0}} (Err e) Down → ⊥) → ((o : ActiveTransaction) → transaction_with tx s.book.actives ≡ Some o → Refused (parts told len old s) (parts told len new t)) → AreTwo low tx other t.book.actives
  refused_two e keeps not_down refused =
      let was = two (by_case s.book.down (λ on. not_down (keeps.down on).answer)) in
      subst (λ (b : Book). AreTwo low tx other b.actives) (sym (refused was.first (found_two low tx other s.book.actives was)).book) was
    where
      by_case : (b : Bool) → (b ≡ true → ⊥) → b ≡ false
      by_case true off = absurd (off refl)
      by_case false off = refl

  pub AreTwo-change : (result : Result (Unit {0}) StoreFault) (owner page offset : ℕ) (bytes : List ℕ) → IsOn low offset (length bytes) → StaysReady told len faults old new s t result
      → OnOk result ((o : ActiveTransaction) → transaction_with tx s.book.actives ≡ Some o → Changes (parts told len old s) (parts told len new t) o owner page offset bytes)
      → IfErr result (λ e. (o : ActiveTransaction) → transaction_with tx s.book.actives ≡ Some o → ChangeErr (parts told len old s) (parts told len new t) o page (length bytes) e) → AreTwo low tx other t.book.actives
  AreTwo-change (Ok x) owner page offset bytes on keeps changes refused =
      let was = two (StaysReady-up told len faults x old new s t keeps) in
      let change = changes was.first (found_two low tx other s.book.actives was) in
      subst (λ (b : Book). AreTwo low tx other b.actives) (sym change.book) (two_changed low tx other s.book.actives was page offset change.image bytes on)
  AreTwo-change (Err Fault) owner page offset bytes on keeps changes refused = fault_two keeps
  AreTwo-change (Err Down) owner page offset bytes on keeps changes refused = down_two keeps
  AreTwo-change (Err NoMemory) owner page offset bytes on keeps changes refused = refused_two NoMemory keeps (λ e. cc) (λ o is. refused o is)
  AreTwo-change (Err (LogFull used need total)) owner page offset bytes on keeps changes refused = refused_two (LogFull used need total) keeps (λ e. cc) (λ o is. (refused o is).4)
  AreTwo-change (Err (GatesFull used total)) owner page offset bytes on keeps changes refused = refused_two (GatesFull used total) keeps (λ e. cc) (λ o is. (refused o is).4)

  -- the other is active still when this one has ended
  other_alone : t.book.actives ≡ others tx s.book.actives → AreTwo low tx other s.book.actives → IsOnly other t.book.actives
  other_alone is was = subst (λ (l : List ActiveTransaction). IsOnly other l) (sym (is ∙ others_two low tx other s.book.actives was)) (IsOnly-one other was.second was.others)

  was_down : StaysReady {T = Unit {0}} told len faults old new s t (Err Down) → IsOnly other t.book.actives
  was_down keeps =
      let on = keeps.only refl in
      not_both t.book.down up (ap (λ (x : State). x.book.down) (keeps.down on).store ∙ on)

  pub IsOnly-ended : (result : Result (Unit {0}) StoreFault) → StaysReady told len faults old new s t result → OnOk result ((o : ActiveTransaction) → transaction_with tx s.book.actives ≡ Some o → t.book.actives ≡ others tx s.book.actives) → IfErr result IsFaultOrDown → IsOnly other t.book.actives
  IsOnly-ended (Ok x) keeps ends err =
      let was = two (StaysReady-up told len faults x old new s t keeps) in
      other_alone (ends was.first (found_two low tx other s.book.actives was)) was
  IsOnly-ended (Err Fault) keeps ends err = not_both t.book.down up (keeps.fault refl).1
  IsOnly-ended (Err Down) keeps ends err = was_down keeps
  IsOnly-ended (Err NoMemory) keeps ends err = absurd err
  IsOnly-ended (Err (LogFull used need total)) keeps ends err = absurd err
  IsOnly-ended (Err (GatesFull used total)) keeps ends err = absurd err

-- a begin that is refused leaves a store that is down
pub down-refused : {D T : Type 0} (told : D → Option Story) (len faults : D → ℕ) (old new : D) (s t : State) (e : StoreFault) → IsFaultOrDown e → StaysReady {T = T} told len faults old new s t (Err e) → t.book.down ≡ true
down-refused told len faults old new s t Fault err keeps = (keeps.fault refl).1
down-refused told len faults old new s t Down err keeps = let on = keeps.only refl in ap (λ (x : State). x.book.down) (keeps.down on).store ∙ on
down-refused told len faults old new s t (LogFull used need total) err keeps = absurd err
down-refused told len faults old new s t (GatesFull used total) err keeps = absurd err
down-refused told len faults old new s t NoMemory err keeps = absurd err
