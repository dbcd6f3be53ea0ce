-- What the calls of a book in memory make of its active transactions.
use Rattle.std.proofs.Common.{◌≡◌, ℕ, true, Some, List, [], ◌∷◌, ◌++◌, map, get_or, set, position, slice_set, sym, ◌∙◌, ap}
use Rattle.std.proofs.lemmas.List.{map-append}
use Rattle.std.proofs.Math.Seq.{map-set_same}
use Rattle.sb_txn.specs.declared.book.ActiveTransaction as code_transaction
use Rattle.sb_txn.specs.declared.book.Undo as code_undo
use Rattle.sb_txn.specs.Book.{Undo, ActiveTransaction, Book, transaction_with, put_in, undone_transaction, changed_transaction, with_actives, with_change, Pops}
use Rattle.sb_txn.specs.View.{undo_of, transaction_of}
use Rattle.sb_txn.proofs.CalledLemmas.{transaction_with-tx}
use Rattle.sb_txn.proofs.PlaceLemmas.{has, transaction_with-place, put_in-place}

-- ---- one of them is changed where it stands
module _ (b : Book) (items : List code_transaction.ActiveTransaction) (one new : code_transaction.ActiveTransaction) (tx n : ℕ) (is : position (has tx) (map transaction_of items) ≡ Some n) (at : one ≡ get_or items n one)
    (actives : b.actives ≡ map transaction_of items) where
  -- it is the one of the number
  pub found_here : transaction_with tx b.actives ≡ Some (transaction_of one)
  found_here = ap (λ (l : List ActiveTransaction). transaction_with tx l) actives ∙ transaction_with-place transaction_of items one tx n is at

  same_one : (o : ActiveTransaction) → transaction_with tx b.actives ≡ Some o → transaction_of one ≡ o
  same_one o found = let here = found_here in cc

  module _ (own : new.tx ≡ one.tx) where
    put_here : map transaction_of (set items n new) ≡ put_in (transaction_of new) b.actives
    put_here = sym (put_in-place transaction_of items one tx n is at new (own ∙ transaction_with-tx tx b.actives (transaction_of one) found_here))
        ∙ ap (λ (l : List ActiveTransaction). put_in (transaction_of new) l) (sym actives)

    -- its last change is taken
    pub Pops-here : (u : code_undo.Undo) (o : ActiveTransaction) → transaction_with tx b.actives ≡ Some o → one.undos.items ≡ new.undos.items ++ u ∷ [] → new.undone ≡ true → new.begun ≡ one.begun
        → Pops o b (with_actives b (map transaction_of (set items n new))) (undo_of u)
    Pops-here u o found undos undone begun =
        let us : List Undo = map undo_of new.undos.items in
        let same = same_one o found in
        let number : new.tx ≡ o.tx = own ∙ ap (λ (x : ActiveTransaction). x.tx) same in
        let flag : new.begun ≡ o.begun = begun ∙ ap (λ (x : ActiveTransaction). x.begun) same in
        let now : transaction_of new ≡ undone_transaction o us = λ i. record { tx = number i; undos = us; begun = flag i; undone = undone i } in
        record {
          others = us;
          was = ap (λ (x : ActiveTransaction). x.undos) (sym same) ∙ ap (map undo_of) undos ∙ map-append undo_of new.undos.items (u ∷ []);
          is = ap (λ (l : List ActiveTransaction). with_actives b l) (put_here ∙ ap (λ (x : ActiveTransaction). put_in x b.actives) now);
        }

  -- it has a change more
  pub with_change-here : (u : code_undo.Undo) (o : ActiveTransaction) → transaction_with tx b.actives ≡ Some o → transaction_of new ≡ changed_transaction (transaction_of one) (undo_of u)
      → record b { imaged = slice_set b.imaged u.page true; actives = map transaction_of (set items n new) } ≡ with_change b o (undo_of u)
  with_change-here u o found changed =
      ap (λ (l : List ActiveTransaction). record b { imaged = slice_set b.imaged u.page true; actives = l })
      (put_here (ap (λ (x : ActiveTransaction). x.tx) changed) ∙ ap (λ (x : ActiveTransaction). put_in x b.actives) (changed ∙ ap (λ (x : ActiveTransaction). changed_transaction x (undo_of u)) (same_one o found)))

  -- nothing of it has changed
  pub same-here : transaction_of new ≡ transaction_of one → with_actives b (map transaction_of (set items n new)) ≡ b
  same-here same = ap (λ (l : List ActiveTransaction). with_actives b l) (map-set_same transaction_of items n new one (same ∙ ap transaction_of at) ∙ sym actives)
