use Rattle.std.proofs.Common.{◌≡◌, Some, position, refl, ◌∙◌, ap}
use Rattle.sb_pool.proofs.CallLemmas.{on_err}
use Rattle.sb_txn.specs.Book.{Book, transaction_with, with_change}
use Rattle.sb_txn.specs.View.{undo_of, book_of}
use Rattle.sb_txn.proofs.BookLemmas.{with_change-here, same-here}
use Rattle.sb_txn.proofs.PlaceLemmas.{has}
use Rattle.sb_txn.proofs.book.Book.add.Goals as goal

pub returns-in_err-add-clause-err : goal.returns-in_err-add-clause-err
returns-in_err-add-clause-err c =
    let tx = c.args.tx in
    let one = c.index_mut.result.now in
    let is = ap (λ (b : Book). position (has tx) b.actives) c.self.view_is ∙ c.place-at.ensures in
    on_err c.from_residual.result _
    (same-here (book_of c.self.inside) c.self.inside.actives.items one c.add.new.self tx c.place-at.result is c.index_mut.ensures.value refl c.in_err-add.ensures.err ∙ c.self.view_is)

pub returns-clause-ok : goal.returns-clause-ok
returns-clause-ok c o found =
    let tx = c.args.tx in
    let one = c.index_mut.result.now in
    let book : Book = book_of c.self.inside in
    let is = ap (λ (b : Book). position (has tx) b.actives) c.self.view_is ∙ c.place-at.ensures in
    let here : transaction_with tx book.actives ≡ Some o = ap (λ (b : Book). transaction_with tx b.actives) c.self.view_is ∙ found in
    with_change-here book c.self.inside.actives.items one c.add.new.self tx c.place-at.result is c.index_mut.ensures.value refl c.args.undo o here c.in_ok-add.ensures.ok
    ∙ ap (λ (b : Book). with_change b o (undo_of c.args.undo)) c.self.view_is
