use Rattle.std.proofs.Common.{map, position, sym, ◌∙◌, ap}
use Rattle.sb_txn.specs.Book.{Book, others, with_actives}
use Rattle.sb_txn.specs.View.{book_of, transaction_of}
use Rattle.sb_txn.proofs.PlaceLemmas.{has, others-place}
use Rattle.sb_txn.proofs.book.Book.end.Goals as goal

pub returns : goal.returns
returns c =
    let tx = c.args.tx in
    let book : Book = book_of c.self.inside in
    let is = ap (λ (b : Book). position (has tx) b.actives) c.self.view_is ∙ c.place-at.ensures in
    ap (λ l. with_actives book (map transaction_of l)) c.remove.ensures.items
    ∙ ap (λ l. with_actives book l) (sym (others-place transaction_of c.self.inside.actives.items c.remove.result tx c.place-at.result is c.remove.ensures.value))
    ∙ ap (λ (b : Book). with_actives b (others tx b.actives)) c.self.view_is
