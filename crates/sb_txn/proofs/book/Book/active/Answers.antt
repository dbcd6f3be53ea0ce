use Rattle.std.proofs.Common.{position, sym, ◌∙◌, ap}
use Rattle.sb_txn.specs.Book.{Book, transaction_with}
use Rattle.sb_txn.specs.View.{transaction_of}
use Rattle.sb_txn.proofs.PlaceLemmas.{has, transaction_with-place}
use Rattle.sb_txn.proofs.book.Book.active.Goals as goal

pub returns : goal.returns
returns c =
    let tx = c.args.tx in
    let items = c.self.inside.actives.items in
    let is = ap (λ (b : Book). position (has tx) b.actives) c.self.view_is ∙ c.place.ensures in
    ap (λ (b : Book). transaction_with tx b.actives) (sym c.self.view_is) ∙ transaction_with-place transaction_of items c.index.result.now tx c.place.result is c.index.ensures
