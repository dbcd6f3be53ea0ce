use Rattle.std.proofs.Common.{◌≡◌, ◌<◌, ℕ, Some, map, set, position, refl, sym, ◌∙◌, ap, subst}
use Rattle.std.proofs.lemmas.List.{length-map}
use Rattle.sb_txn.specs.Book.{Book, standing_of, transaction_with, with_actives, Pops}
use Rattle.sb_txn.specs.View.{undo_of, transaction_of, book_of}
use Rattle.sb_txn.proofs.BookLemmas.{found_here, Pops-here}
use Rattle.sb_txn.proofs.CalledLemmas.{standing_of-found, IsAmong-standing}
use Rattle.sb_txn.proofs.PlaceLemmas.{has}
use Rattle.sb_txn.proofs.book.Book.pop.Goals as goal

pub place-at-requires : goal.place-at-requires
place-at-requires c = IsAmong-standing c.args.tx c.args.self.now.actives c.requires

pub pop-requires : goal.pop-requires
pop-requires c =
    let tx = c.args.tx in
    let one = c.index_mut.result.now in
    let book : Book = book_of c.self.inside in
    let is = ap (λ (b : Book). position (has tx) b.actives) c.self.view_is ∙ c.place-at.ensures in
    let found = found_here book c.self.inside.actives.items one one tx c.place-at.result is c.index_mut.ensures.value refl in
    let count = standing_of-found tx book.actives (transaction_of one) found ∙ length-map one.undos.items undo_of in
    subst (λ (n : ℕ). 0 < n) (ap (λ (b : Book). standing_of tx b.actives) (sym c.self.view_is) ∙ count) c.requires

pub returns : goal.returns
returns c o found =
    let tx = c.args.tx in
    let one = c.index_mut.result.now in
    let book : Book = book_of c.self.inside in
    let is = ap (λ (b : Book). position (has tx) b.actives) c.self.view_is ∙ c.place-at.ensures in
    let here : transaction_with tx book.actives ≡ Some o = ap (λ (b : Book). transaction_with tx b.actives) c.self.view_is ∙ found in
    let call = c.pop.ensures in
    let after : Book = with_actives book (map transaction_of (set c.self.inside.actives.items c.place-at.result c.pop.new.self)) in
    subst (λ (b : Book). Pops o b after (undo_of c.pop.result)) c.self.view_is
    (Pops-here book c.self.inside.actives.items one c.pop.new.self tx c.place-at.result is c.index_mut.ensures.value refl call.tx c.pop.result o here call.undos call.undone call.begun)
