use Rattle.std.proofs.Common.{◌≡◌, map, position, sym, ◌∙◌, ap}
use Rattle.std.proofs.lemmas.List.{length-map}
use Rattle.sb_txn.specs.Book.{Book, standing_of}
use Rattle.sb_txn.specs.View.{undo_of, transaction_of}
use Rattle.sb_txn.proofs.CalledLemmas.{standing_of-found}
use Rattle.sb_txn.proofs.PlaceLemmas.{has, position-map, transaction_with-place, standing_of-unplaced}
use Rattle.sb_txn.proofs.book.Book.standing_of.Goals as goal
use Rattle.sb_txn.proofs.book.Book.standing_of.Goals.{After-place_of}

-- what was found among the values in memory
found : (c : After-place_of) → position (has c.args.tx) (map transaction_of c.self.inside.actives.items) ≡ c.place_of.result
found c =
    position-map (has c.args.tx) transaction_of c.self.inside.actives.items ∙ sym (ap (position (λ o. has c.args.tx (transaction_of o))) c.deref.ensures.value) ∙ sym c.place_of.ensures

pub returns-in-Some : goal.returns-in-Some
returns-in-Some c =
    let tx = c.args.tx in
    let items = c.self.inside.actives.items in
    let is = found (goal.at.returns-in-Some c).After-place_of ∙ c.in-Some.is in
    let one = transaction_with-place transaction_of items c.index.result.now tx c.in-Some.at is c.index.ensures in
    c.len.ensures ∙ c.index.result.now.undos.ok.0 ∙ sym (length-map c.index.result.now.undos.items undo_of) ∙ sym (standing_of-found tx _ (transaction_of c.index.result.now) one) ∙ ap (λ (b : Book). standing_of tx b.actives) c.self.view_is

pub returns-in-None : goal.returns-in-None
returns-in-None c =
    let none = found (goal.at.returns-in-None c).After-place_of ∙ c.in-None.is in
    sym (standing_of-unplaced c.args.tx _ none) ∙ ap (λ (b : Book). standing_of c.args.tx b.actives) c.self.view_is
