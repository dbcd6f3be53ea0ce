use Rattle.std.proofs.Common.{◌≡◌, IsSome, position, sym, ◌∙◌, ap, subst}
use Rattle.sb_txn.specs.Book.{Book}
use Rattle.sb_txn.specs.View.{transaction_of}
use Rattle.sb_txn.proofs.PlaceLemmas.{has, position-map, IsSome-place}
use Rattle.sb_txn.proofs.book.Book.place.Goals as goal
use Rattle.sb_txn.proofs.book.Book.place.Goals.{After-place_of}

-- what was found among the values in memory
found : (c : After-place_of) → position (has c.args.tx) c.args.self.now.actives ≡ c.place_of.result
found c =
    ap (λ (b : Book). position (has c.args.tx) b.actives) (sym c.self.view_is) ∙ position-map (has c.args.tx) transaction_of c.self.inside.actives.items ∙ sym (ap (position (λ o. has c.args.tx (transaction_of o))) c.deref.ensures.value) ∙ sym c.place_of.ensures

pub unwrap-requires : goal.unwrap-requires
unwrap-requires c = subst IsSome (found (goal.at.unwrap-requires c).After-place_of) (IsSome-place c.args.tx c.args.self.now.actives c.requires)

pub returns : goal.returns
returns c = found (goal.at.returns c).After-place_of ∙ c.unwrap.ensures
