use Rattle.sb_opening.proofs.NewLemmas.{new-are-empty}
use Rattle.sb_opening.proofs.laws.new_stores_are_empty.Goals as goal

pub returns : goal.returns
returns c = new-are-empty
