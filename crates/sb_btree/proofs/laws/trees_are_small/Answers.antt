use Rattle.sb_btree.proofs.Spending.{trees_are_small}
use Rattle.sb_btree.proofs.laws.trees_are_small.Goals as goal

pub returns : goal.returns
returns c = trees_are_small
