use Rattle.sb_btree.proofs.Whole.{trees_are_whole}
use Rattle.sb_btree.proofs.laws.trees_are_whole.Goals as goal

pub returns : goal.returns
returns c = trees_are_whole
