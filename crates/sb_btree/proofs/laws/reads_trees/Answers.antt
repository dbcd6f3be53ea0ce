use Rattle.sb_btree.proofs.Reading.{reads_trees}
use Rattle.sb_btree.proofs.laws.reads_trees.Goals as goal

pub returns : goal.returns
returns c = reads_trees
