use Rattle.sb_btree.proofs.Leaves.{leaves_are_whole}
use Rattle.sb_btree.proofs.laws.leaves_are_whole.Goals as goal

pub returns : goal.returns
returns c = leaves_are_whole
