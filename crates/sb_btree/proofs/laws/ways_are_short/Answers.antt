use Rattle.sb_btree.proofs.Whole.{ways_are_short}
use Rattle.sb_btree.proofs.laws.ways_are_short.Goals as goal

pub returns : goal.returns
returns c = ways_are_short
