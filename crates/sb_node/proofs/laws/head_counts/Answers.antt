use Rattle.sb_node.proofs.Sizes.{head_counts}
use Rattle.sb_node.proofs.laws.head_counts.Goals as goal

pub returns : goal.returns
returns c = head_counts
