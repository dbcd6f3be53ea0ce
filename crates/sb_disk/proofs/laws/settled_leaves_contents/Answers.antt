use Rattle.sb_disk.proofs.MomentLemmas.{IsSettled-LeavesNow}
use Rattle.sb_disk.proofs.laws.settled_leaves_contents.Goals as goal

pub returns : goal.returns
returns c = λ told image settled left. IsSettled-LeavesNow told settled image left
