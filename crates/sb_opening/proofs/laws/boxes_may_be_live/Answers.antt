use Rattle.sb_opening.proofs.CommittedLemmas.{committed-by-all}
use Rattle.sb_opening.proofs.laws.boxes_may_be_live.Goals as goal

pub returns : goal.returns
returns c = committed-by-all
