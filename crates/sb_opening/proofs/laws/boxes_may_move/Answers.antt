use Rattle.sb_session.proofs.SameBoxes.{registered-same, retired-same}
use Rattle.sb_opening.proofs.CommittedLemmas.{committed-by-same}
use Rattle.sb_opening.proofs.laws.boxes_may_move.Goals as goal

pub returns-clause-registered : goal.returns-clause-registered
returns-clause-registered c = registered-same

pub returns-clause-retired : goal.returns-clause-retired
returns-clause-retired c = retired-same

pub returns-clause-committed : goal.returns-clause-committed
returns-clause-committed c = committed-by-same
