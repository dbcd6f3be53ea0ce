use Rattle.sb_fold.proofs.OrderlyLemmas.{orderly_finish, orderly_build}
use Rattle.sb_fold.proofs.laws.whole_work_is_orderly.Goals as goal

pub returns-clause-finish : goal.returns-clause-finish
returns-clause-finish c = orderly_finish

pub returns-clause-build : goal.returns-clause-build
returns-clause-build c = orderly_build
