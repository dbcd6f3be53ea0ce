use Rattle.sb_log.proofs.RowLemmas.{IsBadAt-one, IsBadAt-no_row}
use Rattle.sb_log.proofs.laws.bad_in_one_place.Goals as goal

pub returns-clause-place : goal.returns-clause-place
returns-clause-place c = IsBadAt-one

pub returns-clause-no_row : goal.returns-clause-no_row
returns-clause-no_row c = IsBadAt-no_row
