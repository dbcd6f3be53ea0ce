use Rattle.sb_cascade.proofs.FittingRows.{wishes-there-fit, changes-fit, rows-stay}
use Rattle.sb_cascade.proofs.FittingWork.{changes-go-on, actions-go-on, finish-goes-on}
use Rattle.sb_cascade.proofs.laws.what_fits_goes_on.Goals as goal

pub returns-clause-wishes_there : goal.returns-clause-wishes_there
returns-clause-wishes_there c = wishes-there-fit

pub returns-clause-changes : goal.returns-clause-changes
returns-clause-changes c = changes-fit

pub returns-clause-rows_stay : goal.returns-clause-rows_stay
returns-clause-rows_stay c = rows-stay

pub returns-clause-changes_go_on : goal.returns-clause-changes_go_on
returns-clause-changes_go_on c = changes-go-on

pub returns-clause-actions_go_on : goal.returns-clause-actions_go_on
returns-clause-actions_go_on c = actions-go-on

pub returns-clause-finish_goes_on : goal.returns-clause-finish_goes_on
returns-clause-finish_goes_on c = finish-goes-on
