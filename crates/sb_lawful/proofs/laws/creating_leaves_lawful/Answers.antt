use Rattle.sb_lawful.proofs.Creating.{created-lawful}
use Rattle.sb_lawful.proofs.Commands.{creates-lawful}
use Rattle.sb_lawful.proofs.laws.creating_leaves_lawful.Goals as goal

pub returns-clause-database : goal.returns-clause-database
returns-clause-database c = created-lawful

pub returns-clause-step : goal.returns-clause-step
returns-clause-step c = creates-lawful
