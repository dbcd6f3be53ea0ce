use Rattle.sb_lawful.proofs.Detaching.{detached-lawful}
use Rattle.sb_lawful.proofs.Commands.{detaches-lawful}
use Rattle.sb_lawful.proofs.laws.detaching_leaves_lawful.Goals as goal

pub returns-clause-database : goal.returns-clause-database
returns-clause-database c = detached-lawful

pub returns-clause-step : goal.returns-clause-step
returns-clause-step c = detaches-lawful
