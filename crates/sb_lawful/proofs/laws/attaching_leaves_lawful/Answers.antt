use Rattle.sb_lawful.proofs.Attaching.{attached-lawful}
use Rattle.sb_lawful.proofs.AttachSteps.{attaches-lawful}
use Rattle.sb_lawful.proofs.laws.attaching_leaves_lawful.Goals as goal

pub returns-clause-database : goal.returns-clause-database
returns-clause-database c = attached-lawful

pub returns-clause-step : goal.returns-clause-step
returns-clause-step c = attaches-lawful
