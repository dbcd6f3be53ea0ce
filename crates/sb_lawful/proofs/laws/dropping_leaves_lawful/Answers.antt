use Rattle.sb_lawful.proofs.Dropping.{dropped-lawful}
use Rattle.sb_lawful.proofs.Commands.{drops-lawful}
use Rattle.sb_lawful.proofs.laws.dropping_leaves_lawful.Goals as goal

pub returns-clause-database : goal.returns-clause-database
returns-clause-database c = dropped-lawful

pub returns-clause-step : goal.returns-clause-step
returns-clause-step c = drops-lawful
