use Rattle.sb_lawful_plays.proofs.Databases.{commits-lawful, crashes-leave, held-lawful, nothing-over, same-lawful}
use Rattle.sb_lawful_plays.proofs.laws.databases_are_lawful.Goals as goal

pub returns-clause-commits : goal.returns-clause-commits
returns-clause-commits c = commits-lawful

pub returns-clause-crashes : goal.returns-clause-crashes
returns-clause-crashes c = crashes-leave

pub returns-clause-nothing : goal.returns-clause-nothing
returns-clause-nothing c = nothing-over

pub returns-clause-boxes : goal.returns-clause-boxes
returns-clause-boxes c = same-lawful

pub returns-clause-held : goal.returns-clause-held
returns-clause-held c = held-lawful
