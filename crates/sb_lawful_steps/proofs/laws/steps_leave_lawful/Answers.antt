use Rattle.sb_lawful_steps.proofs.Stepping.{steps-leave, databases-are-lawful}
use Rattle.sb_lawful_steps.proofs.laws.steps_leave_lawful.Goals as goal

pub returns-clause-step : goal.returns-clause-step
returns-clause-step c = steps-leave

pub returns-clause-databases : goal.returns-clause-databases
returns-clause-databases c = databases-are-lawful
