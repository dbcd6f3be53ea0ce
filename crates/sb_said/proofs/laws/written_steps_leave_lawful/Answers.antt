use Rattle.sb_said.proofs.Stepping.{written-steps, databases-lawful}
use Rattle.sb_said.proofs.laws.written_steps_leave_lawful.Goals as goal

pub returns-clause-step : goal.returns-clause-step
returns-clause-step c = written-steps

pub returns-clause-databases : goal.returns-clause-databases
returns-clause-databases c = databases-lawful
