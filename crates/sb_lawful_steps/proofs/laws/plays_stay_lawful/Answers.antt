use Rattle.sb_lawful_steps.proofs.Stepping.{plays-stay, plays-from-nothing}
use Rattle.sb_lawful_steps.proofs.laws.plays_stay_lawful.Goals as goal

pub returns-clause-from : goal.returns-clause-from
returns-clause-from c = plays-stay

pub returns-clause-nothing : goal.returns-clause-nothing
returns-clause-nothing c = plays-from-nothing
