use Rattle.sb_said.proofs.Stepping.{nothing-lawful, alike-lawful, down-lawful}
use Rattle.sb_said.proofs.laws.lawful_states_stay.Goals as goal

pub returns-clause-nothing : goal.returns-clause-nothing
returns-clause-nothing c = nothing-lawful

pub returns-clause-order : goal.returns-clause-order
returns-clause-order c = alike-lawful

pub returns-clause-down : goal.returns-clause-down
returns-clause-down c = down-lawful
