use Rattle.sb_lawful_steps.proofs.Alike.{alike-are-lawful, down-is-lawful}
use Rattle.sb_lawful_steps.proofs.laws.lawful_states_stay.Goals as goal

pub returns-clause-order : goal.returns-clause-order
returns-clause-order c = alike-are-lawful

pub returns-clause-down : goal.returns-clause-down
returns-clause-down c = down-is-lawful
