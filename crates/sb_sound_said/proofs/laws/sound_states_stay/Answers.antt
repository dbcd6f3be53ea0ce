use Rattle.sb_sound_said.proofs.Stepping.{nothing-sound, alike-sound, down-sound}
use Rattle.sb_sound_said.proofs.laws.sound_states_stay.Goals as goal

pub returns-clause-nothing : goal.returns-clause-nothing
returns-clause-nothing c = nothing-sound

pub returns-clause-order : goal.returns-clause-order
returns-clause-order c = alike-sound

pub returns-clause-down : goal.returns-clause-down
returns-clause-down c = down-sound
