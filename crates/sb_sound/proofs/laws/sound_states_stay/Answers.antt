use Rattle.sb_sound.proofs.Alike.{alike-are-sound, down-is-sound}
use Rattle.sb_sound.proofs.laws.sound_states_stay.Goals as goal

pub returns-clause-order : goal.returns-clause-order
returns-clause-order c = alike-are-sound

pub returns-clause-down : goal.returns-clause-down
returns-clause-down c = down-is-sound
