use Rattle.sb_sound_said.proofs.Stepping.{written-steps}
use Rattle.sb_sound_said.proofs.laws.written_steps_are_sound.Goals as goal

pub returns : goal.returns
returns c = written-steps
