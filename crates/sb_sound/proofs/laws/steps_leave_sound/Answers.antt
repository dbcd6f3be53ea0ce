use Rattle.sb_sound.proofs.Stepping.{steps-leave}
use Rattle.sb_sound.proofs.laws.steps_leave_sound.Goals as goal

pub returns : goal.returns
returns c = steps-leave
