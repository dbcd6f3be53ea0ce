use Rattle.sb_sound.proofs.Stepping.{plays-stay, plays-from-nothing}
use Rattle.sb_sound.proofs.laws.plays_stay_sound.Goals as goal

pub returns-clause-from : goal.returns-clause-from
returns-clause-from c = plays-stay

pub returns-clause-nothing : goal.returns-clause-nothing
returns-clause-nothing c = plays-from-nothing
