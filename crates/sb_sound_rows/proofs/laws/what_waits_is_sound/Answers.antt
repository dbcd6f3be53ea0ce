use Rattle.sb_sound_rows.proofs.Finishing.{finish-ends}
use Rattle.sb_sound_rows.proofs.laws.what_waits_is_sound.Goals as goal

pub returns : goal.returns
returns c = finish-ends
