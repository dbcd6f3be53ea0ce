use Rattle.sb_sound_plays.proofs.Databases.{commits-sound, crashes-leave, held-sound, nothing-over, same-sound}
use Rattle.sb_sound_plays.proofs.laws.databases_are_sound.Goals as goal

pub returns-clause-commits : goal.returns-clause-commits
returns-clause-commits c = commits-sound

pub returns-clause-crashes : goal.returns-clause-crashes
returns-clause-crashes c = crashes-leave

pub returns-clause-nothing : goal.returns-clause-nothing
returns-clause-nothing c = nothing-over

pub returns-clause-boxes : goal.returns-clause-boxes
returns-clause-boxes c = same-sound

pub returns-clause-held : goal.returns-clause-held
returns-clause-held c = held-sound
