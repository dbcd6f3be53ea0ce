use Rattle.sb_sound_plays.proofs.Playing.{runs-sound, made-sound}
use Rattle.sb_sound_plays.proofs.laws.runs_are_sound.Goals as goal

pub returns-clause-runs : goal.returns-clause-runs
returns-clause-runs g c = runs-sound g.D.Disk.told g.D.Disk.faults

pub returns-clause-made : goal.returns-clause-made
returns-clause-made g c = made-sound g.D.Disk.told g.D.Disk.faults
