use Rattle.sb_lawful_plays.specs.World.{world}
use Rattle.sb_sound_plays.proofs.Playing.{plays-sound, played-sound, played-out-sound}
use Rattle.sb_sound_plays.proofs.laws.plays_are_sound.Goals as goal

pub returns-clause-plays : goal.returns-clause-plays
returns-clause-plays g c = plays-sound

pub returns-clause-played : goal.returns-clause-played
returns-clause-played g c = played-sound (world g.B.Boxes.meanings g.D.Disk.told g.D.Disk.len g.D.Disk.clock g.D.Disk.faults)

pub returns-clause-out : goal.returns-clause-out
returns-clause-out g c = played-out-sound g.D.Disk.told g.D.Disk.faults
