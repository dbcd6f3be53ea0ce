use Rattle.sb_kernel.specs.World.{world}
use Rattle.sb_lawful_plays.proofs.Playing.{plays-lawful, played-lawful, played-out-lawful}
use Rattle.sb_lawful_plays.proofs.laws.plays_are_lawful.Goals as goal

pub returns-clause-plays : goal.returns-clause-plays
returns-clause-plays g c = plays-lawful

pub returns-clause-played : goal.returns-clause-played
returns-clause-played g c = played-lawful (world g.B.Boxes.meanings g.D.Disk.told g.D.Disk.len g.D.Disk.clock g.D.Disk.faults)

pub returns-clause-out : goal.returns-clause-out
returns-clause-out g c = played-out-lawful g.D.Disk.told g.D.Disk.faults
