use Rattle.sb_kernel.specs.World.{world}
use Rattle.sb_kernel.proofs.HeldLemmas.{rests-held}
use Rattle.sb_kernel.proofs.laws.rests_are_held.Goals as goal

pub returns : goal.returns
returns g c = rests-held (world g.B.Boxes.meanings g.D.Disk.told g.D.Disk.len g.D.Disk.clock g.D.Disk.faults)
