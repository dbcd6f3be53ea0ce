use Rattle.sb_opening.specs.Ends.{reply_of}
use Rattle.sb_kernel.specs.World.{world}
use Rattle.sb_kernel.proofs.HeldLemmas.{Closes-wanted}
use Rattle.sb_kernel.proofs.dialogue.Dialogue.close.Goals as goal

pub returns-clause-closed : goal.returns-clause-closed
returns-clause-closed g c =
    Closes-wanted (world g.B.Boxes.meanings g.D.Disk.told g.D.Disk.len g.D.Disk.clock g.D.Disk.faults) c.args.disk.now c.abort.new.disk c.args.self.now.session c.abort.new.self
    (reply_of c.abort.result) c.abort.ensures.keeps c.abort.ensures.any_moment
