use Rattle.sb_kernel.specs.World.{world}
use Rattle.sb_kernel.proofs.KeepingLemmas.{Keeps-command}
use Rattle.sb_kernel.proofs.MovedLemmas.{HasReplied-command}
use Rattle.sb_kernel.proofs.answering.answer_command.Goals as goal

pub returns-clause-replied : goal.returns-clause-replied
returns-clause-replied g c = λ line item.
    HasReplied-command (world g.B.Boxes.meanings g.D.Disk.told g.D.Disk.len g.D.Disk.clock g.D.Disk.faults) c.args.command.now c.args.disk.now c.exec.new.disk c.args.session.now
    c.exec.new.session c.exec.result c.requires.up c.exec.ensures.ends c.exec.ensures.room c.exec.ensures.same c.exec.ensures.keeps
    (Keeps-command (world g.B.Boxes.meanings g.D.Disk.told g.D.Disk.len g.D.Disk.clock g.D.Disk.faults) c.args.command.now c.args.disk.now c.exec.new.disk c.args.session.now
    c.exec.new.session c.exec.result c.exec.ensures.keeps.geometry c.exec.ensures.open c.exec.ensures.leaves) line item
