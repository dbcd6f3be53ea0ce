use Rattle.std.proofs.Common.{◌≢◌, length, arith}
use Rattle.sb_lines.specs.Lines.{whole_lines}
use Rattle.sb_kernel.specs.World.{at, world}
use Rattle.sb_kernel.proofs.Taking.{leads_to_last}
use Rattle.sb_kernel.proofs.dialogue.Dialogue.finish.Goals as goal

pub returns-clause-leads : goal.returns-clause-leads
returns-clause-leads g c = λ m bytes first stands.
    let w = world g.B.Boxes.meanings g.D.Disk.told g.D.Disk.len g.D.Disk.clock g.D.Disk.faults in
    let line = c.args.self.now.line in
    let now = at c.answer.new.disk c.answer.new.self.session (g.K.Sink.held c.answer.new.sink) c.answer.new.self.starts in
    let some : length line ≢ 0 = grind (arith, c.len.ensures, c.if-len-eq0.false) in
    leads_to_last w m c.answer.result bytes line first now stands.line some (c.answer.ensures.leads m (whole_lines bytes) first stands.answered)
