use Rattle.sb_halves.proofs.KeepsLemmas.{KeepsSpace-ok, KeepsSpace-err}
use Rattle.sb_halves.proofs.halves.Halves.begin.Goals as goal

pub returns-in-Ok-clause-keeps : goal.returns-in-Ok-clause-keeps
returns-in-Ok-clause-keeps g c =
    KeepsSpace-ok g.D.Disk.told g.D.Disk.len g.D.Disk.faults c.args.disk.now c.begin.new.disk c.args.self.now.durable.store c.begin.new.self.store c.in-Ok.durable _ c.in-Ok.ensures.keeps

pub returns-in-Err-clause-keeps : goal.returns-in-Err-clause-keeps
returns-in-Err-clause-keeps g c =
    KeepsSpace-err g.D.Disk.told g.D.Disk.len g.D.Disk.faults c.args.disk.now c.begin.new.disk c.args.self.now.durable.store c.begin.new.self.store c.in-Err.fault c.in-Err.ensures.keeps
