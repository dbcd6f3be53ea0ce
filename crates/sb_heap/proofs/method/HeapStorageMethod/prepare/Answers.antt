use Rattle.std.proofs.Common.{Ok, Err}
use Rattle.sb_heap.proofs.Preparing.{Changes-prepared}
use Rattle.sb_heap.proofs.method.HeapStorageMethod.prepare.Goals as goal

pub returns-in-Ok : goal.returns-in-Ok
returns-in-Ok c = Changes-prepared c.args.inst.now c.args.ctx.now c.prepare_root.new.ctx (Ok tt) c.requires.clean.unchanged c.in-Ok.ensures

pub returns-in-Err : goal.returns-in-Err
returns-in-Err c = rw c.question.ensures (Changes-prepared c.args.inst.now c.args.ctx.now c.prepare_root.new.ctx (Err c.in-Err.stop) c.requires.clean.unchanged c.in-Err.ensures)
