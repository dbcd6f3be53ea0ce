use Rattle.sb_foreign.proofs.CountLaws.{Changes-prepared}
use Rattle.sb_foreign.proofs.count.CountAttachment.prepare.Goals as goal

pub returns : goal.returns
returns c = Changes-prepared c.args._inst.now c.args._ctx.now c.requires.clean.unchanged
