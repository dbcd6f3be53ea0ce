use Rattle.sb_foreign.proofs.LimitLaws.{Changes-prepared}
use Rattle.sb_foreign.proofs.limit.LimitAttachment.prepare.Goals as goal

pub returns : goal.returns
returns c = Changes-prepared c.args._inst.now c.args._ctx.now c.requires.clean.unchanged
