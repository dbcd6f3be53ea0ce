use Rattle.sb_foreign.proofs.LegendLaws.{Changes-prepared}
use Rattle.sb_foreign.proofs.legend.LegendAttachment.prepare.Goals as goal

pub returns : goal.returns
returns c = Changes-prepared c.args._inst.now c.args._ctx.now c.requires.clean.unchanged
