use Rattle.sb_foreign.proofs.LegendLaws.{Changes-changed}
use Rattle.sb_foreign.proofs.legend.LegendAttachment.on_change.Goals as goal

pub returns : goal.returns
returns c = Changes-changed c.args._inst.now c.args._change.now c.args._ctx.now c.requires.clean.unchanged
