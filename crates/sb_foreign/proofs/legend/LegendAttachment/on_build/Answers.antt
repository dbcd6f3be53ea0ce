use Rattle.sb_foreign.proofs.LegendLaws.{Changes-built}
use Rattle.sb_foreign.proofs.legend.LegendAttachment.on_build.Goals as goal

pub returns : goal.returns
returns c = Changes-built c.args._inst.now c.args._key.now c.args._tuple.now c.args._ctx.now c.requires.clean.unchanged
