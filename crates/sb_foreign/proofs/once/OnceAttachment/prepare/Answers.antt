use Rattle.sb_foreign.proofs.OnceLaws.{Changes-prepared}
use Rattle.sb_foreign.proofs.once.OnceAttachment.prepare.Goals as goal

pub returns : goal.returns
returns c = Changes-prepared c.args._inst.now c.args._ctx.now c.requires.clean.unchanged
