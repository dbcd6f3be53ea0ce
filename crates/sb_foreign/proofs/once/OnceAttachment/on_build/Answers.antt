use Rattle.sb_foreign.proofs.OnceLaws.{Changes-built}
use Rattle.sb_foreign.proofs.once.OnceAttachment.on_build.Goals as goal

pub returns : goal.returns
returns c = Changes-built c.args.inst.now c.args._key.now c.args.tuple.now c.args.ctx.now _ c.requires.clean.unchanged c.stands_once.ensures.answers c.stands_once.ensures.asks
