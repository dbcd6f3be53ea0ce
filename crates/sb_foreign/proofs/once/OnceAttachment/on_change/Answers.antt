use Rattle.std.proofs.Common.{sym}
use Rattle.sb_foreign.proofs.OnceLaws.{Changes-changed, Changes-deleted}
use Rattle.sb_foreign.proofs.once.OnceAttachment.on_change.Goals as goal

pub returns-in-Some : goal.returns-in-Some
returns-in-Some c =
    Changes-changed c.args.inst.now c.args.change.now c.in-Some.new.now c.args.ctx.now _ c.requires.clean.unchanged (sym c.in-Some.ensures) c.stands_once.ensures.answers c.stands_once.ensures.asks

pub returns-in-None : goal.returns-in-None
returns-in-None c = Changes-deleted c.args.inst.now c.args.change.now c.args.ctx.now c.requires.clean.unchanged (sym c.in-None.ensures)
