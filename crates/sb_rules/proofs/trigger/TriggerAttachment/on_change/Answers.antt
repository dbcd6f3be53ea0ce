use Rattle.std.proofs.Common.{sym, ◌∙◌}
use Rattle.sb_rules.proofs.Meaning.{Changes-memory}
use Rattle.sb_rules.proofs.Triggers.{Changes-passed, Changes-acted}
use Rattle.sb_rules.proofs.trigger.TriggerAttachment.on_change.Goals as goal

pub returns-in_default : goal.returns-in_default
returns-in_default c = Changes-memory 7 c.args.inst.now c.args.change.now c.args._ctx.now c.requires.clean

pub returns-then-not-meets : goal.returns-then-not-meets
returns-then-not-meets c =
    Changes-passed c.args.inst.now c.args.change.now c.args._ctx.now c.in-Ok.kept.event c.in-Ok.kept.pred c.in-Ok.kept.action c.in-Ok.kept.deferred
    c.requires.clean c.in-Ok.ensures (sym c.meets.ensures ∙ c.if-not-meets.true)

pub returns-in-Ok-bound : goal.returns-in-Ok-bound
returns-in-Ok-bound c =
    Changes-acted c.args.inst.now c.args.change.now c.args._ctx.now c.in-Ok.kept.event c.in-Ok.kept.pred c.in-Ok.kept.action c.in-Ok-bound.action c.in-Ok.kept.deferred c.act.result
    c.requires.clean c.in-Ok.ensures (sym c.meets.ensures ∙ c.if-not-meets.false) c.in-Ok-bound.ensures.ok c.act.ensures

pub returns-in-Err : goal.returns-in-Err
returns-in-Err c = Changes-memory 7 c.args.inst.now c.args.change.now c.args._ctx.now c.requires.clean
