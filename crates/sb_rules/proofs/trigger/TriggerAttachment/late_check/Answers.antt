use Rattle.sb_rules.proofs.Triggers.{Looks-late}
use Rattle.sb_rules.proofs.trigger.TriggerAttachment.late_check.Goals as goal

pub returns : goal.returns
returns c = Looks-late c.args._inst.now c.args._entry.now c.args._ctx.now
