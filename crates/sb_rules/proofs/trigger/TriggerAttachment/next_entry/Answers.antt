use Rattle.sb_rules.proofs.Meaning.{Looks-end}
use Rattle.sb_rules.proofs.trigger.TriggerAttachment.next_entry.Goals as goal

pub returns : goal.returns
returns c = Looks-end 7 c.args._inst.now c.args._low.now _ c.args._ctx.now
