use Rattle.sb_rules.proofs.Meaning.{Looks-end}
use Rattle.sb_rules.proofs.check.CheckAttachment.next_entry.Goals as goal

pub returns : goal.returns
returns c = Looks-end 5 c.args._inst.now c.args._low.now _ c.args._ctx.now
