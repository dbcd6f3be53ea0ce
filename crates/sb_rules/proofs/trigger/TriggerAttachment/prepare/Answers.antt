use Rattle.std.proofs.Common.{refl}
use Rattle.sb_rules.proofs.Meaning.{Changes-prepared}
use Rattle.sb_rules.proofs.Triggers.{first_none}
use Rattle.sb_rules.proofs.trigger.TriggerAttachment.prepare.Goals as goal

pub returns : goal.returns
returns c = Changes-prepared 7 c.args._inst.now c.args._ctx.now refl (first_none c.args._inst.now) c.requires.clean c.requires.inst.owned
