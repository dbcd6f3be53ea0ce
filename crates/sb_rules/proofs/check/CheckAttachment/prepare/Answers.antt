use Rattle.std.proofs.Common.{refl}
use Rattle.sb_rules.proofs.Calls.{first_none}
use Rattle.sb_rules.proofs.Meaning.{Changes-prepared}
use Rattle.sb_rules.proofs.check.CheckAttachment.prepare.Goals as goal

pub returns : goal.returns
returns c = Changes-prepared 5 c.args._inst.now c.args._ctx.now refl (first_none c.args._inst.now) c.requires.clean c.requires.inst.owned
