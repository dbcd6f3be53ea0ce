use Rattle.std.proofs.Common.{refl}
use Rattle.sb_rules.proofs.Meaning.{IsAttachment-pageless}
use Rattle.sb_rules.proofs.trigger.TriggerAttachment.code.Goals as goal

pub returns-clause-law : goal.returns-clause-law
returns-clause-law c = IsAttachment-pageless 7 refl
