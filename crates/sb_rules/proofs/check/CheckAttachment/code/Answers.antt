use Rattle.std.proofs.Common.{refl}
use Rattle.sb_rules.proofs.Meaning.{IsAttachment-pageless}
use Rattle.sb_rules.proofs.check.CheckAttachment.code.Goals as goal

pub returns-clause-law : goal.returns-clause-law
returns-clause-law c = IsAttachment-pageless 5 refl
