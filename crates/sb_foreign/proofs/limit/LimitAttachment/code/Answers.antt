use Rattle.sb_foreign.proofs.LimitLaws.{IsAttachment-limit}
use Rattle.sb_foreign.proofs.limit.LimitAttachment.code.Goals as goal

pub returns-clause-law : goal.returns-clause-law
returns-clause-law c = IsAttachment-limit
