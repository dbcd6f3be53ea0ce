use Rattle.sb_foreign.proofs.CountLaws.{IsAttachment-count}
use Rattle.sb_foreign.proofs.count.CountAttachment.code.Goals as goal

pub returns-clause-law : goal.returns-clause-law
returns-clause-law c = IsAttachment-count
