use Rattle.sb_foreign.proofs.OnceLaws.{IsAttachment-once}
use Rattle.sb_foreign.proofs.once.OnceAttachment.code.Goals as goal

pub returns-clause-law : goal.returns-clause-law
returns-clause-law c = IsAttachment-once
