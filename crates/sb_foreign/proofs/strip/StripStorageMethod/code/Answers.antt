use Rattle.sb_foreign.proofs.StripLaws.{IsMethod-strip}
use Rattle.sb_foreign.proofs.strip.StripStorageMethod.code.Goals as goal

pub returns-clause-law : goal.returns-clause-law
returns-clause-law c = IsMethod-strip
