use Rattle.sb_foreign.proofs.LegendLaws.{IsAttachment-legend}
use Rattle.sb_foreign.proofs.legend.LegendAttachment.code.Goals as goal

pub returns-clause-law : goal.returns-clause-law
returns-clause-law c = IsAttachment-legend
