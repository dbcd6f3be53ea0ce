use Rattle.sb_relation.proofs.RuleLaws.{no-rows}
use Rattle.sb_relation.proofs.laws.no_rows_no_image.Goals as goal

pub returns : goal.returns
returns c = no-rows
