use Rattle.sb_relation.proofs.RuleLaws.{row-by-row}
use Rattle.sb_relation.proofs.laws.holds_row_by_row.Goals as goal

pub returns : goal.returns
returns c = row-by-row
