use Rattle.sb_log.proofs.RowLemmas.{Spells-one}
use Rattle.sb_log.proofs.laws.one_row_of_records.Goals as goal

pub returns : goal.returns
returns c = Spells-one
