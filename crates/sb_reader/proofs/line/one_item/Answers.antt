use Rattle.sb_reader.proofs.Faults.{one_item}
use Rattle.sb_reader.proofs.line.one_item.Goals as goal

pub returns : goal.returns
returns c = λ line. one_item line (c.has_one_row.ensures line)
