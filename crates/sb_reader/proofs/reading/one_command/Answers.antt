use Rattle.sb_reader.proofs.Whole.{one_spelled}
use Rattle.sb_reader.proofs.reading.one_command.Goals as goal

pub returns : goal.returns
returns c = one_spelled
