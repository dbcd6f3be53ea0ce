use Rattle.sb_journal.proofs.OneReading.{one_reading}
use Rattle.sb_journal.proofs.laws.one_reading.Goals as goal

pub returns : goal.returns
returns c = one_reading
