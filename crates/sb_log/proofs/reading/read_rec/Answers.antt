use Rattle.sb_log.proofs.RecordLemmas.{IsRead-only}
use Rattle.sb_log.proofs.reading.read_rec.Goals as goal

pub returns-clause-only : goal.returns-clause-only
returns-clause-only c = IsRead-only c.args.b.now c.front_of.result c.front_of.ensures
