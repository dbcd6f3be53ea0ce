use Rattle.sb_said.proofs.Spelled.{line-written, items-written, first-written}
use Rattle.sb_said.proofs.laws.lines_are_written.Goals as goal

pub returns-clause-lines : goal.returns-clause-lines
returns-clause-lines c = line-written

pub returns-clause-items : goal.returns-clause-items
returns-clause-items c = items-written

pub returns-clause-first : goal.returns-clause-first
returns-clause-first c = first-written
