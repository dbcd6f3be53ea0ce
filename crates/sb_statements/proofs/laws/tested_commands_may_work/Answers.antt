use Rattle.sb_statements.proofs.PosedLemmas.{tested-may-work}
use Rattle.sb_statements.proofs.laws.tested_commands_may_work.Goals as goal

pub returns : goal.returns
returns c = tested-may-work
