use Rattle.sb_weights.proofs.Beside.{beside-is-full, rest-has-room}
use Rattle.sb_weights.proofs.laws.beside_is_full.Goals as goal

pub returns-clause-rest : goal.returns-clause-rest
returns-clause-rest c = rest-has-room

pub returns-clause-full : goal.returns-clause-full
returns-clause-full c = beside-is-full
