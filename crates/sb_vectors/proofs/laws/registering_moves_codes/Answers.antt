use Rattle.sb_vectors.proofs.LawLemmas.{registering_moves, registering_stays}
use Rattle.sb_vectors.proofs.laws.registering_moves_codes.Goals as goal

pub returns-clause-moves : goal.returns-clause-moves
returns-clause-moves c = registering_moves

pub returns-clause-stays : goal.returns-clause-stays
returns-clause-stays c = registering_stays
