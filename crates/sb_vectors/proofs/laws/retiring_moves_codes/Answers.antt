use Rattle.sb_vectors.proofs.LawLemmas.{retiring_moves, retiring_stays}
use Rattle.sb_vectors.proofs.laws.retiring_moves_codes.Goals as goal

pub returns-clause-moves : goal.returns-clause-moves
returns-clause-moves c = retiring_moves

pub returns-clause-stays : goal.returns-clause-stays
returns-clause-stays c = retiring_stays
