use Rattle.sb_txn.proofs.RoomLemmas.{Grows-rest, Grows-sum, chunks-grow}
use Rattle.sb_txn.proofs.laws.log_grows_by_the_sum.Goals as goal

pub returns : goal.returns
returns c = record { rest = Grows-rest; sum = Grows-sum; chunks = chunks-grow }
