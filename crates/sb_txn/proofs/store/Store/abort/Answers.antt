use Rattle.sb_txn.proofs.KeepsLemmas.{LeavesWanted-none}
use Rattle.sb_txn.proofs.store.Store.abort.Goals as goal

pub returns-then-is_down-clause-any_moment : goal.returns-then-is_down-clause-any_moment
returns-then-is_down-clause-any_moment g c = LeavesWanted-none _
