use Rattle.sb_txn.proofs.LawLemmas.{last_is_undone, all_are_undone, others_stay}
use Rattle.sb_txn.proofs.laws.back_gives_what_was.Goals as goal

pub returns : goal.returns
returns c = record { last = last_is_undone; all = all_are_undone; others = others_stay }
