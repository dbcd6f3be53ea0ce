use Rattle.sb_transactions.proofs.PageLemmas.{one-has, one-now}
use Rattle.sb_transactions.proofs.laws.one_row_of_pages.Goals as goal

pub returns-clause-now : goal.returns-clause-now
returns-clause-now c = one-now

pub returns-clause-has : goal.returns-clause-has
returns-clause-has c = one-has
