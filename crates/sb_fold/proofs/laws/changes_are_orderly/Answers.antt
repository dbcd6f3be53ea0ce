use Rattle.sb_fold.proofs.OrderlyLemmas.{orderly_within, orderly_act}
use Rattle.sb_fold.proofs.laws.changes_are_orderly.Goals as goal

pub returns-clause-changes : goal.returns-clause-changes
returns-clause-changes c = orderly_within

pub returns-clause-actions : goal.returns-clause-actions
returns-clause-actions c = λ ext. orderly_act _ (orderly_within ext 16)
