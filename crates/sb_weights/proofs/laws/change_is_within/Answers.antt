use Rattle.sb_weights.proofs.Changing.{change-is-within}
use Rattle.sb_weights.proofs.Lacking.{change-is-full}
use Rattle.sb_weights.proofs.laws.change_is_within.Goals as goal

pub returns-clause-within : goal.returns-clause-within
returns-clause-within c = change-is-within

pub returns-clause-full : goal.returns-clause-full
returns-clause-full c = change-is-full
