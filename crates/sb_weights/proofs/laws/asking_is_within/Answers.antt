use Rattle.sb_weights.proofs.Asking.{asked-is-within, asking-is-within}
use Rattle.sb_weights.proofs.Lacking.{asking-is-full}
use Rattle.sb_weights.proofs.laws.asking_is_within.Goals as goal

pub returns-clause-asked : goal.returns-clause-asked
returns-clause-asked c = asked-is-within

pub returns-clause-asking : goal.returns-clause-asking
returns-clause-asking c = asking-is-within

pub returns-clause-full : goal.returns-clause-full
returns-clause-full c = asking-is-full
