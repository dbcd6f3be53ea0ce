use Rattle.sb_weights.proofs.Resting.{rest-is-within}
use Rattle.sb_weights.proofs.laws.rest_is_within.Goals as goal

pub returns : goal.returns
returns c = record { within = rest-is-within }
