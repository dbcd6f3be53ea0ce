use Rattle.sb_weights.proofs.Coming.{coming-is-full}
use Rattle.sb_weights.proofs.laws.coming_is_full.Goals as goal

pub returns : goal.returns
returns c = record { full = coming-is-full }
