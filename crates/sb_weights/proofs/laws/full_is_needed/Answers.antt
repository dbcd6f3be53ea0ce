use Rattle.sb_weights.proofs.Filling.{full-is-needed}
use Rattle.sb_weights.proofs.laws.full_is_needed.Goals as goal

pub returns : goal.returns
returns c = record { needed = full-is-needed }
