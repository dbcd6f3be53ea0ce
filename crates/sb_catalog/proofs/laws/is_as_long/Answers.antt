use Rattle.sb_catalog.proofs.Described.{is_as_long}
use Rattle.sb_catalog.proofs.laws.is_as_long.Goals as goal

pub returns : goal.returns
returns c = is_as_long
