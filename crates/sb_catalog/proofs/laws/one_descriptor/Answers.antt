use Rattle.sb_catalog.proofs.Described.{one_descriptor}
use Rattle.sb_catalog.proofs.laws.one_descriptor.Goals as goal

pub returns : goal.returns
returns c = one_descriptor
