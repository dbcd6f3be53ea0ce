use Rattle.sb_room.proofs.Owning.{pages-both, pages-split}
use Rattle.sb_room.proofs.laws.owners_add_up.Goals as goal

pub returns-clause-both : goal.returns-clause-both
returns-clause-both c = pages-both

pub returns-clause-split : goal.returns-clause-split
returns-clause-split c = pages-split
