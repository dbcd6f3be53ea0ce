use Rattle.sb_recover.proofs.FirstPageLemmas.{owners_stand}
use Rattle.sb_recover.proofs.laws.owners_stand.Goals as goal

pub returns : goal.returns
returns c = owners_stand
