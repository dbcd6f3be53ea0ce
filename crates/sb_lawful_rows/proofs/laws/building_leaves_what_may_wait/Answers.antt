use Rattle.sb_lawful_rows.proofs.Building.{building-leaves}
use Rattle.sb_lawful_rows.proofs.laws.building_leaves_what_may_wait.Goals as goal

pub returns : goal.returns
returns c = building-leaves
