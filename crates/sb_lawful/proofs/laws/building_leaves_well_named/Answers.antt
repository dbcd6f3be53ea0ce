use Rattle.sb_lawful.proofs.Naming.{dotless-no-mirror, dotless-mirror-free, building-leaves}
use Rattle.sb_lawful.proofs.laws.building_leaves_well_named.Goals as goal

pub returns-clause-no_mirror : goal.returns-clause-no_mirror
returns-clause-no_mirror c = dotless-no-mirror

pub returns-clause-mirror_free : goal.returns-clause-mirror_free
returns-clause-mirror_free c = dotless-mirror-free

pub returns-clause-step : goal.returns-clause-step
returns-clause-step c = building-leaves
