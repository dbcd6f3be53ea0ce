use Rattle.sb_relation.proofs.RuleLaws.{mirrors-mirror}
use Rattle.sb_relation.proofs.laws.a_mirrors_mirror.Goals as goal

pub returns : goal.returns
returns c = mirrors-mirror
