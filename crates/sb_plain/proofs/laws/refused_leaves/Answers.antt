use Rattle.sb_plain.proofs.StepLaws.{refused-leaves}
use Rattle.sb_plain.proofs.laws.refused_leaves.Goals as goal

pub returns : goal.returns
returns c = refused-leaves
