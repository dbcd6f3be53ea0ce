use Rattle.sb_plain.proofs.StepLaws.{one-commit}
use Rattle.sb_plain.proofs.laws.one_commit_at_most.Goals as goal

pub returns : goal.returns
returns c = one-commit
