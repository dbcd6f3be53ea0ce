use Rattle.std.proofs.Common.{rules}
use Rattle.sb_pool.proofs.PageLemmas.{AgreesOn-empty}
use Rattle.sb_pool.proofs.TieLemmas.{AreTied-empty}
use Rattle.sb_pool.proofs.pool.Pool.new.Goals as goal

pub returns-clause-agrees : goal.returns-clause-agrees
returns-clause-agrees c = AgreesOn-empty c.args.geometry _ (search rules)

pub returns-clause-tied : goal.returns-clause-tied
returns-clause-tied c = AreTied-empty c.args.geometry _ (search rules)
