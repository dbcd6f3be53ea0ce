use Rattle.sb_execution.proofs.SeenLemmas.{as_many}
use Rattle.sb_execution.proofs.seen.SeenCatalogue.points.Goals as goal

pub returns : goal.returns
returns g c = λ s sees. as_many c.args.self.now.points.now s sees.seen.points
