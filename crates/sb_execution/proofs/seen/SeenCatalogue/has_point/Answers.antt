use Rattle.std.proofs.Common.{◌∙◌}
use Rattle.sb_execution.proofs.SeenLemmas.{any_point}
use Rattle.sb_execution.proofs.seen.SeenCatalogue.has_point.Goals as goal

pub returns : goal.returns
returns g c = λ s sees. c.has_named.ensures ∙ any_point c.args.self.now.points.now s sees.seen.points c.args.name.now
