use Rattle.std.proofs.Common.{◌∙◌}
use Rattle.sb_execution.proofs.SeenLemmas.{same_code}
use Rattle.sb_execution.proofs.seen.SeenCatalogue.has_code.Goals as goal

pub returns : goal.returns
returns g c = λ s sees. c.has_code.ensures ∙ same_code (g.B.Boxes.meanings c.args.self.now.boxes.now) s c.args.live c.args.method c.args.code sees.seen.live sees.seen.spare
