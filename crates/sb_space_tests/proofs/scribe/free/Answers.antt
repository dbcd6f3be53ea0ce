use Rattle.std.proofs.Common.{[], ap, ◌∙◌}
use Rattle.sb_ctx.specs.View.{dropped}
use Rattle.sb_ctx.proofs.ViewLaws.{dropped-with_page}
use Rattle.sb_space_tests.proofs.scribe.free.Goals as goal

pub returns-in-Ok-clause-given : goal.returns-in-Ok-clause-given
returns-in-Ok-clause-given c = ap dropped c.in-Ok.ensures.ok ∙ dropped-with_page c.args.ctx.now c.args.n [] ∙ c.requires.unchanged
