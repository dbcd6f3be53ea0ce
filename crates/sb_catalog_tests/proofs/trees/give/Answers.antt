use Rattle.std.proofs.Common.{sym, subst}
use Rattle.sb_ctx.specs.View.{IsClean}
use Rattle.sb_ctx.proofs.DrivingLaws.{IsClean-given}
use Rattle.sb_catalog_tests.proofs.trees.give.Goals as goal

pub returns : goal.returns
returns c = subst IsClean (sym c.in_ok-give_page.ensures.ok) (IsClean-given c.args.ctx.now c.args.n _ c.requires.clean)
