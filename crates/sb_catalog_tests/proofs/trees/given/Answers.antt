use Rattle.std.proofs.Common.{sym, subst}
use Rattle.sb_ctx.specs.View.{IsClean}
use Rattle.sb_ctx.proofs.DrivingLaws.{IsClean-given, IsClean-nothing}
use Rattle.sb_catalog_tests.proofs.trees.given.Goals as goal

pub returns : goal.returns
returns c = subst IsClean (sym c.in_ok-give_page.ensures.ok) (IsClean-given c.new-ctx.result 3 c.args.page.now (subst IsClean (sym c.new-ctx.ensures) IsClean-nothing))
