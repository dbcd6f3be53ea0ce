use Rattle.std.proofs.Common.{sym, subst}
use Rattle.sb_ctx.specs.View.{IsClean}
use Rattle.sb_ctx.proofs.DrivingLaws.{IsClean-nothing}
use Rattle.sb_catalog_tests.proofs.trees.no_pages.Goals as goal

pub returns : goal.returns
returns c = subst IsClean (sym c.new.ensures) IsClean-nothing
