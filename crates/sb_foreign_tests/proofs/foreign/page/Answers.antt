use Rattle.std.proofs.Common.{sym, subst}
use Rattle.sb_ctx.specs.View.{IsClean}
use Rattle.sb_ctx.proofs.DrivingLaws.{IsClean-given, IsClean-nothing}
use Rattle.sb_foreign_tests.proofs.foreign.page.Goals as goal

pub returns : goal.returns
returns g c = subst IsClean (sym (rw c.expect-2.ensures at c.give_page.ensures.ok)) (IsClean-given c.new-ctx.result 3 c.deref.result.now (subst IsClean (sym c.new-ctx.ensures) IsClean-nothing))
