use Rattle.std.proofs.Common.{sym, subst}
use Rattle.sb_ctx.specs.View.{IsClean}
use Rattle.sb_ctx.proofs.DrivingLaws.{IsClean-with_found}
use Rattle.sb_foreign_tests.proofs.foreign.answer.Goals as goal

pub returns : goal.returns
returns g c = subst IsClean (sym (rw c.expect.ensures at c.give_found.ensures.ok)) (IsClean-with_found c.args.ctx.now _ c.keys-keys.ensures c.requires)
