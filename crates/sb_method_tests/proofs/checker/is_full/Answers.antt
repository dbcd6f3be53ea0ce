use Rattle.sb_method_tests.proofs.Holding.{full_at}
use Rattle.sb_method_tests.proofs.checker.is_full.Goals as goal

pub returns-in-Some : goal.returns-in-Some
returns-in-Some c = full_at c.args.ctx.now c.args.page _ c.in-Some.head c.in-Some.ensures
