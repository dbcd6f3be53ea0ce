use Rattle.sb_ctx.specs.View.{IsClean}
use Rattle.sb_method_tests.proofs.requests.asks_of_insert.Given as goal

abbrev pub invariant-loop-turn : goal.invariant-loop-turn
invariant-loop-turn g l = IsClean l.ctx
