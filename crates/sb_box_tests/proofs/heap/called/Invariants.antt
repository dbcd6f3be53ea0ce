use Rattle.sb_ctx.specs.View.{IsClean}
use Rattle.sb_box_tests.proofs.heap.called.Given as goal

abbrev pub invariant-loop-number : goal.invariant-loop-number
invariant-loop-number g l = IsClean l.ctx
