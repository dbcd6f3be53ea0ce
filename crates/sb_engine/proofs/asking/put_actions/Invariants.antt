use Rattle.std.proofs.Common.{◌≡◌}
use Rattle.sb_deferred.specs.Waiting.{IsFront}
use Rattle.sb_engine.proofs.LateLemmas.{with_first}
use Rattle.sb_engine.proofs.asking.put_actions.Given as goal

abbrev pub invariant-loop-action : goal.invariant-loop-action
invariant-loop-action l = record {
  put : l.queue ≡ with_first l.fn.queue l.late l.action-index;
  front : IsFront l.fn.queue l.queue;
}
