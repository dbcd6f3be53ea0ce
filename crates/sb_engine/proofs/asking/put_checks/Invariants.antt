use Rattle.std.proofs.Common.{◌≡◌}
use Rattle.sb_deferred.specs.Waiting.{IsFront}
use Rattle.sb_engine.proofs.LateLemmas.{with_checks}
use Rattle.sb_engine.proofs.asking.put_checks.Given as goal

abbrev pub invariant-loop-entry : goal.invariant-loop-entry
invariant-loop-entry l = record {
  put : l.queue ≡ with_checks l.fn.queue l.fn.relation l.fn.name l.checks l.entry-index;
  front : IsFront l.fn.queue l.queue;
}
