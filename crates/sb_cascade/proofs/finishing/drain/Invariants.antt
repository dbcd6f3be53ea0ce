use Rattle.std.proofs.Common.{◌≡◌, []}
use Rattle.sb_fold.specs.Outcome.{Going}
use Rattle.sb_cascade.proofs.Draining.{Draining}
use Rattle.sb_cascade.proofs.finishing.drain.Given as goal

abbrev pub decreases-loop-action : goal.decreases-loop-action
decreases-loop-action g l = l.left

abbrev pub invariant-loop-action : goal.invariant-loop-action
invariant-loop-action g l = record {
  leads : g.L.Layer.leads l.fn.layer l.layer;
  ready : g.L.Layer.is_ready l.layer;
  draining : Draining g.L.Layer.stands (g.L.Layer.extensions l.fn.layer) l.most l.fn.layer l.left l.layer;
  idle : (h : Going) → g.L.Layer.stands h l.fn.layer → h.queue.actions ≡ [] → g.L.Layer.stands h l.layer;
}
