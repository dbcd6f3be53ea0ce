use Rattle.std.proofs.Common.{◌-◌}
use Rattle.std.specs.List.{All}
use Rattle.sb_fold.specs.Outcome.{Going}
use Rattle.sb_cascade.proofs.Asking.{Asking}
use Rattle.sb_cascade.proofs.changes.ask_all.Given as goal

abbrev pub decreases-loop-following : goal.decreases-loop-following
decreases-loop-following g l = 256 - l.i

abbrev pub invariant-loop-following : goal.invariant-loop-following
invariant-loop-following g l = record {
  leads : g.L.Layer.leads l.fn.layer l.layer;
  ready : g.L.Layer.is_ready l.layer;
  asks : g.L.Layer.may_ask l.name l.change l.layer;
  may : All (λ a. g.L.Layer.may_do a l.layer) l.following.items;
  asking : (h : Going) → g.L.Layer.asks l.name l.change 0 h l.fn.layer
      → Asking (g.L.Layer.asks l.name l.change) (g.L.Layer.extensions l.fn.layer) l.name l.change l.i l.following.items h l.layer;
}
