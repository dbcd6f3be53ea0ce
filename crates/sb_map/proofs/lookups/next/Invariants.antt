use Rattle.sb_drive.proofs.MeasureLemmas.{to_ask}
use Rattle.sb_map.proofs.Walking.{Walking}
use Rattle.sb_map.proofs.lookups.next.Given as goal

abbrev pub invariant-loop-ctx : goal.invariant-loop-ctx
invariant-loop-ctx g l = record {
  ready : g.S.PageSpace.is_ready l.space;
  walking : Walking g.S.PageSpace.has g.S.PageSpace.leads l.place.owner l.fn.space l.space l.ctx;
}

abbrev pub decreases-loop-ctx : goal.decreases-loop-ctx
decreases-loop-ctx g l = to_ask l.ctx
