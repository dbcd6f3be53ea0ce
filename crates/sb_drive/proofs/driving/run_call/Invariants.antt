use Rattle.std.proofs.Common.{◌≡◌}
use Rattle.sb_ctx.specs.View.{IsClean}
use Rattle.sb_drive.specs.Promises.{MayAskFor}
use Rattle.sb_drive.specs.Slots.{Slots, owned}
use Rattle.sb_drive.specs.Spaces.{HoldsOf, Wanted}
use Rattle.sb_drive.proofs.GiftLemmas.{Given}
use Rattle.sb_drive.proofs.MeasureLemmas.{to_ask}
use Rattle.sb_drive.proofs.driving.run_call.Given as goal

abbrev pub invariant-loop-ask : goal.invariant-loop-ask
invariant-loop-ask g l = record {
  ready : g.S.PageSpace.is_ready l.space;
  clean : IsClean l.ctx;
  found : l.ctx.found ≡ l.fn.ctx.found;
  leads : g.S.PageSpace.leads 0 l.fn.space l.space;
  has : (want : Wanted) (s : Slots) → g.S.PageSpace.has want s l.fn.space → g.S.PageSpace.has want s l.space;
  holds : (want : Wanted) (s : Slots) → g.S.PageSpace.has want s l.fn.space → HoldsOf s l.owner l.ctx;
  given : (want : Wanted) (s : Slots) → g.S.PageSpace.has want s l.fn.space → Given l.fn.ctx l.ctx (MayAskFor (g.C.BoxCall.promise l.call l.fn.ctx) (owned s l.owner));
}

-- what may still be asked for
abbrev pub decreases-loop-ask : goal.decreases-loop-ask
decreases-loop-ask g l = to_ask l.ctx
