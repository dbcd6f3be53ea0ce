use Rattle.sb_deferred.specs.Complete.{IsComplete}
use Rattle.sb_drive.specs.Slots.{Slots}
use Rattle.sb_drive.specs.Spaces.{Wanted}
use Rattle.sb_standing.specs.Tables.{db_of}
use Rattle.sb_engine.specs.Failing.{OverKept}
use Rattle.sb_engine.specs.Working.{extensions_of}
use Rattle.sb_engine.proofs.WalkLemmas.{IsWalked}
use Rattle.sb_engine.proofs.failing.first_rule.Given as goal

abbrev pub invariant-relations : goal.invariant-relations
invariant-relations g l = record {
  ready : g.S.PageSpace.is_ready l.space;
  leads : g.S.PageSpace.leads 0 l.fn.space l.space;
  has : (want : Wanted) (s : Slots) → g.S.PageSpace.has want s l.fn.space → g.S.PageSpace.has want s l.space;
  walked : OverKept g.S.PageSpace.has (g.B.Boxes.meanings l.boxes) l.place.root l.fn.space (λ kept. IsComplete (db_of kept) l.queue
      → IsWalked (extensions_of (g.B.Boxes.meanings l.boxes)) kept l.last l.counter);
}
