use Rattle.std.proofs.Common.{◌≡◌, ℕ, ◌<◌, false}
use Rattle.sb_fold.specs.Finish.{fails_late}
use Rattle.sb_deferred.specs.Complete.{IsComplete}
use Rattle.sb_drive.specs.Slots.{Slots}
use Rattle.sb_drive.specs.Spaces.{Wanted}
use Rattle.sb_standing.specs.Tables.{db_of}
use Rattle.sb_engine.specs.Failing.{OfAttached, OverKept}
use Rattle.sb_engine.specs.Working.{extensions_of}
use Rattle.sb_engine.proofs.failing.first_late.Given as goal

abbrev pub invariant-loop-i : goal.invariant-loop-i
invariant-loop-i g l = record {
  ready : g.S.PageSpace.is_ready l.space;
  leads : g.S.PageSpace.leads 0 l.fn.space l.space;
  has : (want : Wanted) (s : Slots) → g.S.PageSpace.has want s l.fn.space → g.S.PageSpace.has want s l.space;
  none : OverKept g.S.PageSpace.has (g.B.Boxes.meanings l.boxes) l.place.root l.fn.space (λ kept. (j : ℕ) → j < l.i
      → OfAttached (g.B.Boxes.meanings l.boxes) kept l.one j (λ a. IsComplete (db_of kept) l.queue
      → fails_late (extensions_of (g.B.Boxes.meanings l.boxes)) (db_of kept) l.one.name a ≡ false));
}
