use Rattle.std.proofs.Common.{◌≡◌, ℕ, ◌<◌, Some}
use Rattle.std.specs.List.{slice_get}
use Rattle.sb_fold.specs.Outcome.{Entry}
use Rattle.sb_drive.specs.Slots.{Slots}
use Rattle.sb_drive.specs.Spaces.{Wanted}
use Rattle.sb_standing.specs.Tables.{db_of}
use Rattle.sb_engine.specs.Failing.{FailsNowhere, OverKept}
use Rattle.sb_engine.proofs.waiting.some_entry_fails.Given as goal

abbrev pub invariant-loop-i : goal.invariant-loop-i
invariant-loop-i g l = record {
  ready : g.S.PageSpace.is_ready l.space;
  leads : g.S.PageSpace.leads 0 l.fn.space l.space;
  has : (want : Wanted) (s : Slots) → g.S.PageSpace.has want s l.fn.space → g.S.PageSpace.has want s l.space;
  none : OverKept g.S.PageSpace.has (g.B.Boxes.meanings l.boxes) l.place.root l.fn.space (λ kept. (j : ℕ) → j < l.i
      → (e : Entry) → slice_get l.queue.entries j ≡ Some e → FailsNowhere (db_of kept) e);
}
