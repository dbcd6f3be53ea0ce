use Rattle.std.proofs.Common.{◌≡◌, ℕ, ◌<◌, false}
use Rattle.sb_relation.specs.Rules.{entry_fails}
use Rattle.sb_drive.specs.Slots.{Slots}
use Rattle.sb_drive.specs.Spaces.{Wanted}
use Rattle.sb_standing.specs.Tables.{db_of}
use Rattle.sb_engine.specs.Failing.{OfAttached, OverKept}
use Rattle.sb_engine.proofs.waiting.named_fails.Given as goal

abbrev pub invariant-loop-i : goal.invariant-loop-i
invariant-loop-i g l = record {
  ready : g.S.PageSpace.is_ready l.space;
  leads : g.S.PageSpace.leads 0 l.fn.space l.space;
  has : (want : Wanted) (s : Slots) → g.S.PageSpace.has want s l.fn.space → g.S.PageSpace.has want s l.space;
  none : OverKept g.S.PageSpace.has (g.B.Boxes.meanings l.boxes) l.place.root l.fn.space (λ kept. (j : ℕ) → j < l.i
      → OfAttached (g.B.Boxes.meanings l.boxes) kept l.one j (λ a. a.name ≡ l.name → entry_fails (db_of kept) l.one.name a.rule l.entry ≡ false));
}
