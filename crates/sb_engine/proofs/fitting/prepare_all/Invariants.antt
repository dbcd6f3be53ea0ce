use Rattle.std.proofs.Common.{ℕ, ◌<◌, List, All, get_or}
use Rattle.sb_rule.specs.declared.action.Action.{Action}
use Rattle.sb_drive.specs.Slots.{Slots}
use Rattle.sb_drive.specs.Spaces.{Wanted}
use Rattle.sb_standing.specs.Tables.{Kept}
use Rattle.sb_asking.specs.Opened.{IsOpen}
use Rattle.sb_engine.specs.Opening.{IsKeeping}
use Rattle.sb_engine.specs.Working.{AreOpened, Grows, MayDo}
use Rattle.sb_engine.proofs.fitting.prepare_all.Given as goal

abbrev pub invariant-loop-action : goal.invariant-loop-action
invariant-loop-action g l = record {
  ready : g.S.PageSpace.is_ready l.space;
  leads : g.S.PageSpace.leads 0 l.fn.space l.space;
  has : (want : Wanted) (s : Slots) → g.S.PageSpace.has want s l.fn.space → g.S.PageSpace.has want s l.space;
  are_open : All (IsOpen (g.B.Boxes.meanings l.boxes)) l.opened.items;
  grows : Grows l.fn.opened.items l.opened.items;
  opened : (want : Wanted) (s : Slots) (kept : List Kept) → IsKeeping g.S.PageSpace.has (g.B.Boxes.meanings l.boxes) l.place.root want s kept l.fn.space l.fn.opened.items
      → AreOpened (g.B.Boxes.meanings l.boxes) kept l.opened.items;
  may : (k : ℕ) → k < l.action-index → (d : Action) → MayDo l.opened.items (get_or l.actions k d);
}
