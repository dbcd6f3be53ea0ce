use Rattle.std.proofs.Common.{◌≤◌, All, length}
use Rattle.sb_relation.specs.Db.{Rows}
use Rattle.sb_treemethod.specs.MethodAnswers.{IsRowOf}
use Rattle.sb_registry.specs.Slots.{Slots}
use Rattle.sb_registry.specs.Spaces.{Wanted}
use Rattle.sb_rows.specs.Live.{HasRows}
use Rattle.sb_rows.proofs.ScansLemmas.{IsMade}
use Rattle.sb_rows.proofs.scans.scan_rows.Given as goal

abbrev pub invariant-rows : goal.invariant-rows
invariant-rows g l =
    record {
      ready : g.S.PageSpace.is_ready l.space;
      leads : g.S.PageSpace.leads 0 l.fn.space l.space;
      has : (want : Wanted) (s : Slots) → g.S.PageSpace.has want s l.fn.space → g.S.PageSpace.has want s l.space;
      each : All (λ row. IsRowOf l.inst row.0 row.1) l.found.items;
      within : length l.found.items ≤ l.limit;
      made : (want : Wanted) (s : Slots) (rows : Rows) → g.S.PageSpace.has want s l.fn.space → HasRows (g.B.Boxes.meanings l.boxes) s l.inst rows
          → IsMade (λ row. row) (g.T.RowTest.passes l.test) rows l.fn.low l.last l.counter l.found.items;
    }
