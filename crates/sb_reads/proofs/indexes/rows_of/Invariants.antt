use Rattle.std.proofs.Common.{◌≡◌, take}
use Rattle.std.specs.List.{filter_map}
use Rattle.sb_relation.specs.Db.{Rows}
use Rattle.sb_drive.specs.Slots.{Slots}
use Rattle.sb_drive.specs.Spaces.{Wanted}
use Rattle.sb_rows.specs.Live.{HasRows}
use Rattle.sb_reads.specs.Reads.{row_of}
use Rattle.sb_reads.proofs.indexes.rows_of.Given as goal

abbrev pub invariant-entries : goal.invariant-entries
invariant-entries g l = record {
  ready : g.S.PageSpace.is_ready l.space;
  leads : g.S.PageSpace.leads 0 l.fn.space l.space;
  has : (want : Wanted) (s : Slots) → g.S.PageSpace.has want s l.fn.space → g.S.PageSpace.has want s l.space;
  rows : (want : Wanted) (s : Slots) (rows : Rows) → g.S.PageSpace.has want s l.fn.space → HasRows (g.B.Boxes.meanings l.boxes) s l.table rows → l.found.items ≡ filter_map (row_of rows) (take l.entry-index l.entries);
}
