use Rattle.std.proofs.Common.{◌≡◌, ◌∷◌, ◌++◌, length, take, All}
use Rattle.std.specs.List.{flat_map}
use Rattle.sb_catalog.specs.Descriptors.{column_spelling}
use Rattle.sb_catalog.specs.Writing.{IsNarrowColumn}
use Rattle.sb_catalog.proofs.writing.append_columns.Given as goal

abbrev pub invariant-loop-column : goal.invariant-loop-column
invariant-loop-column l = record {
  written : l.out ≡ l.fn.out ++ (length l.columns ∷ flat_map column_spelling (take l.column-index l.column-items));
  storable : All IsNarrowColumn (take l.column-index l.column-items);
}
