use Rattle.std.proofs.Common.{◌≡◌, ◌+◌, ◌-◌, ◌^◌, min, take, length}
use Rattle.std.specs.List.{flat_map}
use Rattle.sb_catalog.specs.Descriptors.{column_spelling}
use Rattle.sb_catalog.proofs.lengths.columns_len.Given as goal

abbrev pub invariant-loop-column : goal.invariant-loop-column
invariant-loop-column l = l.len ≡ min (1 + length (flat_map column_spelling (take l.column-index l.columns))) (2 ^ 64 - 1)
