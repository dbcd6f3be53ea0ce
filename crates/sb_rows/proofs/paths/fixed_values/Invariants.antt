use Rattle.std.proofs.Common.{◌≡◌, true, take}
use Rattle.sb_relation.specs.Db.{Row, values_in}
use Rattle.sb_rows.proofs.paths.fixed_values.Given as goal

abbrev pub invariant-loop-name : goal.invariant-loop-name
invariant-loop-name g l = (row : Row) → g.T.RowTest.passes l.test row ≡ true → values_in l.inst.schema row (take l.name-index l.name-items) ≡ l.values.items
