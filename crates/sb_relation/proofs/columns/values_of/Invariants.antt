use Rattle.std.proofs.Common.{◌≡◌, take}
use Rattle.sb_relation.specs.Db.{values_in}
use Rattle.sb_relation.proofs.columns.values_of.Given as goal

abbrev pub invariant-loop-name : goal.invariant-loop-name
invariant-loop-name l = l.values.items ≡ values_in l.schema l.row (take l.name-index l.name-items)
