use Rattle.std.proofs.Common.{take}
use Rattle.sb_rules.proofs.Columns.{AreFirst}
use Rattle.sb_rules.proofs.keeping.names_of.Given as goal

abbrev pub invariant-loop-column : goal.invariant-loop-column
invariant-loop-column l = AreFirst l.column-items (take l.column-index l.column-items) l.names.items
