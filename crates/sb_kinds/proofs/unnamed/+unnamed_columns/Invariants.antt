use Rattle.std.proofs.Common.{length}
use Rattle.sb_kinds.proofs.unnamed.+unnamed_columns.Given as goal

abbrev pub decreases-unnamed_columns : goal.decreases-unnamed_columns
decreases-unnamed_columns l = length l.names.now
