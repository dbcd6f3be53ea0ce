use Rattle.std.proofs.Common.{length}
use Rattle.sb_tables.proofs.descriptors.+are_short_columns.Given as goal

abbrev pub decreases-are_short_columns : goal.decreases-are_short_columns
decreases-are_short_columns l = length l.columns.now
