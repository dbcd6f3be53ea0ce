use Rattle.std.proofs.Common.{length}
use Rattle.sb_wishes.proofs.lengths.+codes_len.Given as goal

abbrev pub decreases-codes_len : goal.decreases-codes_len
decreases-codes_len l = length l.names.now
