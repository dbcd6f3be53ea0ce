use Rattle.std.proofs.Common.{length}
use Rattle.sb_reads.proofs.indexes.+instance_beside.Given as goal

abbrev pub decreases-instance_beside : goal.decreases-instance_beside
decreases-instance_beside l = length l.attachments.now
