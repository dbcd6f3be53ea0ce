use Rattle.sb_disk.proofs.MomentLemmas.{IsSettled-wrote, IsSettled-FailedWrite}
use Rattle.sb_disk.proofs.laws.no_bytes_leave_none_pending.Goals as goal

pub returns-clause-wrote : goal.returns-clause-wrote
returns-clause-wrote c = IsSettled-wrote

pub returns-clause-failed : goal.returns-clause-failed
returns-clause-failed c = IsSettled-FailedWrite
