use Rattle.std.proofs.Common.{length, ◌-◌}
use Rattle.sb_log.proofs.RowLemmas.{IsCounted}
use Rattle.sb_log.proofs.counting.count_records.Given as goal

abbrev pub invariant-loop-at : goal.invariant-loop-at
invariant-loop-at l = record { counted : IsCounted l.chunk l.at l.count }

abbrev pub decreases-loop-at : goal.decreases-loop-at
decreases-loop-at l = length l.chunk - l.at
