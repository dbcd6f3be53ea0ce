use Rattle.std.proofs.Common.{◌≡◌, ◌≤◌, ◌++◌, length, take, reverse}
use Rattle.sb_recover.specs.Changes.{changes_of, limits_of, newest_first, taken}
use Rattle.sb_recover.proofs.change.standing.Given as goal

abbrev pub invariant-loop-left : goal.invariant-loop-left
invariant-loop-left l = record {
  within : l.left ≤ length l.changes;
  so_far : taken (limits_of l.fn.counts) (newest_first l.changes) ≡ taken (limits_of l.counts) (newest_first (take l.left l.changes)) ++ changes_of (reverse l.found.items);
}

abbrev pub decreases-loop-left : goal.decreases-loop-left
decreases-loop-left l = l.left
