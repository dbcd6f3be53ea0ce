use Rattle.std.proofs.Common.{length}
use Rattle.sb_asking.proofs.calls.+ctx_of.Given as goal

abbrev pub decreases-ctx_of : goal.decreases-ctx_of
decreases-ctx_of l = length l.answers.now
