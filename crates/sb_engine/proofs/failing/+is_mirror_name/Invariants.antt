use Rattle.std.proofs.Common.{length}
use Rattle.sb_engine.proofs.failing.+is_mirror_name.Given as goal

abbrev pub decreases-is_mirror_name : goal.decreases-is_mirror_name
decreases-is_mirror_name l = length l.label.now
