use Rattle.sb_method_tests.proofs.Walking.{removals_are_short}
use Rattle.sb_method_tests.proofs.laws.removals_are_short.Goals as goal

pub returns : goal.returns
returns c = removals_are_short
