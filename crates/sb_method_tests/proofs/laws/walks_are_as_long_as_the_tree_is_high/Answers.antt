use Rattle.sb_method_tests.proofs.Walking.{walks_are_as_high}
use Rattle.sb_method_tests.proofs.laws.walks_are_as_long_as_the_tree_is_high.Goals as goal

pub returns : goal.returns
returns c = walks_are_as_high
