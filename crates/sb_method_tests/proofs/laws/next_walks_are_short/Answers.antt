use Rattle.sb_method_tests.proofs.Walking.{next_walks_are_short}
use Rattle.sb_method_tests.proofs.laws.next_walks_are_short.Goals as goal

pub returns : goal.returns
returns c = next_walks_are_short
