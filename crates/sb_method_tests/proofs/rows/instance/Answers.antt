use Rattle.std.proofs.Common.{rules, refl}
use Rattle.sb_method_tests.proofs.Pairing.{instance_from}
use Rattle.sb_method_tests.proofs.rows.instance.Goals as goal

pub returns-clause-heap : goal.returns-clause-heap
returns-clause-heap g c = instance_from _ refl refl (search rules) refl (search rules)
