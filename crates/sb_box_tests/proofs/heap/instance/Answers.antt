use Rattle.std.proofs.Common.{rules, refl}
use Rattle.sb_heap.proofs.ExampleLaws.{IsExample-from}
use Rattle.sb_box_tests.proofs.heap.instance.Goals as goal

pub returns : goal.returns
returns g c = IsExample-from _ refl refl (search rules) refl (search rules) (search rules)
