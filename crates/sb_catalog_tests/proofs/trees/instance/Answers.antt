use Rattle.std.proofs.Common.{rules, refl}
use Rattle.sb_treemethod.proofs.ExampleLaws.{IsExample-from}
use Rattle.sb_catalog_tests.proofs.trees.instance.Goals as goal

pub returns : goal.returns
returns c = IsExample-from _ refl refl (search rules) refl (search rules) (search rules)
