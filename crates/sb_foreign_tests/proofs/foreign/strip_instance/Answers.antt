use Rattle.std.proofs.Common.{[]}
use Rattle.sb_foreign.specs.Examples.{IsExample, Keeps}
use Rattle.sb_foreign.specs.Strips.{strip}
use Rattle.sb_foreign.proofs.ExampleLaws.{Keeps-strip}
use Rattle.sb_foreign_tests.proofs.foreign.strip_instance.Goals as goal

pub returns : goal.returns
returns g c = Keeps-strip c.instance.result c.instance.ensures
