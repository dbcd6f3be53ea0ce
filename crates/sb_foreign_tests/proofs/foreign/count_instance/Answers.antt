use Rattle.std.proofs.Common.{[], arith, refl}
use Rattle.sb_foreign.specs.Counts.{count}
use Rattle.sb_foreign.specs.Examples.{IsExample, Watches}
use Rattle.sb_foreign.proofs.ExampleLaws.{Watches-example}
use Rattle.sb_foreign_tests.proofs.foreign.count_instance.Goals as goal

pub returns : goal.returns
returns g c =
    let is = c.instance.ensures in
    Watches-example count c.instance.result [] (omega arith) is.owned refl is
