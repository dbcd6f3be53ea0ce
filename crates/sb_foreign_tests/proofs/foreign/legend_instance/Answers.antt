use Rattle.std.proofs.Common.{◌==◌, [], length, ap, arith}
use Rattle.sb_foreign.specs.Legends.{legend}
use Rattle.sb_foreign.specs.Examples.{IsExample, Watches}
use Rattle.sb_foreign.proofs.ExampleLaws.{Watches-example}
use Rattle.sb_foreign_tests.proofs.foreign.legend_instance.Goals as goal

pub returns : goal.returns
returns g c =
    let is = c.instance.ensures in
    Watches-example legend c.instance.result [] (omega arith) is.owned (ap (λ d. length d == 0) is.desc) is
