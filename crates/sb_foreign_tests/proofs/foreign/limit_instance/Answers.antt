use Rattle.std.proofs.Common.{◌==◌, [], ◌∷◌, length, ap, arith}
use Rattle.sb_foreign.specs.Examples.{IsExample, Watches}
use Rattle.sb_foreign.specs.Limits.{limit}
use Rattle.sb_foreign.proofs.ExampleLaws.{Watches-example}
use Rattle.sb_foreign_tests.proofs.foreign.limit_instance.Goals as goal

pub returns : goal.returns
returns g c =
    let is = c.instance.ensures in
    Watches-example limit c.instance.result (7 ∷ []) (omega arith) is.owned (ap (λ d. length d == 1) is.desc) is
