use Rattle.std.proofs.Common.{nat_lt, [], ◌∷◌, length, ap, arith}
use Rattle.sb_foreign.specs.Examples.{IsExample, Watches}
use Rattle.sb_foreign.specs.Onces.{once}
use Rattle.sb_foreign.proofs.ExampleLaws.{Watches-example}
use Rattle.sb_foreign_tests.proofs.foreign.once_instance.Goals as goal

pub returns : goal.returns
returns g c =
    let is = c.instance.ensures in
    Watches-example once c.instance.result (1 ∷ 2 ∷ 3 ∷ 4 ∷ 5 ∷ 6 ∷ 7 ∷ []) (omega arith) is.owned (ap (λ d. nat_lt (length d) 8) is.desc) is
