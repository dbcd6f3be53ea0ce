use Rattle.std.proofs.Common.{◌≡◌, [], rules, subst}
use Rattle.sb_bench.specs.Rows.{IsFirst}
use Rattle.sb_bench.proofs.Keeping.{KeepsShortRows-heap}
use Rattle.sb_bench.proofs.rows.heap.Goals as goal

pub returns : goal.returns
returns c =
    let none : c.from_vec-key.result ≡ [] = search rules in
    KeepsShortRows-heap _ (subst (λ key. IsFirst 1 key c.in_ok-inst.inst) none c.in_ok-inst.ensures)
