use Rattle.std.proofs.Common.{subst}
use Rattle.sb_bench.specs.Rows.{IsFirst}
use Rattle.sb_bench.proofs.Keeping.{KeepsShortRows-tree}
use Rattle.sb_bench.proofs.rows.tree.Goals as goal

pub returns : goal.returns
returns c = KeepsShortRows-tree _ (subst (λ key. IsFirst 2 key c.in_ok-inst.inst) c.in_ok-key.ensures c.in_ok-inst.ensures)
