use Rattle.std.proofs.Common.{arith}
use Rattle.sb_pred.proofs.Found.{alone, none_behind}
use Rattle.sb_pred.proofs.reading.read_pred.Goals as goal

pub returns-then-at-bytes-clause-only : goal.returns-then-at-bytes-clause-only
returns-then-at-bytes-clause-only c p end s = absurd (none_behind c.args.bytes.now c.args.at end p (omega arith) s)

pub returns-then-at-bytes-clause-none : goal.returns-then-at-bytes-clause-none
returns-then-at-bytes-clause-none c p end s = none_behind c.args.bytes.now c.args.at end p (omega arith) s

pub returns-in-Some-clause-only : goal.returns-in-Some-clause-only
returns-in-Some-clause-only c p end s =
    let found = rw c.in-Some.is at c.in_ok-pred.ensures in
    alone c.args.bytes.now c.in-Some.rest.now c.args.at end c.in-Some.pred p (omega arith) found.0.0 found.1 s
