use Rattle.sb_pred.proofs.Found.{all_behind}
use Rattle.sb_catalog.proofs.Numbers.{long_found, no_long}
use Rattle.sb_catalog.proofs.reading.long_of.Goals as goal

pub returns-in_err-number : goal.returns-in_err-number
returns-in_err-number c = rw c.from_residual.ensures (λ n rest fits e. no_long c.args.bytes.now rest n c.in_err-number.ensures e)

pub returns : goal.returns
returns c =
    let read = c.in_ok-number.ensures in
    rw (all_behind c.args.bytes.now 4) (read.0, long_found c.args.bytes.now c.in_ok-number.number read.1)
