use Rattle.std.specs.Int.{w64}
use Rattle.std.proofs.lemmas.Int.{to_z-of_z}
use Rattle.sb_pred.proofs.Found.{all_behind}
use Rattle.sb_rule.proofs.Preds.{number_found, too_few}
use Rattle.sb_rule.proofs.parts.number_of.Goals as goal

pub returns-in_err-number : goal.returns-in_err-number
returns-in_err-number c = rw c.from_residual.ensures (λ n rest fits e. too_few c.args.bytes.now rest n c.in_err-number.ensures e)

pub returns : goal.returns
returns c =
    let read = c.in_ok-number.ensures in
    rw (to_z-of_z w64 c.in_ok-number.number read.0, all_behind c.args.bytes.now 8)
    (read.0, number_found c.args.bytes.now c.in_ok-number.number read.1)
