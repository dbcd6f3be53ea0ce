use Rattle.std.proofs.Common.{length}
use Rattle.sb_pred.specs.Spelling.{pred_spelling}
use Rattle.sb_rule.proofs.Preds.{standing}
use Rattle.sb_rule.proofs.parts.pred_of.Goals as goal

pub returns-in-None : goal.returns-in-None
returns-in-None c x rest fits e =
    let none = rw c.in-None.is at c.in_ok-pred.ensures.none in
    none x (length (pred_spelling x)) (standing c.args.bytes.now rest x fits e)
