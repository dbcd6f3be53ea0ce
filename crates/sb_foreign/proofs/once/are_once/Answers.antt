use Rattle.std.proofs.lemmas.Result.{err_from_is_err_and}
use Rattle.sb_foreign.proofs.OnceLaws.{AreOnce-all, Stops-at}
use Rattle.sb_foreign.proofs.once.are_once.Goals as goal

pub returns-clause-ok : goal.returns-clause-ok
returns-clause-ok c = AreOnce-all c.args.ctx.now c.args.relation.now c.args.numbers.now c.loop-number.number-index c.loop-number-test.false c.loop-number.invariant

pub returns-in_err-is_once-clause-err : goal.returns-in_err-is_once-clause-err
returns-in_err-is_once-clause-err c =
    let p = err_from_is_err_and c.from_residual.result c.from_residual.ensures.1 in
    rw (p.1, p.2)
    (Stops-at c.args.ctx.now c.args.relation.now c.args.numbers.now c.loop-number.number-index c.in-Ok.row c.in_err-is_once.field-0.0 c.loop-number-test.true c.in-Ok.ensures c.in_err-is_once.ensures.err)
