use Rattle.std.proofs.lemmas.Result.{err_from_is_err_and}
use Rattle.sb_heap.proofs.Linking.{lacks_first}
use Rattle.sb_heap.proofs.list.turn_of.Goals as goal

pub returns-in_err-check-clause-stops : goal.returns-in_err-check-clause-stops
returns-in_err-check-clause-stops c =
    let p = err_from_is_err_and c.from_residual-in_err-check.result c.from_residual-in_err-check.ensures.1 in
    let s = c.in_err-check.ensures.stops in
    rw (p.1, p.2) (lacks_first c.args.ctx.now c.args.root c.in_ok-first.field-0-0.now c.in_ok-first.first c.args.head c.in_err-check.field-0.0 c.requires.root.1 c.in_ok-first.ensures.ok s.0 s.1)
