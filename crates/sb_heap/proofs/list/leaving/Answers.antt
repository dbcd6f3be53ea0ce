use Rattle.std.proofs.lemmas.Result.{err_from_is_err_and}
use Rattle.sb_heap.proofs.Linking.{lacks_after, lacks_before}
use Rattle.sb_heap.proofs.list.leaving.Goals as goal

pub returns-in_err-check-2-clause-stops : goal.returns-in_err-check-2-clause-stops
returns-in_err-check-2-clause-stops c =
    let p = err_from_is_err_and c.from_residual-in_err-check-2.result c.from_residual-in_err-check-2.ensures.1 in
    let s = c.in_err-check-2.ensures.stops in
    rw (p.1, p.2) (lacks_before c.args.ctx.now c.args.root c.args.page c.args.head c.in_err-check-2.field-0.0 c.requires.page c.requires.head c.requires.listed s.0 s.1)

pub returns-in_err-check-3-clause-stops : goal.returns-in_err-check-3-clause-stops
returns-in_err-check-3-clause-stops c =
    let p = err_from_is_err_and c.from_residual-in_err-check-3.result c.from_residual-in_err-check-3.ensures.1 in
    let s = c.in_err-check-3.ensures.stops in
    rw (p.1, p.2) (lacks_after c.args.ctx.now c.args.root c.args.page c.args.head c.in_err-check-3.field-0.0 c.requires.page c.requires.head c.requires.listed s.0 s.1)
