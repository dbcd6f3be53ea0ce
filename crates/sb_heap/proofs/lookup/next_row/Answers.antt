use Rattle.std.proofs.Common.{Some, None, refl}
use Rattle.std.proofs.lemmas.Result.{err_from_is_err_and}
use Rattle.sb_heap.proofs.Scanned.{Looks-found-low, Looks-stops, asked_low}
use Rattle.sb_heap.proofs.lookup.next_row.Goals as goal

pub returns-in_default : goal.returns-in_default
returns-in_default c = rw c.in_default.is (c.row_behind.ensures None refl)

pub returns-in_err-found : goal.returns-in_err-found
returns-in_err-found c =
    let p = err_from_is_err_and c.from_residual.result c.from_residual.ensures.1 in
    rw (p.1, p.2, c.in-Some.is) (Looks-stops c.args.inst.now c.args.ctx.now (Some c.in-Some.low.now) c.page_at-page.result c.in_err-found.field-0.0 c.requires.unchanged
    (asked_low c.args.inst.now c.args.ctx.now c.in-Some.low.now c.page_at-page.result c.page_at-page.ensures) c.in_err-found.ensures)

pub returns-in-Some-2 : goal.returns-in-Some-2
returns-in-Some-2 c =
    rw c.in-Some.is (Looks-found-low c.args.inst.now c.args.ctx.now c.in-Some.low.now c.page_at-page.result c.in-Some-2.found.0 c.in-Some-2.found.1 c.requires.unchanged c.page_at-page.ensures (rw c.in-Some-2.is at c.in_ok-found.ensures))

pub returns-in-None : goal.returns-in-None
returns-in-None c = rw c.in-Some.is (c.row_behind-in-None.ensures (Some c.in-Some.low.now) (c.page_at-page.result, refl, c.page_at-page.ensures, rw c.in-None.is at c.in_ok-found.ensures))
