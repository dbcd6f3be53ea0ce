use Rattle.std.proofs.Common.{Some}
use Rattle.std.proofs.lemmas.Result.{err_from_is_err_and}
use Rattle.sb_heap.proofs.Scanned.{Looks-end, Looks-found, Looks-stops, asked_last, asked_next, past_low, past_next}
use Rattle.sb_heap.proofs.lookup.row_behind.Goals as goal

pub returns-in_default : goal.returns-in_default
returns-in_default c low passed = Looks-end c.args.inst.now c.args.ctx.now low c.args.page c.requires.unchanged (past_low c.args.inst.now c.args.ctx.now low c.args.page c.requires.unchanged passed) (rw c.in_default.is at c.in_ok-next.ensures)

pub returns-in_err-found : goal.returns-in_err-found
returns-in_err-found c low passed =
    let p = err_from_is_err_and c.from_residual-in_err-found.result c.from_residual-in_err-found.ensures.1 in
    rw (p.1, p.2) (Looks-stops c.args.inst.now c.args.ctx.now low c.in-Some.next c.in_err-found.field-0.0 c.requires.unchanged
    (asked_next c.args.inst.now c.args.ctx.now low c.args.page c.in-Some.next passed (rw c.in-Some.is at c.in_ok-next.ensures)) c.in_err-found.ensures)

pub returns-in-Some-2 : goal.returns-in-Some-2
returns-in-Some-2 c low passed =
    Looks-found c.args.inst.now c.args.ctx.now low c.args.page c.in-Some.next c.in-Some-2.found.0 c.in-Some-2.found.1 c.requires.unchanged (past_low c.args.inst.now c.args.ctx.now low c.args.page c.requires.unchanged passed)
    (rw c.in-Some.is at c.in_ok-next.ensures) (rw c.in-Some-2.is at c.in_ok-found.ensures)

pub returns-in_default-3 : goal.returns-in_default-3
returns-in_default-3 c low passed =
    let one = rw c.in-Some.is at c.in_ok-next.ensures in
    let none = rw c.in_default-2.is at c.in_ok-found.ensures in
    Looks-end c.args.inst.now c.args.ctx.now low (Some c.in-Some.next) c.requires.unchanged
    (past_next c.args.inst.now c.args.ctx.now low c.args.page c.in-Some.next c.requires.unchanged (past_low c.args.inst.now c.args.ctx.now low c.args.page c.requires.unchanged passed) one none) (rw c.in_default-3.is at c.in_ok-last.ensures)

pub returns-in_err-found-2 : goal.returns-in_err-found-2
returns-in_err-found-2 c low passed =
    let p = err_from_is_err_and c.from_residual-in_err-found-2.result c.from_residual-in_err-found-2.ensures.1 in
    rw (p.1, p.2) (Looks-stops c.args.inst.now c.args.ctx.now low c.in-Some-3.last c.in_err-found-2.field-0.0 c.requires.unchanged
    (asked_last c.args.inst.now c.args.ctx.now low c.args.page c.in-Some.next c.in-Some-3.last passed (rw c.in-Some.is at c.in_ok-next.ensures) (rw c.in-Some-3.is at c.in_ok-last.ensures)) c.in_err-found-2.ensures)

pub returns-in-Some-4 : goal.returns-in-Some-4
returns-in-Some-4 c low passed =
    let one = rw c.in-Some.is at c.in_ok-next.ensures in
    let none = rw c.in_default-2.is at c.in_ok-found.ensures in
    Looks-found c.args.inst.now c.args.ctx.now low (Some c.in-Some.next) c.in-Some-3.last c.in-Some-4.found.0 c.in-Some-4.found.1 c.requires.unchanged
    (past_next c.args.inst.now c.args.ctx.now low c.args.page c.in-Some.next c.requires.unchanged (past_low c.args.inst.now c.args.ctx.now low c.args.page c.requires.unchanged passed) one none)
    (rw c.in-Some-3.is at c.in_ok-last.ensures) (rw c.in-Some-4.is at c.in_ok-found-2.ensures)
