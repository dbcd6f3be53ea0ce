use Rattle.std.proofs.Common.{is_some, sym, ap}
use Rattle.std.proofs.lemmas.Result.{err_from_is_err_and}
use Rattle.sb_ctx.specs.declared.calls.MethodCall.TheVariants.{Get}
use Rattle.sb_heap.proofs.Slots.{entry_within}
use Rattle.sb_heap.proofs.Changing.{Bare, Lacks, Short}
use Rattle.sb_heap.proofs.Looking.{Looks-broken, Looks-got, Looks-none, Looks-own, asked_get, entry_found, misspelled}
use Rattle.sb_heap.proofs.lookup.get_row.Goals as goal

pub returns-in_default : goal.returns-in_default
returns-in_default c = Looks-none c.args.inst.now c.args.key.now c.args.ctx.now c.requires.unchanged (Short c.in_default.ensures)

pub returns-in_err-bytes : goal.returns-in_err-bytes
returns-in_err-bytes c =
    let p = err_from_is_err_and c.from_residual.result c.from_residual.ensures.1 in
    let own = c.in_err-bytes.ensures.stops in
    rw (p.1, p.2) (Looks-own c.args.inst.now (Get c.args.key.now) c.args.ctx.now c.in-Some.page c.in_err-bytes.field-0.0 (λ P. tt) c.requires.unchanged
    (asked_get c.args.inst.now c.args.ctx.now c.args.key.now c.in-Some.page c.in-Some.slot.now c.in-Some.ensures own.some) own)

pub returns-in_default-2 : goal.returns-in_default-2
returns-in_default-2 c =
    Looks-none c.args.inst.now c.args.key.now c.args.ctx.now c.requires.unchanged (Bare c.in-Some.page c.in-Some.slot.now c.in-Some.ensures (rw c.in_default-2.is at c.in_ok-bytes.ensures.ok))

pub returns-in_default-place : goal.returns-in_default-place
returns-in_default-place c =
    let own = rw c.in-Some-2.is at c.in_ok-bytes.ensures.ok in
    Looks-none c.args.inst.now c.args.key.now c.args.ctx.now c.requires.unchanged
    (Lacks c.in-Some.page c.in-Some.slot.now c.in-Some-2.bytes.now c.in-Some-2._head c.in_default-place.field-0 c.in-Some.ensures own.1 own.2 (sym c.in_default-place.ensures))

pub entry-requires-clause-within : goal.entry-requires-clause-within
entry-requires-clause-within c =
    let own = rw c.in-Some-2.is at c.in_ok-bytes.ensures.ok in
    entry_within c.in-Some-2.bytes.now c.in-Some.slot.now c.in-Ok.i own.2.form (sym c.in-Ok.ensures)

pub returns-in-Some-3 : goal.returns-in-Some-3
returns-in-Some-3 c =
    let own = rw c.in-Some-2.is at c.in_ok-bytes.ensures.ok in
    Looks-got c.args.inst.now c.args.key.now c.args.ctx.now c.in-Some.page c.in-Ok.i c.in-Some.slot.now c.in-Some-2.bytes.now c.entry.result.1.now c.in-Some-2._head c.in-Some-3.row c.requires.unchanged c.in-Some.ensures own.1 own.2
    (entry_found c.in-Some-2.bytes.now c.in-Some.slot.now c.in-Ok.i (c.entry.result.0.now, c.entry.result.1.now) own.2.form (sym c.in-Ok.ensures) c.entry.ensures) (rw c.in-Some-3.is at c.in_ok-row.ensures)

pub returns-in-None : goal.returns-in-None
returns-in-None c =
    let own = rw c.in-Some-2.is at c.in_ok-bytes.ensures.ok in
    Looks-broken c.args.inst.now (Get c.args.key.now) c.args.ctx.now c.in-Some.page (λ P. tt) c.requires.unchanged (ap is_some own.2.held_is)
    (misspelled c.args.inst.now c.args.ctx.now c.in-Some.page c.in-Ok.i c.in-Some-2.bytes.now c.in-Some-2._head (c.entry.result.0.now, c.entry.result.1.now) own.0 own.1 own.2 c.entry.ensures (rw c.in-None.is at c.in_ok-row.ensures))
