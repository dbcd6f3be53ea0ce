use Rattle.std.proofs.Common.{◌∙◌, arith}
use Rattle.std.proofs.lemmas.Result.{err_from_is_err_and}
use Rattle.sb_ctx.specs.declared.calls.MethodCall.TheVariants.{Insert}
use Rattle.sb_heap.proofs.Outcomes.{Changes-memory, Changes-tried}
use Rattle.sb_heap.proofs.Changing.{Stopped-spot, asked_spot_insert, inserting}
use Rattle.sb_heap.proofs.Changed.{Changes-inserted}
use Rattle.sb_heap.proofs.insertion.insert_row.Goals as goal

pub returns-in_err-row : goal.returns-in_err-row
returns-in_err-row c =
    let p = err_from_is_err_and c.from_residual.result c.from_residual.ensures.1 in
    rw (p.1, p.2) (Changes-memory c.args.inst.now (Insert c.args.tuple.now) c.args.ctx.now (inserting c.args.inst.now c.args.tuple.now) c.requires.clean.unchanged)

pub returns-in_err-spot : goal.returns-in_err-spot
returns-in_err-spot c =
    let p = err_from_is_err_and c.from_residual-in_err-spot.result c.from_residual-in_err-spot.ensures.1 in
    let inst = c.args.inst.now in
    let old = c.args.ctx.now in
    rw (p.1, p.2) (Stopped-spot inst (Insert c.args.tuple.now) old c.spot_for.new.ctx c.in_err-spot.field-0.0 (asked_spot_insert inst old c.args.tuple.now c.requires.clean.unchanged) (inserting inst c.args.tuple.now) c.requires.clean.unchanged
    c.in_err-spot.ensures.given (omega (arith, c.in_err-spot.ensures.edits)) c.in_err-spot.ensures.stops)

pub returns-in_err-key : goal.returns-in_err-key
returns-in_err-key c =
    let p = err_from_is_err_and c.from_residual-in_err-key.result c.from_residual-in_err-key.ensures.1 in
    let inst = c.args.inst.now in
    rw (p.1, p.2) (Changes-tried inst (Insert c.args.tuple.now) c.args.ctx.now c.spot_for.new.ctx 2 (omega arith) (inserting inst c.args.tuple.now) c.requires.clean.unchanged (record { given = c.in_ok-spot.ensures.given; edits = c.in_ok-spot.ensures.edits }))

pub returns-in_err-fill : goal.returns-in_err-fill
returns-in_err-fill c =
    let p = err_from_is_err_and c.from_residual-in_err-fill.result c.from_residual-in_err-fill.ensures.1 in
    let inst = c.args.inst.now in
    rw (p.1, p.2, c.in_err-fill.ensures.memory) (Changes-tried inst (Insert c.args.tuple.now) c.args.ctx.now c.fill.new.ctx 6 (omega arith) (inserting inst c.args.tuple.now) c.requires.clean.unchanged
    (record { given = c.in_err-fill.ensures.given ∙ c.in_ok-spot.ensures.given; edits = omega (arith, c.in_err-fill.ensures.edits, c.in_ok-spot.ensures.edits) }))

pub returns : goal.returns
returns c =
    Changes-inserted c.args.inst.now c.args.tuple.now c.as_slice.result.now c.args.ctx.now c.spot_for.new.ctx c.fill.new.ctx c.in_ok-spot.spot c.in_ok-key.key c.requires.clean.unchanged c.requires.row (c.as_slice.ensures ∙ c.in_ok-row.ensures.spelled)
    c.in_ok-spot.ensures.spot c.in_ok-spot.ensures.given c.in_ok-key.ensures c.in_ok-fill.ensures
