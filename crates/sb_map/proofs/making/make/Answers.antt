use Rattle.std.proofs.Common.{arith}
use Rattle.sb_ctx.specs.View.{edits_of}
use Rattle.sb_drive.proofs.SpacesLemmas.{LeadsWithin-more, LeadsWithin-on}
use Rattle.sb_map.specs.Calls.{NeverAsks}
use Rattle.sb_map.proofs.Storing.{Works-stored, Works-unstored}
use Rattle.sb_map.proofs.making.make.Goals as goal

pub returns-in_err-store-clause-costs : goal.returns-in_err-store-clause-costs
returns-in_err-store-clause-costs g c =
    let made = c.in_ok-ctx.ensures in
    let leads = g.S.PageSpace.leads in
    LeadsWithin-more leads (edits_of c.in_ok-ctx.ctx) 1 c.args.space.now c.store.new.self made.edits
    (LeadsWithin-on leads (edits_of c.in_ok-ctx.ctx) c.args.space.now c.make_root.new.space c.store.new.self g.met.S.PageSpace.goes_on made.looks.leads c.in_err-store.ensures.leads)

pub returns-clause-costs : goal.returns-clause-costs
returns-clause-costs g c =
    let made = c.in_ok-ctx.ensures in
    let leads = g.S.PageSpace.leads in
    LeadsWithin-more leads (edits_of c.in_ok-ctx.ctx) 1 c.args.space.now c.store.new.self made.edits
    (LeadsWithin-on leads (edits_of c.in_ok-ctx.ctx) c.args.space.now c.make_root.new.space c.store.new.self g.met.S.PageSpace.goes_on made.looks.leads c.in_ok-store.ensures.leads)

pub returns-in_err-store-clause-works : goal.returns-in_err-store-clause-works
returns-in_err-store-clause-works g c =
    let made = c.in_ok-ctx.ensures in
    let store = c.in_err-store.ensures in
    Works-unstored g.S.PageSpace.has g.S.PageSpace.leads g.S.PageSpace.fails g.S.PageSpace.durable g.S.PageSpace.total c.args.place NeverAsks c.args.space.now c.make_root.new.space c.store.new.self c.in_ok-ctx.ctx _ c.from_residual-in_err-store.result c.in_err-store.field-0.0
    g.met.S.PageSpace.goes_on g.met.S.PageSpace.fails_on c.from_residual-in_err-store.ensures.1 made.looks made.part (λ want s has es read. omega (arith, made.edits))
    store.pages store.undamaged store.leads store.fails

pub returns-clause-works : goal.returns-clause-works
returns-clause-works g c =
    let made = c.in_ok-ctx.ensures in
    let store = c.in_ok-store.ensures in
    Works-stored g.S.PageSpace.has g.S.PageSpace.leads g.S.PageSpace.fails g.S.PageSpace.durable g.S.PageSpace.total c.args.place NeverAsks c.args.space.now c.make_root.new.space c.store.new.self c.in_ok-ctx.ctx _ tt
    g.met.S.PageSpace.goes_on made.looks made.part (λ want s has es read. omega (arith, made.edits)) store.pages store.leads
