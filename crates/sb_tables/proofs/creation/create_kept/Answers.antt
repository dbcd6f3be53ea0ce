use Rattle.std.proofs.Common.{ℕ, ◌+◌, cond, nat_lt, arith}
use Rattle.sb_drive.proofs.SpacesLemmas.{IfErr-passed, LeadsWithin-more, LeadsWithin-none}
use Rattle.sb_fold.specs.Costs.{descriptor_cost, foreign_method_prepare}
use Rattle.sb_fold.specs.Extensions.{method_room}
use Rattle.sb_engine.specs.Working.{extensions_of}
use Rattle.sb_tables.proofs.CreationLemmas.{create_charged, create_entered, create_refused, entry_charged, prepare_refused, rows_charged}
use Rattle.sb_tables.proofs.KeepingLemmas.{if_err, on_ok_both}
use Rattle.sb_tables.proofs.LicenceLemmas.{licence_entry, licence_first, licence_rows}
use Rattle.sb_tables.proofs.SpendingLemmas.{within_then}
use Rattle.sb_tables.proofs.creation.create_kept.Goals as goal

pub returns-in_err-prepare_table-clause-refused : goal.returns-in_err-prepare_table-clause-refused
returns-in_err-prepare_table-clause-refused g c =
    IfErr-passed c.from_residual-in_err-prepare_table.result c.in_err-prepare_table.field-0.0 _ c.from_residual-in_err-prepare_table.ensures.1
    (λ gone aside db keeps may.
    prepare_refused g.S.PageSpace.has g.S.PageSpace.fails (g.B.Boxes.meanings c.args.boxes.now) c.args.place.root gone aside db c.args.name.now c.args.method c.in_ok-owner.owner c.in_ok-owner.root c.args.schema.now c.args.key.now
    c.args.space.now c.new_instance.new.self c.prepare_table.new.space c.prepare_table.new.space keeps may c.in_ok-owner.ensures.high (c.in_ok-owner.ensures.made keeps.want keeps.slots keeps.has)
    c.in_ok-descriptor.descriptor c.in_ok-descriptor.ensures c.in_err-prepare_table.field-0.0 c.in_err-prepare_table.ensures.refused c.learn_method.ensures)

-- no page is left for its owner
pub returns-in_err-owner-clause-licensed : goal.returns-in_err-owner-clause-licensed
returns-in_err-owner-clause-licensed g c =
    IfErr-passed c.from_residual.result c.in_err-owner.field-0.0 _ c.from_residual.ensures.1
    (λ gone h cost keeps may.
    licence_first g.S.PageSpace.has g.S.PageSpace.leads g.S.PageSpace.table (g.B.Boxes.meanings c.args.boxes.now) c.args.place.root gone h cost c.args.name.now c.args.method c.args.schema.now c.args.key.now
    g.met.S.PageSpace.whole g.met.S.PageSpace.few g.met.S.PageSpace.tabled c.args.space.now keeps may
    (g.S.PageSpace.durable c.args.space.now) (g.S.PageSpace.total c.args.space.now) c.in_err-owner.field-0.0 c.new_instance.new.self
    (c.in_err-owner.ensures.full keeps.want keeps.slots keeps.has) (c.in_err-owner.ensures.leads.changes, c.in_err-owner.ensures.leads.leads))

-- or for its rows
pub returns-in_err-prepare_table-clause-licensed : goal.returns-in_err-prepare_table-clause-licensed
returns-in_err-prepare_table-clause-licensed g c =
    IfErr-passed c.from_residual-in_err-prepare_table.result c.in_err-prepare_table.field-0.0 _ c.from_residual-in_err-prepare_table.ensures.1
    (λ gone h cost keeps may.
    licence_rows g.S.PageSpace.has g.S.PageSpace.leads g.S.PageSpace.table (g.B.Boxes.meanings c.args.boxes.now) c.args.place.root gone h cost c.args.name.now c.args.method c.args.schema.now c.args.key.now
    g.met.S.PageSpace.whole g.met.S.PageSpace.few g.met.S.PageSpace.tabled c.args.space.now keeps may
    c.in_ok-owner.owner c.in_ok-owner.root c.new_instance.new.self c.in_ok-owner.ensures.high (c.in_ok-owner.ensures.made keeps.want keeps.slots keeps.has)
    c.in_ok-descriptor.descriptor c.in_ok-descriptor.ensures c.in_err-prepare_table.field-0.0 c.prepare_table.new.space c.in_err-prepare_table.ensures.full c.learn_method.ensures c.in_err-prepare_table.ensures.leads)

-- or for its entry
pub returns-clause-licensed : goal.returns-clause-licensed
returns-clause-licensed g c =
    if_err _ _ c.enter.result
    (λ e full gone h cost keeps may.
    licence_entry g.S.PageSpace.has g.S.PageSpace.leads g.S.PageSpace.table (g.B.Boxes.meanings c.args.boxes.now) c.args.place.root gone h cost c.args.name.now c.args.method c.args.schema.now c.args.key.now
    g.met.S.PageSpace.whole g.met.S.PageSpace.few g.met.S.PageSpace.tabled c.args.space.now keeps may
    c.in_ok-owner.owner c.in_ok-owner.root c.new_instance.new.self c.in_ok-owner.ensures.high (c.in_ok-owner.ensures.made keeps.want keeps.slots keeps.has)
    c.in_ok-descriptor.descriptor c.in_ok-descriptor.ensures e c.prepare_table.new.space c.enter.new.space c.in_ok-prepare_table.ensures.prepared full c.enter.ensures.leads)
    c.enter.ensures.full

pub returns-in_err-prepare_table-clause-leads : goal.returns-in_err-prepare_table-clause-leads
returns-in_err-prepare_table-clause-leads g c =
    let first = c.in_ok-owner.ensures.leads in
    let later = c.in_err-prepare_table.ensures.leads in
    (first.changes + later.0, g.met.S.PageSpace.goes_on first.changes later.0 c.args.space.now c.new_instance.new.self c.prepare_table.new.space first.leads later.1)

pub returns-clause-made : goal.returns-clause-made
returns-clause-made g c =
    on_ok_both c.enter.result
    (λ entered storable gone aside db keeps may.
    create_entered g.S.PageSpace.has g.S.PageSpace.fails (g.B.Boxes.meanings c.args.boxes.now) c.args.place.root gone aside db c.args.name.now c.args.method c.in_ok-owner.owner c.in_ok-owner.root c.args.schema.now c.args.key.now
    c.args.space.now c.new_instance.new.self c.prepare_table.new.space c.enter.new.space keeps may c.in_ok-owner.ensures.high (c.in_ok-owner.ensures.made keeps.want keeps.slots keeps.has)
    c.in_ok-descriptor.descriptor c.in_ok-descriptor.ensures c.in_ok-prepare_table.ensures.prepared entered storable)
    c.enter.ensures.entered c.enter.ensures.storable

pub returns-clause-refused : goal.returns-clause-refused
returns-clause-refused g c =
    if_err _ _ c.enter.result
    (λ e refused gone aside db keeps may.
    create_refused g.S.PageSpace.has g.S.PageSpace.fails (g.B.Boxes.meanings c.args.boxes.now) c.args.place.root gone aside db c.args.name.now c.args.method c.in_ok-owner.owner c.in_ok-owner.root c.args.schema.now c.args.key.now
    c.args.space.now c.new_instance.new.self c.prepare_table.new.space c.enter.new.space keeps may c.in_ok-owner.ensures.high (c.in_ok-owner.ensures.made keeps.want keeps.slots keeps.has)
    c.in_ok-descriptor.descriptor c.in_ok-descriptor.ensures c.in_ok-prepare_table.ensures.prepared e refused)
    c.enter.ensures.refused

pub returns-clause-leads : goal.returns-clause-leads
returns-clause-leads g c =
    let first = c.in_ok-owner.ensures.leads in
    let then = c.in_ok-prepare_table.ensures.leads in
    let later = c.enter.ensures.leads in (
      first.changes + then.0 + later.0,
      g.met.S.PageSpace.goes_on (first.changes + then.0) later.0 c.args.space.now c.prepare_table.new.space c.enter.new.space
          (g.met.S.PageSpace.goes_on first.changes then.0 c.args.space.now c.new_instance.new.self c.prepare_table.new.space first.leads then.1) later.1,
    )

-- ---- what it costs
pub returns-then-not-are_short-clause-costs : goal.returns-then-not-are_short-clause-costs
returns-then-not-are_short-clause-costs g c = λ gone aside db keeps may.
    LeadsWithin-none g.S.PageSpace.leads _ c.args.space.now c.args.space.now (g.met.S.PageSpace.stays c.args.space.now)

pub returns-in_err-owner-clause-costs : goal.returns-in_err-owner-clause-costs
returns-in_err-owner-clause-costs g c = λ gone aside db keeps may.
    let m = g.B.Boxes.meanings c.args.boxes.now in
    LeadsWithin-more g.S.PageSpace.leads 2 _ c.args.space.now c.new_instance.new.self
    (omega (arith, create_charged m db c.args.name.now c.args.method c.args.schema.now c.args.key.now may)) c.in_err-owner.ensures.leads

pub returns-in_err-descriptor-clause-costs : goal.returns-in_err-descriptor-clause-costs
returns-in_err-descriptor-clause-costs g c = λ gone aside db keeps may.
    let m = g.B.Boxes.meanings c.args.boxes.now in
    LeadsWithin-more g.S.PageSpace.leads 2 _ c.args.space.now c.new_instance.new.self
    (omega (arith, create_charged m db c.args.name.now c.args.method c.args.schema.now c.args.key.now may)) c.in_ok-owner.ensures.leads

pub returns-in_err-prepare_table-clause-costs : goal.returns-in_err-prepare_table-clause-costs
returns-in_err-prepare_table-clause-costs g c = λ gone aside db keeps may.
    let m = g.B.Boxes.meanings c.args.boxes.now in
    let leads = g.S.PageSpace.leads in
    within_then leads g.met.S.PageSpace.goes_on 2 _ _ c.args.space.now c.new_instance.new.self c.prepare_table.new.space
    (omega (arith, create_charged m db c.args.name.now c.args.method c.args.schema.now c.args.key.now may)) c.in_ok-owner.ensures.leads
    (rows_charged g.S.PageSpace.has g.S.PageSpace.fails (g.B.Boxes.meanings c.args.boxes.now) c.args.place.root gone aside db c.args.name.now c.args.method c.in_ok-owner.owner c.in_ok-owner.root c.args.schema.now c.args.key.now
    c.args.space.now c.new_instance.new.self c.prepare_table.new.space c.prepare_table.new.space keeps may c.in_ok-owner.ensures.high (c.in_ok-owner.ensures.made keeps.want keeps.slots keeps.has)
    c.in_ok-descriptor.descriptor c.in_ok-descriptor.ensures leads c.in_err-prepare_table.ensures.costs c.learn_method.ensures)

pub returns-clause-costs : goal.returns-clause-costs
returns-clause-costs g c = λ gone aside db keeps may.
    let m = g.B.Boxes.meanings c.args.boxes.now in
    let leads = g.S.PageSpace.leads in
    let come = c.in_ok-owner.ensures.made keeps.want keeps.slots keeps.has in
    let rows = rows_charged g.S.PageSpace.has g.S.PageSpace.fails (g.B.Boxes.meanings c.args.boxes.now) c.args.place.root gone aside db c.args.name.now c.args.method c.in_ok-owner.owner c.in_ok-owner.root c.args.schema.now c.args.key.now
    c.args.space.now c.new_instance.new.self c.prepare_table.new.space c.enter.new.space keeps may c.in_ok-owner.ensures.high come
    c.in_ok-descriptor.descriptor c.in_ok-descriptor.ensures leads c.in_ok-prepare_table.ensures.costs c.learn_method.ensures in
    let entry = entry_charged g.S.PageSpace.has g.S.PageSpace.fails (g.B.Boxes.meanings c.args.boxes.now) c.args.place.root gone aside db c.args.name.now c.args.method c.in_ok-owner.owner c.in_ok-owner.root c.args.schema.now c.args.key.now
    c.args.space.now c.new_instance.new.self c.prepare_table.new.space c.enter.new.space keeps may c.in_ok-owner.ensures.high come
    c.in_ok-descriptor.descriptor c.in_ok-descriptor.ensures c.in_ok-prepare_table.ensures.prepared leads c.enter.ensures.costs in
    let prepared : ℕ = cond (nat_lt c.args.method 1000) 1 (foreign_method_prepare (method_room (extensions_of m) c.args.method)) in
    within_then leads g.met.S.PageSpace.goes_on (2 + prepared) (descriptor_cost (extensions_of m) db) _ c.args.space.now c.prepare_table.new.space c.enter.new.space
    (omega (arith, create_charged m db c.args.name.now c.args.method c.args.schema.now c.args.key.now may))
    (within_then leads g.met.S.PageSpace.goes_on 2 prepared (2 + prepared) c.args.space.now c.new_instance.new.self c.prepare_table.new.space (omega arith) c.in_ok-owner.ensures.leads rows)
    entry
