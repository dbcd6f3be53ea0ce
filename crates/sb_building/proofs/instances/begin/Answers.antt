use Rattle.std.proofs.Common.{cond, arith}
use Rattle.sb_rule.specs.Spelling.{rule_code}
use Rattle.sb_ctx.specs.Attachment.{keeps_pages}
use Rattle.sb_drive.proofs.SpacesLemmas.{IfErr-passed, LeadsWithin-more, LeadsWithin-none}
use Rattle.sb_standing.proofs.LackingLemmas.{read_short}
use Rattle.sb_tables.specs.Refusals.{refusal_of}
use Rattle.sb_tables.specs.Working.{extensions_of}
use Rattle.sb_tables.proofs.RefusedLemmas.{caused_fault, refused_cause, refused_fault}
use Rattle.sb_tables.proofs.SpendingLemmas.{within_then}
use Rattle.sb_building.proofs.CallLemmas.{IfOk-failed, leads_then}
use Rattle.sb_building.proofs.ChargeLemmas.{owner-is-charged}
use Rattle.sb_building.proofs.InstanceLemmas.{law_of-code, prepared_begun, prepared_charged, prepared_refused, prepared_short, test_sound}
use Rattle.sb_building.proofs.LackingLemmas.{short_first}
use Rattle.sb_building.proofs.instances.begin.Goals as goal

-- ---- its entry
pub returns-in_err-attached-clause-refused : goal.returns-in_err-attached-clause-refused
returns-in_err-attached-clause-refused g c = IfErr-passed c.from_residual.result c.in_err-attached.field-0.0 _ c.from_residual.ensures.1 (λ x store same may. c.in_err-attached.ensures.refused)

pub returns-in_err-attached-clause-leads : goal.returns-in_err-attached-clause-leads
returns-in_err-attached-clause-leads g c = (c.in_err-attached.ensures.leads.changes, c.in_err-attached.ensures.leads.leads)

-- ---- its test
pub test_entry-requires-clause-storable : goal.test_entry-requires-clause-storable
test_entry-requires-clause-storable g c = c.in_ok-attached.ensures.entered.entry.storable

pub returns-in-Err-clause-refused : goal.returns-in-Err-clause-refused
returns-in-Err-clause-refused g c =
    let m = g.B.Boxes.meanings c.args.boxes.now in
    let e = c.in-Err.fault in
    λ x store same may.
    refused_cause g.S.PageSpace.fails _ c.new_entry.new.space c.test_entry.new.space e c.in-Err.ensures.looks.refused
    (test_sound g.S.PageSpace.has m c.args.place.root x c.args.opened.now.name c.args.label.now c.args.rule c.in_ok-attached.attached c.args.space.now c.new_entry.new.space store may
    c.in_ok-attached.ensures.entered c.requires.storable (law_of-code m c.args.rule c.code_of-code.result c.code_of-code.ensures c.learn_rule.ensures)
    c.args.opened.now.descriptor same e c.in-Err.ensures.undamaged)

pub returns-in-Err-clause-leads : goal.returns-in-Err-clause-leads
returns-in-Err-clause-leads g c =
    leads_then g.S.PageSpace.leads g.met.S.PageSpace.goes_on c.args.space.now c.new_entry.new.space c.test_entry.new.space (c.in_ok-attached.ensures.leads.changes, c.in_ok-attached.ensures.leads.leads) (0, c.in-Err.ensures.looks.leads)

-- ---- its content
pub prepare-requires-clause-live : goal.prepare-requires-clause-live
prepare-requires-clause-live g c = c.in-Ok.ensures.live

pub returns-in-Err-prepare-clause-refused : goal.returns-in-Err-prepare-clause-refused
returns-in-Err-prepare-clause-refused g c =
    let m = g.B.Boxes.meanings c.args.boxes.now in
    let e = c.in-Err-prepare.fault in
    λ x store same may.
    prepared_refused g.S.PageSpace.has m c.args.place.root x c.args.opened.now.name c.args.label.now c.args.rule c.in_ok-attached.attached c.args.space.now c.new_entry.new.space store may
    c.in_ok-attached.ensures.entered c.requires.storable (law_of-code m c.args.rule c.code_of-code.result c.code_of-code.ensures c.learn_rule.ensures)
    c.args.opened.now.descriptor same c.test_entry.new.space c.prepare.new.space c.in-Ok.ensures.looks.same c.in-Ok.inst c.in-Ok.ensures.is c.in-Ok.ensures.live
    g.S.PageSpace.fails e c.in-Err-prepare.ensures.refused

pub returns-in-Err-prepare-clause-leads : goal.returns-in-Err-prepare-clause-leads
returns-in-Err-prepare-clause-leads g c =
    let leads = g.S.PageSpace.leads in
    let goes = g.met.S.PageSpace.goes_on in
    leads_then leads goes c.args.space.now c.test_entry.new.space c.prepare.new.space
    (leads_then leads goes c.args.space.now c.new_entry.new.space c.test_entry.new.space (c.in_ok-attached.ensures.leads.changes, c.in_ok-attached.ensures.leads.leads) (0, c.in-Ok.ensures.looks.leads)) c.in-Err-prepare.ensures.leads

-- ---- it has begun
pub returns-in-Ok-prepare-clause-begun : goal.returns-in-Ok-prepare-clause-begun
returns-in-Ok-prepare-clause-begun g c = λ live x store same may.
    let m = g.B.Boxes.meanings c.args.boxes.now in
    prepared_begun g.S.PageSpace.has m c.args.place.root x c.args.opened.now.name c.args.label.now c.args.rule c.in_ok-attached.attached c.args.space.now c.new_entry.new.space store may
    c.in_ok-attached.ensures.entered c.requires.storable (law_of-code m c.args.rule c.code_of-code.result c.code_of-code.ensures c.learn_rule.ensures)
    c.args.opened.now.descriptor same c.test_entry.new.space c.prepare.new.space c.in-Ok.ensures.looks.same c.in-Ok.inst c.in-Ok.ensures.is live c.in-Ok-prepare.ensures.prepared

pub returns-in-Ok-prepare-clause-leads : goal.returns-in-Ok-prepare-clause-leads
returns-in-Ok-prepare-clause-leads g c =
    let leads = g.S.PageSpace.leads in
    let goes = g.met.S.PageSpace.goes_on in
    leads_then leads goes c.args.space.now c.test_entry.new.space c.prepare.new.space
    (leads_then leads goes c.args.space.now c.new_entry.new.space c.test_entry.new.space (c.in_ok-attached.ensures.leads.changes, c.in_ok-attached.ensures.leads.leads) (0, c.in-Ok.ensures.looks.leads)) c.in-Ok-prepare.ensures.leads

-- ---- no page is left for it
pub returns-in_err-attached-clause-full : goal.returns-in_err-attached-clause-full
returns-in_err-attached-clause-full g c =
    IfErr-passed c.from_residual.result c.in_err-attached.field-0.0 _ c.from_residual.ensures.1
    (λ x store same may.
    short_first g.S.PageSpace.has g.S.PageSpace.leads (g.B.Boxes.meanings c.args.boxes.now) c.args.place.root x c.args.opened.now.name c.args.rule
    (g.S.PageSpace.durable c.args.space.now) (g.S.PageSpace.total c.args.space.now) c.args.space.now c.new_entry.new.space store.has store.tables (c.in_err-attached.ensures.leads.changes, c.in_err-attached.ensures.leads.leads)
    c.in_err-attached.field-0.0 (c.in_err-attached.ensures.full x.want x.slots store.has))

pub returns-in-Err-clause-full : goal.returns-in-Err-clause-full
returns-in-Err-clause-full g c = λ x store same may. read_short c.in-Err.fault _ c.in-Err.ensures.looks.fault

pub returns-in-Err-prepare-clause-full : goal.returns-in-Err-prepare-clause-full
returns-in-Err-prepare-clause-full g c =
    let m = g.B.Boxes.meanings c.args.boxes.now in
    λ x store same may.
    prepared_short g.S.PageSpace.has m c.args.place.root x c.args.opened.now.name c.args.label.now c.args.rule c.in_ok-attached.attached c.args.space.now c.new_entry.new.space store may
    c.in_ok-attached.ensures.entered c.requires.storable (law_of-code m c.args.rule c.code_of-code.result c.code_of-code.ensures c.learn_rule.ensures)
    c.args.opened.now.descriptor same c.test_entry.new.space c.prepare.new.space c.in-Ok.ensures.looks.same c.in-Ok.inst c.in-Ok.ensures.is c.in-Ok.ensures.live
    g.S.PageSpace.leads c.in-Err-prepare.fault c.in-Err-prepare.ensures.full c.in-Err-prepare.ensures.leads

-- ---- the rest
pub new_entry-requires-clause-ready : goal.new_entry-requires-clause-ready
new_entry-requires-clause-ready g c = c.requires.ready

pub new_entry-requires-clause-storable : goal.new_entry-requires-clause-storable
new_entry-requires-clause-storable g c = c.requires.storable

pub new_entry-requires-clause-short : goal.new_entry-requires-clause-short
new_entry-requires-clause-short g c = c.requires.short

pub test_entry-requires-clause-ready : goal.test_entry-requires-clause-ready
test_entry-requires-clause-ready g c = c.in_ok-attached.ensures.ready

pub test_entry-requires-clause-owner : goal.test_entry-requires-clause-owner
test_entry-requires-clause-owner g c = c.requires.owner

pub prepare-requires-clause-ready : goal.prepare-requires-clause-ready
prepare-requires-clause-ready g c = c.in-Ok.ensures.ready

pub prepare-requires-clause-owner : goal.prepare-requires-clause-owner
prepare-requires-clause-owner g c = c.requires.owner

pub returns-in_err-attached-clause-entry : goal.returns-in_err-attached-clause-entry
returns-in_err-attached-clause-entry g c = IfOk-failed c.from_residual.result _ _ c.from_residual.ensures.1

pub returns-in_err-attached-clause-is : goal.returns-in_err-attached-clause-is
returns-in_err-attached-clause-is g c = IfOk-failed c.from_residual.result _ _ c.from_residual.ensures.1

pub returns-in_err-attached-clause-live : goal.returns-in_err-attached-clause-live
returns-in_err-attached-clause-live g c = IfOk-failed c.from_residual.result _ _ c.from_residual.ensures.1

pub returns-in_err-attached-clause-begun : goal.returns-in_err-attached-clause-begun
returns-in_err-attached-clause-begun g c = IfOk-failed c.from_residual.result _ _ c.from_residual.ensures.1

pub returns-in_err-attached-clause-ready : goal.returns-in_err-attached-clause-ready
returns-in_err-attached-clause-ready g c = c.in_err-attached.ensures.ready

pub returns-in-Err-clause-ready : goal.returns-in-Err-clause-ready
returns-in-Err-clause-ready g c = c.in-Err.ensures.ready

pub returns-in-Err-prepare-clause-ready : goal.returns-in-Err-prepare-clause-ready
returns-in-Err-prepare-clause-ready g c = c.in-Err-prepare.ensures.ready

pub returns-in-Ok-prepare-clause-entry : goal.returns-in-Ok-prepare-clause-entry
returns-in-Ok-prepare-clause-entry g c = c.in_ok-attached.ensures.entered.entry

pub returns-in-Ok-prepare-clause-is : goal.returns-in-Ok-prepare-clause-is
returns-in-Ok-prepare-clause-is g c = c.in-Ok.ensures.is

pub returns-in-Ok-prepare-clause-live : goal.returns-in-Ok-prepare-clause-live
returns-in-Ok-prepare-clause-live g c = c.in-Ok.ensures.live

pub returns-in-Ok-prepare-clause-ready : goal.returns-in-Ok-prepare-clause-ready
returns-in-Ok-prepare-clause-ready g c = c.in-Ok-prepare.ensures.ready

-- ---- a fault, whatever the pages keep
pub returns-in_err-attached-clause-fault : goal.returns-in_err-attached-clause-fault
returns-in_err-attached-clause-fault g c =
    let e = c.in_err-attached.field-0.0 in
    IfErr-passed c.from_residual.result e _ c.from_residual.ensures.1 (caused_fault g.S.PageSpace.fails (refusal_of e) c.new_entry.new.space c.in_err-attached.ensures.refused)

pub returns-in-Err-clause-fault : goal.returns-in-Err-clause-fault
returns-in-Err-clause-fault g c = refused_fault g.S.PageSpace.fails _ c.new_entry.new.space c.test_entry.new.space c.in-Err.fault c.in-Err.ensures.looks.refused

pub returns-in-Err-prepare-clause-fault : goal.returns-in-Err-prepare-clause-fault
returns-in-Err-prepare-clause-fault g c = c.in-Err-prepare.ensures.fault

-- ---- what it costs
pub returns-in_err-attached-clause-costs : goal.returns-in_err-attached-clause-costs
returns-in_err-attached-clause-costs g c = λ x store same may.
    LeadsWithin-more g.S.PageSpace.leads (cond (keeps_pages (rule_code c.args.rule)) 2 0) _ c.args.space.now c.new_entry.new.space
    (owner-is-charged (extensions_of (g.B.Boxes.meanings c.args.boxes.now)) _ c.args.rule may.joinless) c.in_err-attached.ensures.leads

pub returns-in-Err-clause-costs : goal.returns-in-Err-clause-costs
returns-in-Err-clause-costs g c = λ x store same may.
    let leads = g.S.PageSpace.leads in
    let owner = cond (keeps_pages (rule_code c.args.rule)) 2 0 in
    LeadsWithin-more leads owner _ c.args.space.now c.test_entry.new.space
    (owner-is-charged (extensions_of (g.B.Boxes.meanings c.args.boxes.now)) _ c.args.rule may.joinless)
    (within_then leads g.met.S.PageSpace.goes_on owner 0 owner c.args.space.now c.new_entry.new.space c.test_entry.new.space (omega arith) c.in_ok-attached.ensures.leads
    (LeadsWithin-none leads 0 c.new_entry.new.space c.test_entry.new.space c.in-Err.ensures.looks.leads))

pub returns-in-Err-prepare-clause-costs : goal.returns-in-Err-prepare-clause-costs
returns-in-Err-prepare-clause-costs g c = λ x store same may.
    let m = g.B.Boxes.meanings c.args.boxes.now in
    prepared_charged g.S.PageSpace.has m c.args.place.root x c.args.opened.now.name c.args.label.now c.args.rule c.in_ok-attached.attached c.args.space.now c.new_entry.new.space store may
    c.in_ok-attached.ensures.entered c.requires.storable (law_of-code m c.args.rule c.code_of-code.result c.code_of-code.ensures c.learn_rule.ensures)
    c.args.opened.now.descriptor same c.test_entry.new.space c.prepare.new.space c.in-Ok.ensures.looks.same c.in-Ok.inst c.in-Ok.ensures.is c.in-Ok.ensures.live
    g.S.PageSpace.leads g.met.S.PageSpace.goes_on c.in_ok-attached.ensures.leads c.in-Ok.ensures.looks.leads c.in-Err-prepare.ensures.costs

pub returns-in-Ok-prepare-clause-costs : goal.returns-in-Ok-prepare-clause-costs
returns-in-Ok-prepare-clause-costs g c = λ x store same may.
    let m = g.B.Boxes.meanings c.args.boxes.now in
    prepared_charged g.S.PageSpace.has m c.args.place.root x c.args.opened.now.name c.args.label.now c.args.rule c.in_ok-attached.attached c.args.space.now c.new_entry.new.space store may
    c.in_ok-attached.ensures.entered c.requires.storable (law_of-code m c.args.rule c.code_of-code.result c.code_of-code.ensures c.learn_rule.ensures)
    c.args.opened.now.descriptor same c.test_entry.new.space c.prepare.new.space c.in-Ok.ensures.looks.same c.in-Ok.inst c.in-Ok.ensures.is c.in-Ok.ensures.live
    g.S.PageSpace.leads g.met.S.PageSpace.goes_on c.in_ok-attached.ensures.leads c.in-Ok.ensures.looks.leads c.in-Ok-prepare.ensures.costs
