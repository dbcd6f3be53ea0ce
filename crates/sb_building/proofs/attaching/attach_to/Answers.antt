use Rattle.std.proofs.Common.{◌∙◌, subst, arith}
use Rattle.std.proofs.lemmas.Result.{IfOk-weaker, IfErr-weaker}
use Rattle.sb_rule.specs.declared.rule.Rule.{Rule}
use Rattle.sb_relation.specs.Db.{schema_at}
use Rattle.sb_fold.specs.Costs.{prepare_cost}
use Rattle.sb_drive.specs.Spaces.{LeadsWithin}
use Rattle.sb_drive.proofs.SpacesLemmas.{LeadsWithin-more, LeadsWithin-none, LeadsWithin-on}
use Rattle.sb_standing.specs.Lacking.{WhereShort}
use Rattle.sb_standing.specs.Tables.{db_of}
use Rattle.sb_standing.proofs.LackingLemmas.{read_short}
use Rattle.sb_tables.specs.Refusals.{HasRefusalCause, refusal_of}
use Rattle.sb_tables.specs.Working.{extensions_of}
use Rattle.sb_building.specs.Costs.{build_left}
use Rattle.sb_building.specs.Lacking.{IsShortBuilding}
use Rattle.sb_tables.proofs.RefusedLemmas.{refused_cause, refused_fault}
use Rattle.sb_tables.proofs.SpendingLemmas.{within_then}
use Rattle.sb_building.proofs.SpentLemmas.{begun_enough}
use Rattle.sb_building.proofs.CallLemmas.{leads_later, leads_then}
use Rattle.sb_building.proofs.EndedLemmas.{store_of}
use Rattle.sb_building.proofs.OpenLemmas.{caused_entry, ended_entry, ended_long, long_found, long_sound}
use Rattle.sb_building.proofs.attaching.attach_to.Goals as goal

-- ---- rows that are too long
pub returns-in-Err-clause-refused : goal.returns-in-Err-clause-refused
returns-in-Err-clause-refused g c =
    let e = c.in-Err.fault in
    λ x has stores same may.
    refused_cause g.S.PageSpace.fails _ c.args.space.now c.has_long_row.new.space e c.in-Err.ensures.looks.refused
    (long_sound g.S.PageSpace.has (g.B.Boxes.meanings c.args.boxes.now) c.args.place.root x c.args.one stores same c.requires.open c.args.space.now has e c.in-Err.ensures.undamaged)

pub returns-in-Err-clause-leads : goal.returns-in-Err-clause-leads
returns-in-Err-clause-leads g c = (0, c.in-Err.ensures.looks.leads)

pub returns-in-Ok-true-clause-ended : goal.returns-in-Ok-true-clause-ended
returns-in-Ok-true-clause-ended g c = λ x has stores same may main.
    ended_long g.S.PageSpace.has (g.B.Boxes.meanings c.args.boxes.now) c.args.place.root x c.args.one stores same c.requires.open c.args.space.now has c.args.rule c.args.label.now c.in-Ok-true.field-0 may
    c.has_long_row.new.space c.in-Ok-true.ensures.long c.in-Ok-true.field-0-test

pub returns-in-Ok-true-clause-leads : goal.returns-in-Ok-true-clause-leads
returns-in-Ok-true-clause-leads g c = (0, c.in-Ok-true.ensures.looks.leads)

-- ---- its begin
pub returns-in-Err-begin-clause-refused : goal.returns-in-Err-begin-clause-refused
returns-in-Err-begin-clause-refused g c =
    λ x has stores same may.
    c.in-Err-begin.ensures.refused x
    (store_of g.S.PageSpace.has (g.B.Boxes.meanings c.args.boxes.now) c.args.place.root x c.args.one.name stores c.has_long_row.new.space (c.in-Ok-false.ensures.looks.same x.want x.slots has)) same may

pub returns-in-Err-begin-clause-leads : goal.returns-in-Err-begin-clause-leads
returns-in-Err-begin-clause-leads g c =
    leads_later g.S.PageSpace.leads g.met.S.PageSpace.goes_on c.args.space.now c.has_long_row.new.space c.begin.new.space c.in-Ok-false.ensures.looks.leads c.in-Err-begin.ensures.leads

-- ---- its content and its place
pub returns-in-Ok-clause-ended : goal.returns-in-Ok-clause-ended
returns-in-Ok-clause-ended g c =
    let m = g.B.Boxes.meanings c.args.boxes.now in
    let hold = g.S.PageSpace.has in
    let root = c.args.place.root in
    let one = c.args.one in
    let live = c.in-Ok.ensures.live in
    IfOk-weaker c.build_on-built.result _ _ (λ end ended x has stores same may main.
    ended_entry hold m root x one.name c.args.label.now c.args.rule c.in-Ok.attached c.in-Ok.ensures.entry c.in-Ok.inst live.box c.begin.new.space c.build_on-built.new.space end
    (ended live x stores same) may main
    (c.in-Ok.ensures.begun live x (store_of hold m root x one.name stores c.has_long_row.new.space (c.in-Ok-false.ensures.looks.same x.want x.slots has)) same may)
    (long_found hold m root x one stores same c.requires.open c.args.space.now has c.args.rule c.in-Ok-false.field-0 c.in-Ok-false.ensures.long ∙ c.in-Ok-false.field-0-test)) c.build_on-built.ensures.ended

pub returns-in-Ok-clause-refused : goal.returns-in-Ok-clause-refused
returns-in-Ok-clause-refused g c =
    let m = g.B.Boxes.meanings c.args.boxes.now in
    let hold = g.S.PageSpace.has in
    let root = c.args.place.root in
    let one = c.args.one in
    let live = c.in-Ok.ensures.live in
    IfErr-weaker c.build_on-built.result _ _ (λ e refused x has stores same may.
    caused_entry hold m root x one.name c.args.label.now c.args.rule c.in-Ok.attached c.in-Ok.ensures.entry c.in-Ok.inst live.box c.begin.new.space c.build_on-built.new.space
    (HasRefusalCause g.S.PageSpace.fails (refusal_of e) c.build_on-built.new.space)
    (refused live x stores same) may
    (c.in-Ok.ensures.begun live x (store_of hold m root x one.name stores c.has_long_row.new.space (c.in-Ok-false.ensures.looks.same x.want x.slots has)) same may)
    (long_found hold m root x one stores same c.requires.open c.args.space.now has c.args.rule c.in-Ok-false.field-0 c.in-Ok-false.ensures.long ∙ c.in-Ok-false.field-0-test)) c.build_on-built.ensures.refused

pub returns-in-Ok-clause-leads : goal.returns-in-Ok-clause-leads
returns-in-Ok-clause-leads g c =
    let leads = g.S.PageSpace.leads in
    let goes = g.met.S.PageSpace.goes_on in
    leads_then leads goes c.args.space.now c.begin.new.space c.build_on-built.new.space
    (leads_later leads goes c.args.space.now c.has_long_row.new.space c.begin.new.space c.in-Ok-false.ensures.looks.leads c.in-Ok.ensures.leads) c.build_on-built.ensures.leads

-- ---- no page is left
pub returns-in-Err-clause-full : goal.returns-in-Err-clause-full
returns-in-Err-clause-full g c = λ x has stores same may. read_short c.in-Err.fault _ c.in-Err.ensures.looks.fault

pub returns-in-Err-begin-clause-full : goal.returns-in-Err-begin-clause-full
returns-in-Err-begin-clause-full g c =
    λ x has stores same may.
    c.in-Err-begin.ensures.full x
    (store_of g.S.PageSpace.has (g.B.Boxes.meanings c.args.boxes.now) c.args.place.root x c.args.one.name stores c.has_long_row.new.space (c.in-Ok-false.ensures.looks.same x.want x.slots has)) same may

pub returns-in-Ok-clause-full : goal.returns-in-Ok-clause-full
returns-in-Ok-clause-full g c =
    let m = g.B.Boxes.meanings c.args.boxes.now in
    let hold = g.S.PageSpace.has in
    let root = c.args.place.root in
    let one = c.args.one in
    let live = c.in-Ok.ensures.live in
    let d = c.in-Ok.attached in
    IfErr-weaker c.build_on-built.result _ _ (λ e full x has stores same may.
    subst (λ (r : Rule). WhereShort e (IsShortBuilding hold g.S.PageSpace.leads (extensions_of m) x one.name r c.build_on-built.new.space)) c.in-Ok.ensures.entry.rule_is
    (caused_entry hold m root x one.name c.args.label.now c.args.rule d c.in-Ok.ensures.entry c.in-Ok.inst live.box c.begin.new.space c.build_on-built.new.space
    (WhereShort e (IsShortBuilding hold g.S.PageSpace.leads (extensions_of m) x one.name d.rule c.build_on-built.new.space))
    (full live x stores same) may
    (c.in-Ok.ensures.begun live x (store_of hold m root x one.name stores c.has_long_row.new.space (c.in-Ok-false.ensures.looks.same x.want x.slots has)) same may)
    (long_found hold m root x one stores same c.requires.open c.args.space.now has c.args.rule c.in-Ok-false.field-0 c.in-Ok-false.ensures.long ∙ c.in-Ok-false.field-0-test))) c.build_on-built.ensures.full

-- ---- the rest
pub has_long_row-requires-clause-ready : goal.has_long_row-requires-clause-ready
has_long_row-requires-clause-ready g c = c.requires.ready

pub has_long_row-requires-clause-live : goal.has_long_row-requires-clause-live
has_long_row-requires-clause-live g c = c.requires.open.live

pub begin-requires-clause-ready : goal.begin-requires-clause-ready
begin-requires-clause-ready g c = c.in-Ok-false.ensures.ready

pub begin-requires-clause-owner : goal.begin-requires-clause-owner
begin-requires-clause-owner g c = c.requires.owner

pub begin-requires-clause-storable : goal.begin-requires-clause-storable
begin-requires-clause-storable g c = c.requires.storable

pub begin-requires-clause-short : goal.begin-requires-clause-short
begin-requires-clause-short g c = c.requires.short

pub build_on-built-requires-clause-ready : goal.build_on-built-requires-clause-ready
build_on-built-requires-clause-ready g c = c.in-Ok.ensures.ready

pub build_on-built-requires-clause-owner : goal.build_on-built-requires-clause-owner
build_on-built-requires-clause-owner g c = c.requires.owner

pub build_on-built-requires-clause-open : goal.build_on-built-requires-clause-open
build_on-built-requires-clause-open g c = c.requires.open

pub build_on-built-requires-clause-storable : goal.build_on-built-requires-clause-storable
build_on-built-requires-clause-storable g c = c.in-Ok.ensures.entry.storable

pub build_on-built-requires-clause-is : goal.build_on-built-requires-clause-is
build_on-built-requires-clause-is g c = c.in-Ok.ensures.is

pub build_on-built-requires-clause-live : goal.build_on-built-requires-clause-live
build_on-built-requires-clause-live g c = c.in-Ok.ensures.live

pub returns-in-Err-clause-ready : goal.returns-in-Err-clause-ready
returns-in-Err-clause-ready g c = c.in-Err.ensures.ready

pub returns-in-Ok-true-clause-ready : goal.returns-in-Ok-true-clause-ready
returns-in-Ok-true-clause-ready g c = c.in-Ok-true.ensures.ready

pub returns-in-Err-begin-clause-ready : goal.returns-in-Err-begin-clause-ready
returns-in-Err-begin-clause-ready g c = c.in-Err-begin.ensures.ready

pub returns-in-Ok-clause-ready : goal.returns-in-Ok-clause-ready
returns-in-Ok-clause-ready g c = c.build_on-built.ensures.ready

-- ---- a fault, whatever the pages keep
pub returns-in-Err-clause-fault : goal.returns-in-Err-clause-fault
returns-in-Err-clause-fault g c = refused_fault g.S.PageSpace.fails _ c.args.space.now c.has_long_row.new.space c.in-Err.fault c.in-Err.ensures.looks.refused

pub returns-in-Err-begin-clause-fault : goal.returns-in-Err-begin-clause-fault
returns-in-Err-begin-clause-fault g c = c.in-Err-begin.ensures.fault

pub returns-in-Ok-clause-fault : goal.returns-in-Ok-clause-fault
returns-in-Ok-clause-fault g c = c.build_on-built.ensures.fault

-- ---- what it costs
pub returns-in-Err-clause-costs : goal.returns-in-Err-clause-costs
returns-in-Err-clause-costs g c = λ x has stores same may. LeadsWithin-none g.S.PageSpace.leads _ c.args.space.now c.has_long_row.new.space c.in-Err.ensures.looks.leads

pub returns-in-Ok-true-clause-costs : goal.returns-in-Ok-true-clause-costs
returns-in-Ok-true-clause-costs g c = λ x has stores same may. LeadsWithin-none g.S.PageSpace.leads _ c.args.space.now c.has_long_row.new.space c.in-Ok-true.ensures.looks.leads

pub returns-in-Err-begin-clause-costs : goal.returns-in-Err-begin-clause-costs
returns-in-Err-begin-clause-costs g c = λ x has stores same may.
    let m = g.B.Boxes.meanings c.args.boxes.now in
    let hold = g.S.PageSpace.has in
    let leads = g.S.PageSpace.leads in
    let goes = g.met.S.PageSpace.goes_on in
    let root = c.args.place.root in
    let one = c.args.one in
    let store = store_of hold m root x one.name stores c.has_long_row.new.space (c.in-Ok-false.ensures.looks.same x.want x.slots has) in
    LeadsWithin-on leads _ c.args.space.now c.has_long_row.new.space c.begin.new.space goes c.in-Ok-false.ensures.looks.leads
    (LeadsWithin-more leads (prepare_cost (extensions_of m) (schema_at (db_of x.kept) one.name) c.args.rule) _ c.has_long_row.new.space c.begin.new.space
    (omega (arith, begun_enough hold leads goes m root x one.name c.args.rule stores)) (c.in-Err-begin.ensures.costs x store same may))

pub returns-in-Ok-clause-costs : goal.returns-in-Ok-clause-costs
returns-in-Ok-clause-costs g c = λ x has stores same may.
    let m = g.B.Boxes.meanings c.args.boxes.now in
    let hold = g.S.PageSpace.has in
    let leads = g.S.PageSpace.leads in
    let goes = g.met.S.PageSpace.goes_on in
    let root = c.args.place.root in
    let one = c.args.one in
    let rule = c.args.rule in
    let d = c.in-Ok.attached in
    let live = c.in-Ok.ensures.live in
    let db = db_of x.kept in
    let store = store_of hold m root x one.name stores c.has_long_row.new.space (c.in-Ok-false.ensures.looks.same x.want x.slots has) in
    let short = long_found hold m root x one stores same c.requires.open c.args.space.now has rule c.in-Ok-false.field-0 c.in-Ok-false.ensures.long ∙ c.in-Ok-false.field-0-test in
    let left = subst (λ (r : Rule). LeadsWithin leads (build_left (extensions_of m) db one.name r) c.begin.new.space c.build_on-built.new.space) c.in-Ok.ensures.entry.rule_is
    (caused_entry hold m root x one.name c.args.label.now rule d c.in-Ok.ensures.entry c.in-Ok.inst live.box c.begin.new.space c.build_on-built.new.space
    (LeadsWithin leads (build_left (extensions_of m) db one.name d.rule) c.begin.new.space c.build_on-built.new.space)
    (λ adds begun long. c.build_on-built.ensures.costs live x stores same adds begun) may
    (c.in-Ok.ensures.begun live x store same may) short) in
    LeadsWithin-on leads _ c.args.space.now c.has_long_row.new.space c.build_on-built.new.space goes c.in-Ok-false.ensures.looks.leads
    (within_then leads goes (prepare_cost (extensions_of m) (schema_at db one.name) rule) (build_left (extensions_of m) db one.name rule) _ c.has_long_row.new.space c.begin.new.space c.build_on-built.new.space
    (begun_enough hold leads goes m root x one.name rule stores) (c.in-Ok.ensures.costs x store same may) left)
