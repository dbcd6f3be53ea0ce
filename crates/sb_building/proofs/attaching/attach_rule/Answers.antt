use Rattle.std.proofs.Common.{◌≡◌, ◌∙◌, true≢false, Option, option_map, IfSome, sym, ap, subst}
use Rattle.std.proofs.lemmas.Result.{IfOk-weaker, IfErr-weaker}
use Rattle.sb_relation.specs.Db.{Name}
use Rattle.sb_drive.specs.Spaces.{LeadsWithin}
use Rattle.sb_drive.proofs.SpacesLemmas.{LeadsWithin-none, LeadsWithin-on}
use Rattle.sb_standing.specs.Lacking.{WhereShort}
use Rattle.sb_standing.specs.Tables.{db_of}
use Rattle.sb_standing.proofs.LackingLemmas.{read_short}
use Rattle.sb_tables.specs.OpenRelation.{OpenRelation}
use Rattle.sb_tables.specs.Opened.{IsOpen}
use Rattle.sb_tables.specs.Refusals.{HasRefusalCause, refusal_of}
use Rattle.sb_tables.specs.Working.{extensions_of}
use Rattle.sb_building.specs.Costs.{build_cost}
use Rattle.sb_building.specs.Lacking.{IsShortBuilding}
use Rattle.sb_tables.proofs.RefusedLemmas.{refused_cause, refused_fault}
use Rattle.sb_building.proofs.CallLemmas.{leads_later}
use Rattle.sb_building.proofs.EndedLemmas.{store_of}
use Rattle.sb_building.proofs.OpenLemmas.{caused_named, ended_named, opened_descriptor, opened_none}
use Rattle.sb_building.proofs.attaching.attach_rule.Goals as goal

pub returns-in-Err-clause-refused : goal.returns-in-Err-clause-refused
returns-in-Err-clause-refused g c =
    let e = c.in-Err.fault in
    λ x has stores may.
    let store = store_of g.S.PageSpace.has (g.B.Boxes.meanings c.args.boxes.now) c.args.place.root x c.args.relation.now stores c.args.space.now has in
    refused_cause g.S.PageSpace.fails _ c.args.space.now c.open_relation.new.space e c.in-Err.ensures.looks.refused
    (c.in-Err.ensures.undamaged x.want x.slots x.kept has store.tables store.stand)

pub returns-in-Err-clause-leads : goal.returns-in-Err-clause-leads
returns-in-Err-clause-leads g c = (0, c.in-Err.ensures.looks.leads)

pub returns-in-Ok-None-clause-refused : goal.returns-in-Ok-None-clause-refused
returns-in-Ok-None-clause-refused g c = λ x has stores may.
    absurd (opened_none x.kept c.args.relation.now x.one
    (ap (λ (o : Option OpenRelation). option_map (λ (q : OpenRelation). q.descriptor) o) (sym c.in-Ok-None.field-0-is) ∙ c.in-Ok-None.ensures.found x.want x.slots x.kept has stores.keeps.tables) stores.there)

pub returns-in-Ok-None-clause-leads : goal.returns-in-Ok-None-clause-leads
returns-in-Ok-None-clause-leads g c = (0, c.in-Ok-None.ensures.looks.leads)

pub attach_to-requires-clause-open : goal.attach_to-requires-clause-open
attach_to-requires-clause-open g c =
    (subst (λ (o : Option OpenRelation). IfSome o (λ q. IsOpen (g.B.Boxes.meanings c.args.boxes.now) q × (q.name ≡ c.args.relation.now))) c.in-Ok-Some.field-0-is c.in-Ok-Some.ensures.opened).0

pub returns-in-Ok-Some-clause-ended : goal.returns-in-Ok-Some-clause-ended
returns-in-Ok-Some-clause-ended g c =
    let m = g.B.Boxes.meanings c.args.boxes.now in
    let relation = c.args.relation.now in
    let one = c.in-Ok-Some.one in
    let opened = subst (λ (o : Option OpenRelation). IfSome o (λ q. IsOpen m q × (q.name ≡ relation))) c.in-Ok-Some.field-0-is c.in-Ok-Some.ensures.opened in
    IfOk-weaker c.attach_to.result _ _ (λ end ended x has stores may main.
    let found = ap (λ (o : Option OpenRelation). option_map (λ (q : OpenRelation). q.descriptor) o) (sym c.in-Ok-Some.field-0-is) ∙ c.in-Ok-Some.ensures.found x.want x.slots x.kept has stores.keeps.tables in
    let same = opened_descriptor x.kept relation x.one one.descriptor found stores.there in
    ended_named g.S.PageSpace.has m c.args.place.root x c.args.name.now c.attach_to.new.space end c.args.rule one.name relation opened.1
    (λ own adds alone. ended x (c.in-Ok-Some.ensures.looks.same x.want x.slots has) own same adds alone) stores may main) c.attach_to.ensures.ended

pub returns-in-Ok-Some-clause-refused : goal.returns-in-Ok-Some-clause-refused
returns-in-Ok-Some-clause-refused g c =
    let m = g.B.Boxes.meanings c.args.boxes.now in
    let relation = c.args.relation.now in
    let one = c.in-Ok-Some.one in
    let opened = subst (λ (o : Option OpenRelation). IfSome o (λ q. IsOpen m q × (q.name ≡ relation))) c.in-Ok-Some.field-0-is c.in-Ok-Some.ensures.opened in
    IfErr-weaker c.attach_to.result _ _ (λ e refused x has stores may.
    let found = ap (λ (o : Option OpenRelation). option_map (λ (q : OpenRelation). q.descriptor) o) (sym c.in-Ok-Some.field-0-is) ∙ c.in-Ok-Some.ensures.found x.want x.slots x.kept has stores.keeps.tables in
    let same = opened_descriptor x.kept relation x.one one.descriptor found stores.there in
    caused_named m c.args.place.root x c.args.name.now c.args.rule (HasRefusalCause g.S.PageSpace.fails (refusal_of e) c.attach_to.new.space) one.name relation opened.1
    (λ own adds. refused x (c.in-Ok-Some.ensures.looks.same x.want x.slots has) own same adds) stores may) c.attach_to.ensures.refused

pub returns-in-Ok-Some-clause-leads : goal.returns-in-Ok-Some-clause-leads
returns-in-Ok-Some-clause-leads g c =
    leads_later g.S.PageSpace.leads g.met.S.PageSpace.goes_on c.args.space.now c.open_relation.new.space c.attach_to.new.space c.in-Ok-Some.ensures.looks.leads c.attach_to.ensures.leads

-- ---- no page is left
pub returns-in-Err-clause-full : goal.returns-in-Err-clause-full
returns-in-Err-clause-full g c = λ x has stores may. read_short c.in-Err.fault _ c.in-Err.ensures.looks.fault

pub returns-in-Ok-None-clause-full : goal.returns-in-Ok-None-clause-full
returns-in-Ok-None-clause-full g c = λ x has stores may. tt

pub returns-then-not-is_short_name-clause-full : goal.returns-then-not-is_short_name-clause-full
returns-then-not-is_short_name-clause-full g c = λ x has stores may. tt

pub returns-in-Ok-Some-clause-full : goal.returns-in-Ok-Some-clause-full
returns-in-Ok-Some-clause-full g c =
    let m = g.B.Boxes.meanings c.args.boxes.now in
    let relation = c.args.relation.now in
    let one = c.in-Ok-Some.one in
    let opened = subst (λ (o : Option OpenRelation). IfSome o (λ q. IsOpen m q × (q.name ≡ relation))) c.in-Ok-Some.field-0-is c.in-Ok-Some.ensures.opened in
    IfErr-weaker c.attach_to.result _ _ (λ e full x has stores may.
    let Left : Name → Type 0 = λ n. WhereShort e (IsShortBuilding g.S.PageSpace.has g.S.PageSpace.leads (extensions_of m) x n c.args.rule c.attach_to.new.space) in
    let found = ap (λ (o : Option OpenRelation). option_map (λ (q : OpenRelation). q.descriptor) o) (sym c.in-Ok-Some.field-0-is) ∙ c.in-Ok-Some.ensures.found x.want x.slots x.kept has stores.keeps.tables in
    let same = opened_descriptor x.kept relation x.one one.descriptor found stores.there in
    subst Left opened.1
    (caused_named m c.args.place.root x c.args.name.now c.args.rule (Left one.name) one.name relation opened.1
    (λ own adds. full x (c.in-Ok-Some.ensures.looks.same x.want x.slots has) own same adds) stores may)) c.attach_to.ensures.full

-- ---- the rest
pub returns-then-not-is_short_name-clause-refused : goal.returns-then-not-is_short_name-clause-refused
returns-then-not-is_short_name-clause-refused g c = λ x has stores may. absurd (true≢false (sym (c.is_short_name.ensures.1 may.label) ∙ c.if-not-is_short_name.true))

pub returns-then-not-is_short_name-clause-leads : goal.returns-then-not-is_short_name-clause-leads
returns-then-not-is_short_name-clause-leads g c = (0, g.met.S.PageSpace.stays c.args.space.now)

pub returns-then-not-is_short_name-clause-ready : goal.returns-then-not-is_short_name-clause-ready
returns-then-not-is_short_name-clause-ready g c = c.requires.ready

pub open_relation-requires-clause-ready : goal.open_relation-requires-clause-ready
open_relation-requires-clause-ready g c = c.requires.ready

pub open_relation-requires-clause-owner : goal.open_relation-requires-clause-owner
open_relation-requires-clause-owner g c = c.requires.owner

pub returns-in-Err-clause-ready : goal.returns-in-Err-clause-ready
returns-in-Err-clause-ready g c = c.in-Err.ensures.ready

pub returns-in-Ok-None-clause-ready : goal.returns-in-Ok-None-clause-ready
returns-in-Ok-None-clause-ready g c = c.in-Ok-None.ensures.ready

pub attach_to-requires-clause-ready : goal.attach_to-requires-clause-ready
attach_to-requires-clause-ready g c = c.in-Ok-Some.ensures.ready

pub attach_to-requires-clause-owner : goal.attach_to-requires-clause-owner
attach_to-requires-clause-owner g c = c.requires.owner

pub attach_to-requires-clause-storable : goal.attach_to-requires-clause-storable
attach_to-requires-clause-storable g c = c.requires.storable

pub attach_to-requires-clause-short : goal.attach_to-requires-clause-short
attach_to-requires-clause-short g c = c.is_short_name.ensures.0 c.if-not-is_short_name.false

pub returns-in-Ok-Some-clause-ready : goal.returns-in-Ok-Some-clause-ready
returns-in-Ok-Some-clause-ready g c = c.attach_to.ensures.ready

-- ---- a fault, whatever the pages keep
pub returns-in-Err-clause-fault : goal.returns-in-Err-clause-fault
returns-in-Err-clause-fault g c = refused_fault g.S.PageSpace.fails _ c.args.space.now c.open_relation.new.space c.in-Err.fault c.in-Err.ensures.looks.refused

pub returns-in-Ok-Some-clause-fault : goal.returns-in-Ok-Some-clause-fault
returns-in-Ok-Some-clause-fault g c = c.attach_to.ensures.fault

-- ---- what it costs
pub returns-then-not-is_short_name-clause-costs : goal.returns-then-not-is_short_name-clause-costs
returns-then-not-is_short_name-clause-costs g c = λ x has stores may. LeadsWithin-none g.S.PageSpace.leads _ c.args.space.now c.args.space.now (g.met.S.PageSpace.stays c.args.space.now)

pub returns-in-Err-clause-costs : goal.returns-in-Err-clause-costs
returns-in-Err-clause-costs g c = λ x has stores may. LeadsWithin-none g.S.PageSpace.leads _ c.args.space.now c.open_relation.new.space c.in-Err.ensures.looks.leads

pub returns-in-Ok-None-clause-costs : goal.returns-in-Ok-None-clause-costs
returns-in-Ok-None-clause-costs g c = λ x has stores may. LeadsWithin-none g.S.PageSpace.leads _ c.args.space.now c.open_relation.new.space c.in-Ok-None.ensures.looks.leads

pub returns-in-Ok-Some-clause-costs : goal.returns-in-Ok-Some-clause-costs
returns-in-Ok-Some-clause-costs g c = λ x has stores may.
    let m = g.B.Boxes.meanings c.args.boxes.now in
    let leads = g.S.PageSpace.leads in
    let relation = c.args.relation.now in
    let one = c.in-Ok-Some.one in
    let opened = subst (λ (o : Option OpenRelation). IfSome o (λ q. IsOpen m q × (q.name ≡ relation))) c.in-Ok-Some.field-0-is c.in-Ok-Some.ensures.opened in
    let Within : Name → Type 0 = λ n. LeadsWithin leads (build_cost (extensions_of m) (db_of x.kept) n c.args.rule) c.open_relation.new.space c.attach_to.new.space in
    let found = ap (λ (o : Option OpenRelation). option_map (λ (q : OpenRelation). q.descriptor) o) (sym c.in-Ok-Some.field-0-is) ∙ c.in-Ok-Some.ensures.found x.want x.slots x.kept has stores.keeps.tables in
    let same = opened_descriptor x.kept relation x.one one.descriptor found stores.there in
    LeadsWithin-on leads _ c.args.space.now c.open_relation.new.space c.attach_to.new.space g.met.S.PageSpace.goes_on c.in-Ok-Some.ensures.looks.leads
    (subst Within opened.1
    (caused_named m c.args.place.root x c.args.name.now c.args.rule (Within one.name) one.name relation opened.1
    (λ own adds. c.attach_to.ensures.costs x (c.in-Ok-Some.ensures.looks.same x.want x.slots has) own same adds) stores may))
