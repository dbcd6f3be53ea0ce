use Rattle.std.proofs.Common.{◌∙◌, refl, sym, ap, subst}
use Rattle.sb_rule.specs.Spelling.{SpellsRule}
use Rattle.sb_ctx.specs.declared.instance.Instance.{Instance}
use Rattle.sb_relation.specs.Db.{Name}
use Rattle.sb_standing.specs.Lacking.{WhereShort}
use Rattle.sb_standing.specs.Tables.{db_of}
use Rattle.sb_tables.specs.Refusals.{HasRefusalCause, refusal_of}
use Rattle.sb_tables.specs.Working.{extensions_of}
use Rattle.sb_building.specs.Lacking.{IsShortBuilding}
use Rattle.sb_building.proofs.CallLemmas.{leads_then}
use Rattle.sb_building.specs.Building.{IsBuiltOver}
use Rattle.sb_building.proofs.EndedLemmas.{table_opened}
use Rattle.sb_building.proofs.SpentLemmas.{within-placed, within-rows}
use Rattle.sb_building.proofs.OpenLemmas.{ended_placed, ended_vetoed, none_long, placed_refused, placed_short, table_here}
use Rattle.sb_building.proofs.attaching.build_on.Goals as goal

pub build_rows-requires-clause-columns : goal.build_rows-requires-clause-columns
build_rows-requires-clause-columns g c = ap (λ (i : Instance). i.schema) c.requires.is ∙ sym (ap (λ (i : Instance). i.schema) c.requires.open.table)

pub build_rows-requires-clause-spelled : goal.build_rows-requires-clause-spelled
build_rows-requires-clause-spelled g c =
    let counted = c.requires.storable.2 in
    subst (λ (i : Instance). SpellsRule i.code i.desc c.args.attached.rule) (sym c.requires.is) (record { coded = counted.coded; spelled = refl; storable = counted.storable; limited = counted.limited })

-- ---- the rows
pub returns-in-Err-clause-refused : goal.returns-in-Err-clause-refused
returns-in-Err-clause-refused g c =
    let m = g.B.Boxes.meanings c.args.boxes.now in
    let has = g.S.PageSpace.has in
    let root = c.args.place.root in
    let one = c.args.one in
    let d = c.args.attached in
    let inst = c.args.inst.now in
    λ live x stores same may begun short.
    c.in-Err.ensures.refused live (record x { slots = begun.slots }) begun.site
    (table_here has m root x one stores same c.requires.open d c.requires.storable inst c.requires.is live may c.args.space.now begun short) begun.content
    (none_long has m root x one stores same c.requires.open d c.requires.storable inst c.requires.is live may c.args.space.now begun short)

pub returns-in-Ok-false-clause-ended : goal.returns-in-Ok-false-clause-ended
returns-in-Ok-false-clause-ended g c = λ live x stores same may main begun short.
    let m = g.B.Boxes.meanings c.args.boxes.now in
    let has = g.S.PageSpace.has in
    let root = c.args.place.root in
    let one = c.args.one in
    let d = c.args.attached in
    let inst = c.args.inst.now in
    let table = table_here has m root x one stores same c.requires.open d c.requires.storable inst c.requires.is live may c.args.space.now begun short in
    ended_vetoed has m root x one stores same c.requires.open d c.requires.storable inst c.requires.is live may c.args.space.now begun short c.build_rows.new.space c.in-Ok-false.field-0 c.in-Ok-false.field-0-test main
    (c.in-Ok-false.ensures.built live (record x { slots = begun.slots }) begun.site table begun.content)

-- ---- the descriptor
pub returns-in-Err-placed-clause-refused : goal.returns-in-Err-placed-clause-refused
returns-in-Err-placed-clause-refused g c =
    let m = g.B.Boxes.meanings c.args.boxes.now in
    let has = g.S.PageSpace.has in
    let root = c.args.place.root in
    let one = c.args.one in
    let d = c.args.attached in
    let inst = c.args.inst.now in
    let e = c.in-Err-placed.fault in
    λ live x stores same may begun short.
    let table = table_here has m root x one stores same c.requires.open d c.requires.storable inst c.requires.is live may c.args.space.now begun short in
    placed_refused has m root x one stores same c.requires.open d c.requires.storable inst c.requires.is live may c.args.space.now begun short c.build_rows.new.space c.place_rule-placed.new.space c.in-Ok-true.field-0 c.in-Ok-true.field-0-test
    (c.in-Ok-true.ensures.built live (record x { slots = begun.slots }) begun.site table begun.content)
    (HasRefusalCause g.S.PageSpace.fails (refusal_of e) c.place_rule-placed.new.space) c.in-Err-placed.ensures.refused

pub returns-in-Err-placed-clause-leads : goal.returns-in-Err-placed-clause-leads
returns-in-Err-placed-clause-leads g c =
    leads_then g.S.PageSpace.leads g.met.S.PageSpace.goes_on c.args.space.now c.build_rows.new.space c.place_rule-placed.new.space c.in-Ok-true.ensures.leads c.in-Err-placed.ensures.leads

pub returns-in-Ok-clause-ended : goal.returns-in-Ok-clause-ended
returns-in-Ok-clause-ended g c = λ live x stores same may main begun short.
    let m = g.B.Boxes.meanings c.args.boxes.now in
    let has = g.S.PageSpace.has in
    let root = c.args.place.root in
    let one = c.args.one in
    let d = c.args.attached in
    let inst = c.args.inst.now in
    let table = table_here has m root x one stores same c.requires.open d c.requires.storable inst c.requires.is live may c.args.space.now begun short in
    ended_placed has m root x one stores same c.requires.open d c.requires.storable inst c.requires.is live may c.args.space.now begun short c.build_rows.new.space c.place_rule-placed.new.space c.in-Ok-true.field-0 c.in-Ok-true.field-0-test
    (c.in-Ok-true.ensures.built live (record x { slots = begun.slots }) begun.site table begun.content) main
    c.in-Ok.ensures.placed c.in-Ok.ensures.storable

pub returns-in-Ok-clause-leads : goal.returns-in-Ok-clause-leads
returns-in-Ok-clause-leads g c =
    leads_then g.S.PageSpace.leads g.met.S.PageSpace.goes_on c.args.space.now c.build_rows.new.space c.place_rule-placed.new.space c.in-Ok-true.ensures.leads c.in-Ok.ensures.leads

-- ---- no page is left
pub returns-in-Err-clause-full : goal.returns-in-Err-clause-full
returns-in-Err-clause-full g c =
    let m = g.B.Boxes.meanings c.args.boxes.now in
    let has = g.S.PageSpace.has in
    let root = c.args.place.root in
    let one = c.args.one in
    let d = c.args.attached in
    let inst = c.args.inst.now in
    λ live x stores same may begun short.
    subst (λ (n : Name). WhereShort c.in-Err.fault (IsShortBuilding has g.S.PageSpace.leads (extensions_of m) x n d.rule c.build_rows.new.space)) (ap (λ (i : Instance). i.relation) c.requires.is)
    (c.in-Err.ensures.full live x begun
    (table_here has m root x one stores same c.requires.open d c.requires.storable inst c.requires.is live may c.args.space.now begun short) may.joinless)

pub returns-in-Err-placed-clause-full : goal.returns-in-Err-placed-clause-full
returns-in-Err-placed-clause-full g c =
    let m = g.B.Boxes.meanings c.args.boxes.now in
    let has = g.S.PageSpace.has in
    let root = c.args.place.root in
    let one = c.args.one in
    let d = c.args.attached in
    let inst = c.args.inst.now in
    λ live x stores same may begun short.
    let table = table_here has m root x one stores same c.requires.open d c.requires.storable inst c.requires.is live may c.args.space.now begun short in
    placed_short has m root x one stores same c.requires.open d c.requires.storable inst c.requires.is live may c.args.space.now begun short c.build_rows.new.space c.place_rule-placed.new.space c.in-Ok-true.field-0 c.in-Ok-true.field-0-test
    (c.in-Ok-true.ensures.built live (record x { slots = begun.slots }) begun.site table begun.content)
    g.S.PageSpace.leads c.in-Err-placed.fault g.met.S.PageSpace.whole g.met.S.PageSpace.few c.in-Err-placed.ensures.full c.in-Err-placed.ensures.leads

-- ---- the rest
pub build_rows-requires-clause-ready : goal.build_rows-requires-clause-ready
build_rows-requires-clause-ready g c = c.requires.ready

pub build_rows-requires-clause-owner : goal.build_rows-requires-clause-owner
build_rows-requires-clause-owner g c = c.requires.owner

pub build_rows-requires-clause-live : goal.build_rows-requires-clause-live
build_rows-requires-clause-live g c = c.requires.open.live

pub build_rows-requires-clause-live_rule : goal.build_rows-requires-clause-live_rule
build_rows-requires-clause-live_rule g c = c.requires.live

pub place_rule-placed-requires-clause-ready : goal.place_rule-placed-requires-clause-ready
place_rule-placed-requires-clause-ready g c = c.in-Ok-true.ensures.ready

pub place_rule-placed-requires-clause-owner : goal.place_rule-placed-requires-clause-owner
place_rule-placed-requires-clause-owner g c = c.requires.owner

pub place_rule-placed-requires-clause-storable : goal.place_rule-placed-requires-clause-storable
place_rule-placed-requires-clause-storable g c = c.requires.open.storable

pub place_rule-placed-requires-clause-attached : goal.place_rule-placed-requires-clause-attached
place_rule-placed-requires-clause-attached g c = c.requires.storable

pub returns-in-Err-clause-ready : goal.returns-in-Err-clause-ready
returns-in-Err-clause-ready g c = c.in-Err.ensures.ready

pub returns-in-Err-clause-leads : goal.returns-in-Err-clause-leads
returns-in-Err-clause-leads g c = c.in-Err.ensures.leads

pub returns-in-Ok-false-clause-leads : goal.returns-in-Ok-false-clause-leads
returns-in-Ok-false-clause-leads g c = c.in-Ok-false.ensures.leads

pub returns-in-Ok-false-clause-ready : goal.returns-in-Ok-false-clause-ready
returns-in-Ok-false-clause-ready g c = c.in-Ok-false.ensures.ready

pub returns-in-Err-placed-clause-ready : goal.returns-in-Err-placed-clause-ready
returns-in-Err-placed-clause-ready g c = c.in-Err-placed.ensures.ready

pub returns-in-Ok-clause-ready : goal.returns-in-Ok-clause-ready
returns-in-Ok-clause-ready g c = c.in-Ok.ensures.ready

-- ---- a fault, whatever the pages keep
pub returns-in-Err-clause-fault : goal.returns-in-Err-clause-fault
returns-in-Err-clause-fault g c = c.in-Err.ensures.fault

pub returns-in-Err-placed-clause-fault : goal.returns-in-Err-placed-clause-fault
returns-in-Err-placed-clause-fault g c = c.in-Err-placed.ensures.fault

-- ---- what it costs
pub returns-in-Err-clause-costs : goal.returns-in-Err-clause-costs
returns-in-Err-clause-costs g c = λ live x stores same may begun.
    let m = g.B.Boxes.meanings c.args.boxes.now in
    let has = g.S.PageSpace.has in
    let root = c.args.place.root in
    let one = c.args.one in
    let table = table_opened has m root x one.name stores one refl same c.requires.open in
    within-rows has g.S.PageSpace.leads g.met.S.PageSpace.goes_on m root x one.name c.args.attached.rule stores c.args.inst.now.relation (ap (λ (i : Instance). i.relation) c.requires.is) c.args.space.now c.build_rows.new.space
    (c.in-Err.ensures.costs live (record x { slots = begun.slots }) begun.site table begun.content may.joinless)

pub returns-in-Ok-false-clause-costs : goal.returns-in-Ok-false-clause-costs
returns-in-Ok-false-clause-costs g c = λ live x stores same may begun.
    let m = g.B.Boxes.meanings c.args.boxes.now in
    let has = g.S.PageSpace.has in
    let root = c.args.place.root in
    let one = c.args.one in
    let table = table_opened has m root x one.name stores one refl same c.requires.open in
    within-rows has g.S.PageSpace.leads g.met.S.PageSpace.goes_on m root x one.name c.args.attached.rule stores c.args.inst.now.relation (ap (λ (i : Instance). i.relation) c.requires.is) c.args.space.now c.build_rows.new.space
    (c.in-Ok-false.ensures.costs live (record x { slots = begun.slots }) begun.site table begun.content may.joinless)

pub returns-in-Err-placed-clause-costs : goal.returns-in-Err-placed-clause-costs
returns-in-Err-placed-clause-costs g c = λ live x stores same may begun.
    let m = g.B.Boxes.meanings c.args.boxes.now in
    let has = g.S.PageSpace.has in
    let root = c.args.place.root in
    let one = c.args.one in
    let d = c.args.attached in
    let inst = c.args.inst.now in
    let here = record x { slots = begun.slots } in
    let table = table_opened has m root x one.name stores one refl same c.requires.open in
    within-placed has g.S.PageSpace.leads g.met.S.PageSpace.goes_on m root x one.name d.rule stores inst.relation (ap (λ (i : Instance). i.relation) c.requires.is) inst live.box
    c.args.space.now c.build_rows.new.space c.place_rule-placed.new.space begun (IsBuiltOver live.box inst d.rule (db_of x.kept) x.one.relation.rows c.in-Ok-true.field-0)
    (c.in-Ok-true.ensures.built live here begun.site table begun.content) (c.in-Ok-true.ensures.costs live here begun.site table begun.content may.joinless) c.in-Err-placed.ensures.costs

pub returns-in-Ok-clause-costs : goal.returns-in-Ok-clause-costs
returns-in-Ok-clause-costs g c = λ live x stores same may begun.
    let m = g.B.Boxes.meanings c.args.boxes.now in
    let has = g.S.PageSpace.has in
    let root = c.args.place.root in
    let one = c.args.one in
    let d = c.args.attached in
    let inst = c.args.inst.now in
    let here = record x { slots = begun.slots } in
    let table = table_opened has m root x one.name stores one refl same c.requires.open in
    within-placed has g.S.PageSpace.leads g.met.S.PageSpace.goes_on m root x one.name d.rule stores inst.relation (ap (λ (i : Instance). i.relation) c.requires.is) inst live.box
    c.args.space.now c.build_rows.new.space c.place_rule-placed.new.space begun (IsBuiltOver live.box inst d.rule (db_of x.kept) x.one.relation.rows c.in-Ok-true.field-0)
    (c.in-Ok-true.ensures.built live here begun.site table begun.content) (c.in-Ok-true.ensures.costs live here begun.site table begun.content may.joinless) c.in-Ok.ensures.costs
