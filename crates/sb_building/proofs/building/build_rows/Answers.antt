use Rattle.std.proofs.Common.{◌∙◌, List, Option, IfSome, arith, sym, ap, subst}
use Rattle.sb_value.specs.declared.schema.Column.{Column}
use Rattle.sb_rule.specs.Spelling.{SpellsRule}
use Rattle.sb_relation.specs.Db.{Key, Row}
use Rattle.sb_relation.specs.Lawful.{IsRow, is_long_for}
use Rattle.sb_ctx.specs.declared.instance.Instance.{Instance}
use Rattle.sb_ctx.specs.MethodAnswers.{IsRowOf}
use Rattle.sb_drive.proofs.SpacesLemmas.{IfErr-passed}
use Rattle.sb_rows.specs.Live.{HasRows}
use Rattle.sb_standing.proofs.LackingLemmas.{read_short}
use Rattle.sb_tables.proofs.RefusedLemmas.{refused_cause}
use Rattle.sb_building.proofs.BuildLemmas.{building-all, building-short, building-few, building-later, building-vetoed, next_of, not_long, paid-all, paid-later, paid-looking, paid-next, paid-none, paid-row, rows_of_it}
use Rattle.sb_building.proofs.CallLemmas.{leads_then}
use Rattle.sb_building.proofs.SiteLemmas.{MayHold-row}
use Rattle.sb_building.proofs.building.build_rows.Goals as goal

pub rows-init : goal.rows-init
rows-init g c = record {
  ready = c.requires.ready;
  leads = (0, g.met.S.PageSpace.stays c.args.space.now);
  up = λ live x site table over.
      paid-none g.S.PageSpace.has g.S.PageSpace.leads g.met.S.PageSpace.goes_on (g.B.Boxes.meanings c.args.boxes.now) c.args.place.root x c.args.inst.now c.args.rule.now live.box c.args.space.now site over
      (g.met.S.PageSpace.stays c.args.space.now);
}

-- ---- the next row
pub returns-in_err-key-clause-refused : goal.returns-in_err-key-clause-refused
returns-in_err-key-clause-refused g c =
    IfErr-passed c.from_residual.result c.in_err-key.field-0.0 _ c.from_residual.ensures.1
    (λ live x site table over short.
    let m = g.B.Boxes.meanings c.args.boxes.now in
    let up = (c.rows.invariant.up live x site table over).up in
    let rows = rows_of_it g.S.PageSpace.has m c.args.place.root x c.args.inst.now c.args.rule.now live.box c.rows.last c.rows.counter c.rows.space up in
    refused_cause g.S.PageSpace.fails _ c.rows.space c.next_row.new.space c.in_err-key.field-0.0 c.in_err-key.ensures.looks.refused
    (c.in_err-key.ensures.undamaged x.want up.slots x.one.relation.rows up.site.has (subst (λ (i : Instance). HasRows m up.slots i x.one.relation.rows) (sym table) rows)))

pub returns-in_err-key-clause-leads : goal.returns-in_err-key-clause-leads
returns-in_err-key-clause-leads g c =
    leads_then g.S.PageSpace.leads g.met.S.PageSpace.goes_on c.args.space.now c.rows.space c.next_row.new.space c.rows.invariant.leads (0, c.in_err-key.ensures.looks.leads)

-- ---- no row more
pub returns-in_default-clause-built : goal.returns-in_default-clause-built
returns-in_default-clause-built g c = λ live x site table over.
    let m = g.B.Boxes.meanings c.args.boxes.now in
    let inst = c.args.inst.now in
    let rule = c.args.rule.now in
    let root = c.args.place.root in
    let has = g.S.PageSpace.has in
    let up = (c.rows.invariant.up live x site table over).up in
    let rows = subst (λ (i : Instance). HasRows m up.slots i x.one.relation.rows) (sym table) (rows_of_it has m root x inst rule live.box c.rows.last c.rows.counter c.rows.space up) in
    let next = c.in_ok-key.ensures.row x.want up.slots x.one.relation.rows up.site.has rows in
    let later = building-later has m root x inst rule live.box c.rows.last c.rows.counter c.rows.space c.next_row.new.space c.in_ok-key.ensures.looks.same up in
    building-all has m root x inst rule live.box c.rows.last c.rows.counter c.next_row.new.space later (sym next ∙ c.in_default.is)

pub returns-in_default-clause-leads : goal.returns-in_default-clause-leads
returns-in_default-clause-leads g c =
    leads_then g.S.PageSpace.leads g.met.S.PageSpace.goes_on c.args.space.now c.rows.space c.next_row.new.space c.rows.invariant.leads (0, c.in_ok-key.ensures.looks.leads)

-- ---- one that is too long
pub returns-then-is_long_for-clause-refused : goal.returns-then-is_long_for-clause-refused
returns-then-is_long_for-clause-refused g c = λ live x site table over short.
    let m = g.B.Boxes.meanings c.args.boxes.now in
    let inst = c.args.inst.now in
    let rule = c.args.rule.now in
    let root = c.args.place.root in
    let has = g.S.PageSpace.has in
    let row : Key × Row = (c.in-Some.key, c.in-Some.row) in
    let up = (c.rows.invariant.up live x site table over).up in
    let rows = subst (λ (i : Instance). HasRows m up.slots i x.one.relation.rows) (sym table) (rows_of_it has m root x inst rule live.box c.rows.last c.rows.counter c.rows.space up) in
    let next = c.in_ok-key.ensures.row x.want up.slots x.one.relation.rows up.site.has rows in
    absurd (not_long has m root x inst rule live.box c.rows.last c.rows.counter c.rows.space up row c.args.table.now.schema (ap (λ (i : Instance). i.schema) table) (sym next ∙ c.in-Some.is)
    (sym c.is_long_for.ensures ∙ c.if-is_long_for.true) short)

pub returns-then-is_long_for-clause-leads : goal.returns-then-is_long_for-clause-leads
returns-then-is_long_for-clause-leads g c =
    leads_then g.S.PageSpace.leads g.met.S.PageSpace.goes_on c.args.space.now c.rows.space c.next_row.new.space c.rows.invariant.leads (0, c.in_ok-key.ensures.looks.leads)

-- ---- the call of its build
pub build_row-requires-clause-row : goal.build_row-requires-clause-row
build_row-requires-clause-row g c = λ live.
    let inst = c.args.inst.now in
    let rule = c.args.rule.now in
    let is = subst (λ (o : Option (Key × Row)). IfSome o (λ r. IsRowOf c.args.table.now r.0 r.1)) c.in-Some.is c.in_ok-key.ensures.is_row in
    MayHold-row live.box inst rule c.in-Some.row (subst (λ (columns : List Column). IsRow columns c.in-Some.row) (sym c.requires.columns) is.is_row)
    (subst (λ code. SpellsRule code inst.desc rule) live.may.code c.requires.spelled)
    (ap (λ columns. is_long_for columns c.in-Some.row rule) c.requires.columns ∙ sym c.is_long_for.ensures ∙ c.if-is_long_for.false)

pub build_row-requires-clause-key : goal.build_row-requires-clause-key
build_row-requires-clause-key g c = (subst (λ (o : Option (Key × Row)). IfSome o (λ r. IsRowOf c.args.table.now r.0 r.1)) c.in-Some.is c.in_ok-key.ensures.is_row).is_key

pub returns-in_err-admitted-clause-refused : goal.returns-in_err-admitted-clause-refused
returns-in_err-admitted-clause-refused g c =
    IfErr-passed c.from_residual-in_err-admitted.result c.in_err-admitted.field-0.0 _ c.from_residual-in_err-admitted.ensures.1
    (λ live x site table over short.
    let m = g.B.Boxes.meanings c.args.boxes.now in
    let inst = c.args.inst.now in
    let rule = c.args.rule.now in
    let root = c.args.place.root in
    let has = g.S.PageSpace.has in
    let up = (c.rows.invariant.up live x site table over).up in
    let later = building-later has m root x inst rule live.box c.rows.last c.rows.counter c.rows.space c.next_row.new.space c.in_ok-key.ensures.looks.same up in
    c.in_err-admitted.ensures.refused live (record x { slots = later.slots }) rule later.built later.site later.content)

pub returns-in_err-admitted-clause-leads : goal.returns-in_err-admitted-clause-leads
returns-in_err-admitted-clause-leads g c =
    let leads = g.S.PageSpace.leads in
    let goes = g.met.S.PageSpace.goes_on in
    leads_then leads goes c.args.space.now c.next_row.new.space c.build_row.new.space
    (leads_then leads goes c.args.space.now c.rows.space c.next_row.new.space c.rows.invariant.leads (0, c.in_ok-key.ensures.looks.leads)) c.in_err-admitted.ensures.leads

-- ---- no page is left for it
pub returns-in_err-key-clause-full : goal.returns-in_err-key-clause-full
returns-in_err-key-clause-full g c =
    IfErr-passed c.from_residual.result c.in_err-key.field-0.0 _ c.from_residual.ensures.1 (λ live x begun table joinless. read_short c.in_err-key.field-0.0 _ c.in_err-key.ensures.looks.fault)

pub returns-in_err-admitted-clause-full : goal.returns-in_err-admitted-clause-full
returns-in_err-admitted-clause-full g c =
    IfErr-passed c.from_residual-in_err-admitted.result c.in_err-admitted.field-0.0 _ c.from_residual-in_err-admitted.ensures.1
    (λ live x begun table joinless.
    let m = g.B.Boxes.meanings c.args.boxes.now in
    let inst = c.args.inst.now in
    let rule = c.args.rule.now in
    let root = c.args.place.root in
    let has = g.S.PageSpace.has in
    let row : Key × Row = (c.in-Some.key, c.in-Some.row) in
    let here = record x { slots = begun.slots } in
    let up = (c.rows.invariant.up live here begun.site table begun.content).up in
    let rows = subst (λ (i : Instance). HasRows m up.slots i x.one.relation.rows) (sym table) (rows_of_it has m root here inst rule live.box c.rows.last c.rows.counter c.rows.space up) in
    let is = sym (c.in_ok-key.ensures.row x.want up.slots x.one.relation.rows up.site.has rows) ∙ c.in-Some.is in
    let later = building-later has m root here inst rule live.box c.rows.last c.rows.counter c.rows.space c.next_row.new.space c.in_ok-key.ensures.looks.same up in
    let next = next_of has m root here inst rule live.box c.rows.last c.rows.counter c.next_row.new.space later row is in
    building-short has g.S.PageSpace.leads m root x inst rule live.box c.args.space.now begun c.rows.last c.rows.counter c.next_row.new.space later row c.build_row.new.space is c.in_err-admitted.ensures.leads
    c.in_err-admitted.field-0.0 (c.in_err-admitted.ensures.full live (record x { slots = later.slots }) rule later.built later.site next later.content joinless))

-- ---- it isn't admitted
pub returns-then-not-admitted-clause-built : goal.returns-then-not-admitted-clause-built
returns-then-not-admitted-clause-built g c = λ live x site table over.
    let m = g.B.Boxes.meanings c.args.boxes.now in
    let inst = c.args.inst.now in
    let rule = c.args.rule.now in
    let root = c.args.place.root in
    let has = g.S.PageSpace.has in
    let row : Key × Row = (c.in-Some.key, c.in-Some.row) in
    let up = (c.rows.invariant.up live x site table over).up in
    let rows = subst (λ (i : Instance). HasRows m up.slots i x.one.relation.rows) (sym table) (rows_of_it has m root x inst rule live.box c.rows.last c.rows.counter c.rows.space up) in
    let is = sym (c.in_ok-key.ensures.row x.want up.slots x.one.relation.rows up.site.has rows) ∙ c.in-Some.is in
    let later = building-later has m root x inst rule live.box c.rows.last c.rows.counter c.rows.space c.next_row.new.space c.in_ok-key.ensures.looks.same up in
    let next = next_of has m root x inst rule live.box c.rows.last c.rows.counter c.next_row.new.space later row is in
    building-vetoed has m root x inst rule live.box c.rows.last c.rows.counter c.next_row.new.space later row c.build_row.new.space is
    (rw c.if-not-admitted.true at (c.in_ok-admitted.ensures.built live (record x { slots = later.slots }) rule later.built later.site next later.content))

pub returns-then-not-admitted-clause-leads : goal.returns-then-not-admitted-clause-leads
returns-then-not-admitted-clause-leads g c =
    let leads = g.S.PageSpace.leads in
    let goes = g.met.S.PageSpace.goes_on in
    leads_then leads goes c.args.space.now c.next_row.new.space c.build_row.new.space
    (leads_then leads goes c.args.space.now c.rows.space c.next_row.new.space c.rows.invariant.leads (0, c.in_ok-key.ensures.looks.leads)) c.in_ok-admitted.ensures.leads

-- ---- it is
pub rows-preserved : goal.rows-preserved
rows-preserved g c =
    let leads = g.S.PageSpace.leads in
    let goes = g.met.S.PageSpace.goes_on in
    record {
      ready = c.in_ok-admitted.ensures.ready;
      leads = leads_then leads goes c.args.space.now c.next_row.new.space c.build_row.new.space
          (leads_then leads goes c.args.space.now c.rows.space c.next_row.new.space c.rows.invariant.leads (0, c.in_ok-key.ensures.looks.leads)) c.in_ok-admitted.ensures.leads;
      up = λ live x site table over.
          let m = g.B.Boxes.meanings c.args.boxes.now in
          let inst = c.args.inst.now in
          let rule = c.args.rule.now in
          let root = c.args.place.root in
          let has = g.S.PageSpace.has in
          let row : Key × Row = (c.in-Some.key, c.in-Some.row) in
          let paid = c.rows.invariant.up live x site table over in
          let up = paid.up in
          let rows = subst (λ (i : Instance). HasRows m up.slots i x.one.relation.rows) (sym table) (rows_of_it has m root x inst rule live.box c.rows.last c.rows.counter c.rows.space up) in
          let is = sym (c.in_ok-key.ensures.row x.want up.slots x.one.relation.rows up.site.has rows) ∙ c.in-Some.is in
          let here = paid-later has leads goes m root x inst rule live.box c.rows.last c.rows.counter c.args.space.now c.rows.space paid c.next_row.new.space c.in_ok-key.ensures.looks.same c.in_ok-key.ensures.looks.leads in
          let later = here.up in
          let next = next_of has m root x inst rule live.box c.rows.last c.rows.counter c.next_row.new.space later row is in
          paid-next has leads goes m root x inst rule live.box c.rows.last c.rows.counter c.args.space.now c.next_row.new.space here row c.build_row.new.space is
          (c.in_ok-admitted.ensures.costs live (record x { slots = later.slots }) rule later.built later.site next later.content)
          (rw c.if-not-admitted.false at (c.in_ok-admitted.ensures.built live (record x { slots = later.slots }) rule later.built later.site next later.content));
    }

-- ---- more rows than there are
pub returns-clause-refused : goal.returns-clause-refused
returns-clause-refused g c = λ live x site table over short.
    absurd (building-few g.S.PageSpace.has (g.B.Boxes.meanings c.args.boxes.now) c.args.place.root x c.args.inst.now c.args.rule.now live.box c.rows.last c.rows.counter c.rows.space (c.rows.invariant.up live x site table over).up (omega arith))

pub returns-clause-leads : goal.returns-clause-leads
returns-clause-leads g c = c.rows.invariant.leads

-- ---- what it costs
pub returns-in_err-key-clause-costs : goal.returns-in_err-key-clause-costs
returns-in_err-key-clause-costs g c = λ live x site table over joinless.
    paid-looking g.S.PageSpace.has g.S.PageSpace.leads g.met.S.PageSpace.goes_on (g.B.Boxes.meanings c.args.boxes.now) c.args.place.root x c.args.inst.now c.args.rule.now live.box c.rows.last c.rows.counter c.args.space.now c.rows.space
    (c.rows.invariant.up live x site table over) c.next_row.new.space c.in_err-key.ensures.looks.leads

pub returns-in_default-clause-costs : goal.returns-in_default-clause-costs
returns-in_default-clause-costs g c = λ live x site table over joinless.
    paid-looking g.S.PageSpace.has g.S.PageSpace.leads g.met.S.PageSpace.goes_on (g.B.Boxes.meanings c.args.boxes.now) c.args.place.root x c.args.inst.now c.args.rule.now live.box c.rows.last c.rows.counter c.args.space.now c.rows.space
    (c.rows.invariant.up live x site table over) c.next_row.new.space c.in_ok-key.ensures.looks.leads

pub returns-then-is_long_for-clause-costs : goal.returns-then-is_long_for-clause-costs
returns-then-is_long_for-clause-costs g c = λ live x site table over joinless.
    paid-looking g.S.PageSpace.has g.S.PageSpace.leads g.met.S.PageSpace.goes_on (g.B.Boxes.meanings c.args.boxes.now) c.args.place.root x c.args.inst.now c.args.rule.now live.box c.rows.last c.rows.counter c.args.space.now c.rows.space
    (c.rows.invariant.up live x site table over) c.next_row.new.space c.in_ok-key.ensures.looks.leads

pub returns-in_err-admitted-clause-costs : goal.returns-in_err-admitted-clause-costs
returns-in_err-admitted-clause-costs g c = λ live x site table over joinless.
    let m = g.B.Boxes.meanings c.args.boxes.now in
    let inst = c.args.inst.now in
    let rule = c.args.rule.now in
    let root = c.args.place.root in
    let has = g.S.PageSpace.has in
    let leads = g.S.PageSpace.leads in
    let goes = g.met.S.PageSpace.goes_on in
    let looks = c.in_ok-key.ensures.looks in
    let row : Key × Row = (c.in-Some.key, c.in-Some.row) in
    let paid = c.rows.invariant.up live x site table over in
    let rows = subst (λ (i : Instance). HasRows m paid.up.slots i x.one.relation.rows) (sym table) (rows_of_it has m root x inst rule live.box c.rows.last c.rows.counter c.rows.space paid.up) in
    let is = sym (c.in_ok-key.ensures.row x.want paid.up.slots x.one.relation.rows paid.up.site.has rows) ∙ c.in-Some.is in
    let here = paid-later has leads goes m root x inst rule live.box c.rows.last c.rows.counter c.args.space.now c.rows.space paid c.next_row.new.space looks.same looks.leads in
    let next = next_of has m root x inst rule live.box c.rows.last c.rows.counter c.next_row.new.space here.up row is in
    paid-row has leads goes m root x inst rule live.box c.rows.last c.rows.counter c.args.space.now c.next_row.new.space here row c.build_row.new.space is
    (c.in_err-admitted.ensures.costs live (record x { slots = here.up.slots }) rule here.up.built here.up.site next here.up.content)

pub returns-then-not-admitted-clause-costs : goal.returns-then-not-admitted-clause-costs
returns-then-not-admitted-clause-costs g c = λ live x site table over joinless.
    let m = g.B.Boxes.meanings c.args.boxes.now in
    let inst = c.args.inst.now in
    let rule = c.args.rule.now in
    let root = c.args.place.root in
    let has = g.S.PageSpace.has in
    let leads = g.S.PageSpace.leads in
    let goes = g.met.S.PageSpace.goes_on in
    let looks = c.in_ok-key.ensures.looks in
    let row : Key × Row = (c.in-Some.key, c.in-Some.row) in
    let paid = c.rows.invariant.up live x site table over in
    let rows = subst (λ (i : Instance). HasRows m paid.up.slots i x.one.relation.rows) (sym table) (rows_of_it has m root x inst rule live.box c.rows.last c.rows.counter c.rows.space paid.up) in
    let is = sym (c.in_ok-key.ensures.row x.want paid.up.slots x.one.relation.rows paid.up.site.has rows) ∙ c.in-Some.is in
    let here = paid-later has leads goes m root x inst rule live.box c.rows.last c.rows.counter c.args.space.now c.rows.space paid c.next_row.new.space looks.same looks.leads in
    let next = next_of has m root x inst rule live.box c.rows.last c.rows.counter c.next_row.new.space here.up row is in
    paid-row has leads goes m root x inst rule live.box c.rows.last c.rows.counter c.args.space.now c.next_row.new.space here row c.build_row.new.space is
    (c.in_ok-admitted.ensures.costs live (record x { slots = here.up.slots }) rule here.up.built here.up.site next here.up.content)

pub returns-clause-costs : goal.returns-clause-costs
returns-clause-costs g c = λ live x site table over joinless.
    paid-all g.S.PageSpace.has g.S.PageSpace.leads g.met.S.PageSpace.goes_on (g.B.Boxes.meanings c.args.boxes.now) c.args.place.root x c.args.inst.now c.args.rule.now live.box c.rows.last c.rows.counter c.args.space.now c.rows.space
    (c.rows.invariant.up live x site table over)
