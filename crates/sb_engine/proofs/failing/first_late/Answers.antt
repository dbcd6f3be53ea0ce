use Rattle.std.proofs.Common.{◌<◌, Ok, Err, length, below_more, sym, ◌∙◌, arith}
use Rattle.sb_standing.proofs.CallsLemmas.{Looks-later, Looks-made, Looks-passed}
use Rattle.sb_standing.specs.Tables.{db_of}
use Rattle.sb_engine.specs.Working.{extensions_of}
use Rattle.sb_engine.proofs.FailingLemmas.{as_many, kept_name, late_found, late_none, late_passes}
use Rattle.sb_engine.proofs.PlacedLemmas.{placed_some}
use Rattle.sb_engine.proofs.failing.first_late.Goals as goal

pub loop-i-preserved : goal.loop-i-preserved
loop-i-preserved g c =
    let before = c.loop-i.invariant in
    let m = g.B.Boxes.meanings c.args.boxes.now in
    let next = c.in_ok-name.ensures in
    record {
      ready = next.ready;
      leads = g.met.S.PageSpace.goes_on 0 0 c.args.space.now c.loop-i.space c.late_at.new.space before.leads next.looks.leads;
      has = λ want s has. next.looks.same want s (before.has want s has);
      none = λ want s gone kept has keeps. below_more _ _ (before.none want s gone kept has keeps)
          (λ is a there complete. late_passes (extensions_of m) (db_of kept) c.args.one.now.name a (sym c.in_default.is ∙ next.found want s gone kept (before.has want s has) keeps is a there complete));
    }

pub returns-in_err-name-clause-looks : goal.returns-in_err-name-clause-looks
returns-in_err-name-clause-looks g c =
    Looks-passed g.S.PageSpace.has g.S.PageSpace.leads g.S.PageSpace.fails c.args.space.now c.late_at.new.space c.from_residual.result c.in_err-name.field-0.0 c.from_residual.ensures.1
    (Looks-later g.S.PageSpace.has g.S.PageSpace.leads g.S.PageSpace.fails c.args.space.now c.loop-i.space c.late_at.new.space (Err c.in_err-name.field-0.0) g.met.S.PageSpace.goes_on g.met.S.PageSpace.fails_on
    c.loop-i.invariant.leads c.loop-i.invariant.has c.in_err-name.ensures.looks)

-- the first one
pub returns-in-Some-clause-found : goal.returns-in-Some-clause-found
returns-in-Some-clause-found g c = λ want s gone kept has keeps is complete.
    let m = g.B.Boxes.meanings c.args.boxes.now in
    let one = c.args.one.now in
    let many = as_many m c.args.place.root s gone kept one is keeps in
    let below : c.loop-i.i < length is.one.relation.attachments = omega (arith, many, c.len-i-end.ensures, c.loop-i-test.true) in
    let at = placed_some is.one.relation.attachments c.loop-i.i below in
    late_found (extensions_of m) (db_of kept) is.one one.name c.loop-i.i at.0 c.in-Some.name (kept_name m kept one is) at.1
    (sym c.in-Some.is ∙ c.in_ok-name.ensures.found want s gone kept (c.loop-i.invariant.has want s has) keeps is at.0 at.1 complete)
    (λ j less b there. c.loop-i.invariant.none want s gone kept has keeps j less is b there complete)

pub returns-in-Some-clause-looks : goal.returns-in-Some-clause-looks
returns-in-Some-clause-looks g c =
    Looks-made g.S.PageSpace.has g.S.PageSpace.leads g.S.PageSpace.fails c.args.space.now c.late_at.new.space c.in_ok-name.field-0 _
    (Looks-later g.S.PageSpace.has g.S.PageSpace.leads g.S.PageSpace.fails c.args.space.now c.loop-i.space c.late_at.new.space (Ok c.in_ok-name.field-0) g.met.S.PageSpace.goes_on g.met.S.PageSpace.fails_on
    c.loop-i.invariant.leads c.loop-i.invariant.has c.in_ok-name.ensures.looks)

-- there is none
pub returns-clause-found : goal.returns-clause-found
returns-clause-found g c = λ want s gone kept has keeps is complete.
    let m = g.B.Boxes.meanings c.args.boxes.now in
    let one = c.args.one.now in
    let many = as_many m c.args.place.root s gone kept one is keeps in
    late_none (extensions_of m) (db_of kept) is.one one.name c.loop-i.i (kept_name m kept one is) (omega (arith, many, c.len-i-end.ensures, c.loop-i-test.false))
    (λ j less b there. c.loop-i.invariant.none want s gone kept has keeps j less is b there complete)
