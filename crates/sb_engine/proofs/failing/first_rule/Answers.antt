use Rattle.std.proofs.Common.{◌≡◌, Option, Some, Ok, Err, sym, ap, ◌∙◌, subst, arith}
use Rattle.sb_relation.specs.Db.{Name}
use Rattle.sb_standing.proofs.CallsLemmas.{Looks-later, Looks-made, Looks-passed}
use Rattle.sb_engine.specs.Working.{extensions_of}
use Rattle.sb_engine.proofs.WalkLemmas.{kept_few, next_of, walked-end, walked-found, walked-next, walked-none, walked-over}
use Rattle.sb_engine.proofs.failing.first_rule.Goals as goal

pub relations-init : goal.relations-init
relations-init g c = record {
  ready = c.requires.ready;
  leads = g.met.S.PageSpace.stays c.args.space.now;
  has = λ want s has. has;
  walked = λ want s gone kept has keeps complete. walked-none (extensions_of (g.B.Boxes.meanings c.args.boxes.now)) kept;
}

-- no rule of this relation fails
pub relations-preserved : goal.relations-preserved
relations-preserved g c =
    let before = c.relations.invariant in
    let next = c.in_ok-relation.ensures in
    let ext = extensions_of (g.B.Boxes.meanings c.args.boxes.now) in
    record {
      ready = next.ready;
      leads = g.met.S.PageSpace.goes_on 0 0 c.args.space.now c.relations.space c.next_failing.new.space before.leads next.looks.leads;
      has = λ want s has. next.looks.same want s (before.has want s has);
      walked = λ want s gone kept has keeps complete.
          let found = subst (λ (low : Option Name). c.in_ok-relation.field-0 ≡ next_of ext kept low) c.as_ref.ensures.value (next.found want s gone kept (before.has want s has) keeps complete) in
          walked-next ext kept c.relations.last c.relations.counter c.in-Some.relation keeps.tables.rising (before.walked want s gone kept has keeps complete)
          (ap (λ (o : Option Name). Some (c.in-Some.relation, o)) (sym c.in_default-failing.is) ∙ sym c.in-Some.is ∙ found);
    }

pub returns-in_err-relation-clause-looks : goal.returns-in_err-relation-clause-looks
returns-in_err-relation-clause-looks g c =
    Looks-passed g.S.PageSpace.has g.S.PageSpace.leads g.S.PageSpace.fails c.args.space.now c.next_failing.new.space c.from_residual.result c.in_err-relation.field-0.0 c.from_residual.ensures.1
    (Looks-later g.S.PageSpace.has g.S.PageSpace.leads g.S.PageSpace.fails c.args.space.now c.relations.space c.next_failing.new.space (Err c.in_err-relation.field-0.0) g.met.S.PageSpace.goes_on g.met.S.PageSpace.fails_on
    c.relations.invariant.leads c.relations.invariant.has c.in_err-relation.ensures.looks)

-- there are no more relations
pub returns-in_default-clause-found : goal.returns-in_default-clause-found
returns-in_default-clause-found g c = λ want s gone kept has keeps complete.
    let before = c.relations.invariant in
    let ext = extensions_of (g.B.Boxes.meanings c.args.boxes.now) in
    let found = subst (λ (low : Option Name). c.in_ok-relation.field-0 ≡ next_of ext kept low) c.as_ref.ensures.value (c.in_ok-relation.ensures.found want s gone kept (before.has want s has) keeps complete) in
    walked-end ext kept c.relations.last c.relations.counter (before.walked want s gone kept has keeps complete) (sym c.in_default.is ∙ found)

pub returns-in_default-clause-looks : goal.returns-in_default-clause-looks
returns-in_default-clause-looks g c =
    Looks-made g.S.PageSpace.has g.S.PageSpace.leads g.S.PageSpace.fails c.args.space.now c.next_failing.new.space c.in_ok-relation.field-0 _
    (Looks-later g.S.PageSpace.has g.S.PageSpace.leads g.S.PageSpace.fails c.args.space.now c.relations.space c.next_failing.new.space (Ok c.in_ok-relation.field-0) g.met.S.PageSpace.goes_on g.met.S.PageSpace.fails_on
    c.relations.invariant.leads c.relations.invariant.has c.in_ok-relation.ensures.looks)

-- the first rule that fails
pub returns-in-Some-failing-clause-found : goal.returns-in-Some-failing-clause-found
returns-in-Some-failing-clause-found g c = λ want s gone kept has keeps complete.
    let before = c.relations.invariant in
    let ext = extensions_of (g.B.Boxes.meanings c.args.boxes.now) in
    let found = subst (λ (low : Option Name). c.in_ok-relation.field-0 ≡ next_of ext kept low) c.as_ref.ensures.value (c.in_ok-relation.ensures.found want s gone kept (before.has want s has) keeps complete) in
    walked-found ext kept c.relations.last c.relations.counter c.in-Some.relation c.in-Some-failing.name keeps.tables.rising (before.walked want s gone kept has keeps complete)
    (ap (λ (o : Option Name). Some (c.in-Some.relation, o)) (sym c.in-Some-failing.is) ∙ sym c.in-Some.is ∙ found)

pub returns-in-Some-failing-clause-looks : goal.returns-in-Some-failing-clause-looks
returns-in-Some-failing-clause-looks g c =
    Looks-made g.S.PageSpace.has g.S.PageSpace.leads g.S.PageSpace.fails c.args.space.now c.next_failing.new.space c.in_ok-relation.field-0 _
    (Looks-later g.S.PageSpace.has g.S.PageSpace.leads g.S.PageSpace.fails c.args.space.now c.relations.space c.next_failing.new.space (Ok c.in_ok-relation.field-0) g.met.S.PageSpace.goes_on g.met.S.PageSpace.fails_on
    c.relations.invariant.leads c.relations.invariant.has c.in_ok-relation.ensures.looks)

-- more relations than there are
pub returns-clause-undamaged : goal.returns-clause-undamaged
returns-clause-undamaged g c = λ want s gone kept has keeps complete.
    let m = g.B.Boxes.meanings c.args.boxes.now in
    walked-over (extensions_of m) kept c.relations.last c.relations.counter (c.relations.invariant.walked want s gone kept has keeps complete) (omega (arith, c.relations-test.false))
    (kept_few m c.args.place.root s kept keeps.tables (g.met.S.PageSpace.few want s c.args.space.now has))
