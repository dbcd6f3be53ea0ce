use Rattle.std.proofs.Common.{ℕ, Err, get_or, sym, subst, arith}
use borrow.Author.Count.{below_more}
use Rattle.sb_rule.specs.declared.action.Action.{Action}
use Rattle.sb_standing.proofs.CallsLemmas.{Looks-later, Looks-passed}
use Rattle.sb_drive.proofs.SpacesLemmas.{IfErr-passed}
use Rattle.sb_cascade.specs.Fitting.{IsFitting}
use Rattle.sb_standing.specs.Tables.{db_of}
use Rattle.sb_engine.specs.Goings.{grows_none, grows_then, still_done}
use Rattle.sb_engine.specs.Working.{MayDo}
use Rattle.sb_engine.proofs.OpeningLemmas.{get_item}
use Rattle.sb_engine.proofs.fitting.prepare_all.Goals as goal

pub loop-action-init : goal.loop-action-init
loop-action-init g c = record {
  ready = c.requires.ready;
  leads = g.met.S.PageSpace.stays c.args.space.now;
  has = λ want s has. has;
  are_open = c.requires.are_open;
  grows = grows_none c.args.opened.now.items;
  opened = λ want s kept keeping. keeping.opened;
  may = λ k lt d. absurd (omega (arith, lt));
}

pub prepare-requires-clause-ready : goal.prepare-requires-clause-ready
prepare-requires-clause-ready g c = c.loop-action.invariant.ready

pub prepare-requires-clause-are_open : goal.prepare-requires-clause-are_open
prepare-requires-clause-are_open g c = c.loop-action.invariant.are_open

pub returns-in_err-prepare-clause-opened : goal.returns-in_err-prepare-clause-opened
returns-in_err-prepare-clause-opened g c = λ want s kept keeping.
    let before = c.loop-action.invariant in
    c.in_err-prepare.ensures.opened want s kept (record { has = before.has want s keeping.has; tables = keeping.tables; opened = before.opened want s kept keeping })

pub returns-in_err-prepare-clause-grows : goal.returns-in_err-prepare-clause-grows
returns-in_err-prepare-clause-grows g c =
    grows_then c.args.opened.now.items c.loop-action.opened.items c.prepare.new.opened.items c.loop-action.invariant.grows c.in_err-prepare.ensures.grows

pub returns-in_err-prepare-clause-undamaged : goal.returns-in_err-prepare-clause-undamaged
returns-in_err-prepare-clause-undamaged g c =
    let before = c.loop-action.invariant in
    IfErr-passed c.from_residual.result c.in_err-prepare.field-0.0 _ c.from_residual.ensures.1 (λ want s kept keeping rules fit.
    c.in_err-prepare.ensures.undamaged want s kept (record { has = before.has want s keeping.has; tables = keeping.tables; opened = before.opened want s kept keeping }) rules
    (subst (λ (a : Action). IsFitting (db_of kept) a) (sym c.action-item.is) (fit c.loop-action.action-index c.action-item.result c.loop-action-test.true)))

pub returns-in_err-prepare-clause-looks : goal.returns-in_err-prepare-clause-looks
returns-in_err-prepare-clause-looks g c =
    let before = c.loop-action.invariant in
    let fault = c.in_err-prepare.field-0.0 in
    let space = g.S.PageSpace in
    Looks-passed space.has space.leads space.fails c.args.space.now c.prepare.new.space c.from_residual.result fault c.from_residual.ensures.1
    (Looks-later space.has space.leads space.fails c.args.space.now c.loop-action.space c.prepare.new.space (Err fault) g.met.S.PageSpace.goes_on g.met.S.PageSpace.fails_on before.leads before.has c.in_err-prepare.ensures.looks)

pub loop-action-preserved : goal.loop-action-preserved
loop-action-preserved g c =
    let before = c.loop-action.invariant in
    let prepared = c.in_ok-prepare.ensures in
    let old = c.loop-action.opened.items in
    let new = c.prepare.new.opened.items in
    let actions = c.args.actions.now in
    let here : (d : Action) → MayDo new (get_or actions c.loop-action.action-index d) =
    λ d. subst (λ (a : Action). MayDo new a) (sym (get_item actions c.loop-action.action-index d c.action-item.result c.loop-action-test.true c.action-item.is)) prepared.may in
    record {
      ready = prepared.ready;
      leads = g.met.S.PageSpace.goes_on 0 0 c.args.space.now c.loop-action.space c.prepare.new.space before.leads prepared.looks.leads;
      has = λ want s has. prepared.looks.same want s (before.has want s has);
      are_open = prepared.are_open;
      grows = grows_then c.args.opened.now.items old new before.grows prepared.grows;
      opened = λ want s kept keeping. prepared.opened want s kept (record { has = before.has want s keeping.has; tables = keeping.tables; opened = before.opened want s kept keeping });
      may = below_more (λ (k : ℕ). (d : Action) → MayDo new (get_or actions k d)) c.loop-action.action-index
          (λ k lt d. still_done (get_or actions k d) old new prepared.grows (before.may k lt d)) here;
    }

pub returns-clause-may : goal.returns-clause-may
returns-clause-may g c = λ k d lt. c.loop-action.invariant.may k (omega arith) d

pub returns-clause-opened : goal.returns-clause-opened
returns-clause-opened g c = c.loop-action.invariant.opened

pub returns-clause-are_open : goal.returns-clause-are_open
returns-clause-are_open g c = c.loop-action.invariant.are_open

pub returns-clause-grows : goal.returns-clause-grows
returns-clause-grows g c = c.loop-action.invariant.grows

pub returns-clause-looks : goal.returns-clause-looks
returns-clause-looks g c = record { same = c.loop-action.invariant.has; leads = c.loop-action.invariant.leads; fault = tt; refused = tt }

pub returns-clause-ready : goal.returns-clause-ready
returns-clause-ready g c = c.loop-action.invariant.ready
