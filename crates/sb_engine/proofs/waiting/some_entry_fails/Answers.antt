use Rattle.std.proofs.Common.{true, true≢false, Ok, Err, below_more, arith}
use Rattle.sb_drive.proofs.SpacesLemmas.{IfErr-passed}
use Rattle.sb_standing.proofs.CallsLemmas.{Looks-later, Looks-made, Looks-passed}
use Rattle.sb_standing.specs.Tables.{db_of}
use Rattle.sb_engine.specs.Failing.{FailsNowhere}
use Rattle.sb_engine.proofs.PlacedLemmas.{all_placed}
use Rattle.sb_engine.proofs.waiting.some_entry_fails.Goals as goal

pub loop-i-init : goal.loop-i-init
loop-i-init g c = record {
  ready = c.requires.ready;
  leads = g.met.S.PageSpace.stays c.args.space.now;
  has = λ want s has. has;
  none = λ want s gone kept has keeps j less. absurd (omega (arith, less));
}

pub loop-i-preserved : goal.loop-i-preserved
loop-i-preserved g c =
    let before = c.loop-i.invariant in
    let next = c.in_ok-waiting_fails.ensures in
    record {
      ready = next.ready;
      leads = g.met.S.PageSpace.goes_on 0 0 c.args.space.now c.loop-i.space c.waiting_fails.new.space before.leads next.looks.leads;
      has = λ want s has. next.looks.same want s (before.has want s has);
      none = λ want s gone kept has keeps. below_more _ _ (before.none want s gone kept has keeps)
          (next.none want s gone kept (before.has want s has) keeps c.if-branch.false);
    }

pub returns-in_err-waiting_fails-clause-undamaged : goal.returns-in_err-waiting_fails-clause-undamaged
returns-in_err-waiting_fails-clause-undamaged g c =
    IfErr-passed c.from_residual.result c.in_err-waiting_fails.field-0.0 _ c.from_residual.ensures.1
    (λ want s gone kept has keeps. c.in_err-waiting_fails.ensures.undamaged want s gone kept (c.loop-i.invariant.has want s has) keeps)

pub returns-in_err-waiting_fails-clause-looks : goal.returns-in_err-waiting_fails-clause-looks
returns-in_err-waiting_fails-clause-looks g c =
    Looks-passed g.S.PageSpace.has g.S.PageSpace.leads g.S.PageSpace.fails c.args.space.now c.waiting_fails.new.space c.from_residual.result c.in_err-waiting_fails.field-0.0 c.from_residual.ensures.1
    (Looks-later g.S.PageSpace.has g.S.PageSpace.leads g.S.PageSpace.fails c.args.space.now c.loop-i.space c.waiting_fails.new.space (Err c.in_err-waiting_fails.field-0.0) g.met.S.PageSpace.goes_on g.met.S.PageSpace.fails_on
    c.loop-i.invariant.leads c.loop-i.invariant.has c.in_err-waiting_fails.ensures.looks)

-- one fails
pub returns-then-branch-clause-none : goal.returns-then-branch-clause-none
returns-then-branch-clause-none g c = λ want s gone kept has keeps passes. absurd (true≢false passes)

pub returns-then-branch-clause-looks : goal.returns-then-branch-clause-looks
returns-then-branch-clause-looks g c =
    Looks-made g.S.PageSpace.has g.S.PageSpace.leads g.S.PageSpace.fails c.args.space.now c.waiting_fails.new.space c.in_ok-waiting_fails.field-0 true
    (Looks-later g.S.PageSpace.has g.S.PageSpace.leads g.S.PageSpace.fails c.args.space.now c.loop-i.space c.waiting_fails.new.space (Ok c.in_ok-waiting_fails.field-0) g.met.S.PageSpace.goes_on g.met.S.PageSpace.fails_on
    c.loop-i.invariant.leads c.loop-i.invariant.has c.in_ok-waiting_fails.ensures.looks)

-- none fails
pub returns-clause-none : goal.returns-clause-none
returns-clause-none g c = λ want s gone kept has keeps passes.
    all_placed (λ e. FailsNowhere (db_of kept) e) c.args.queue.now.entries c.loop-i.i (omega (arith, c.checks-i-end.ensures, c.loop-i-test.false))
    (λ j less e there. c.loop-i.invariant.none want s gone kept has keeps j less e there)

pub returns-clause-looks : goal.returns-clause-looks
returns-clause-looks g c = record { same = c.loop-i.invariant.has; leads = c.loop-i.invariant.leads; fault = tt; refused = tt }
