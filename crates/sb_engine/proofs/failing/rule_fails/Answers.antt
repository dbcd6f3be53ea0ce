use Rattle.std.proofs.Common.{◌<◌, Bool, true, Ok, Err, length, below_more, subst, arith}
use Rattle.sb_standing.proofs.CallsLemmas.{Looks-later, Looks-made, Looks-passed}
use Rattle.sb_standing.specs.Tables.{db_of}
use Rattle.sb_engine.specs.Failing.{TellsOwn}
use Rattle.sb_engine.specs.Working.{extensions_of}
use Rattle.sb_engine.proofs.FailingLemmas.{fails_by, passes_all}
use Rattle.sb_engine.proofs.failing.rule_fails.Goals as goal

pub loop-j-preserved : goal.loop-j-preserved
loop-j-preserved g c =
    let before = c.loop-j.invariant in
    let next = c.in_ok-own_fails.ensures in
    record {
      ready = next.ready;
      leads = g.met.S.PageSpace.goes_on 0 0 c.args.space.now c.loop-j.space c.own_fails.new.space before.leads next.looks.leads;
      has = λ want s has. next.looks.same want s (before.has want s has);
      none = λ want s gone kept has keeps. below_more _ _ (before.none want s gone kept has keeps)
          (λ is a there e waits. subst (λ (fails : Bool). TellsOwn (db_of kept) c.args.one.now.name a e fails) c.if-branch.false (next.tells want s gone kept (before.has want s has) keeps is a there e waits));
    }

pub returns-in_err-own_fails-clause-looks : goal.returns-in_err-own_fails-clause-looks
returns-in_err-own_fails-clause-looks g c =
    Looks-passed g.S.PageSpace.has g.S.PageSpace.leads g.S.PageSpace.fails c.args.space.now c.own_fails.new.space c.from_residual.result c.in_err-own_fails.field-0.0 c.from_residual.ensures.1
    (Looks-later g.S.PageSpace.has g.S.PageSpace.leads g.S.PageSpace.fails c.args.space.now c.loop-j.space c.own_fails.new.space (Err c.in_err-own_fails.field-0.0) g.met.S.PageSpace.goes_on g.met.S.PageSpace.fails_on
    c.loop-j.invariant.leads c.loop-j.invariant.has c.in_err-own_fails.ensures.looks)

-- one fails
pub returns-then-branch-clause-fails : goal.returns-then-branch-clause-fails
returns-then-branch-clause-fails g c = λ want s gone kept has keeps is a there complete late.
    let many : c.loop-j.j < length c.args.queue.now.entries = omega (arith, c.checks-j-end.ensures, c.loop-j-test.true) in
    fails_by (extensions_of (g.B.Boxes.meanings c.args.boxes.now)) (db_of kept) c.args.one.now.name a c.args.queue.now c.loop-j.j many late
    (λ e waits. subst (λ (fails : Bool). TellsOwn (db_of kept) c.args.one.now.name a e fails) c.if-branch.true
    (c.in_ok-own_fails.ensures.tells want s gone kept (c.loop-j.invariant.has want s has) keeps is a there e waits))

pub returns-then-branch-clause-looks : goal.returns-then-branch-clause-looks
returns-then-branch-clause-looks g c =
    Looks-made g.S.PageSpace.has g.S.PageSpace.leads g.S.PageSpace.fails c.args.space.now c.own_fails.new.space c.in_ok-own_fails.field-0 true
    (Looks-later g.S.PageSpace.has g.S.PageSpace.leads g.S.PageSpace.fails c.args.space.now c.loop-j.space c.own_fails.new.space (Ok c.in_ok-own_fails.field-0) g.met.S.PageSpace.goes_on g.met.S.PageSpace.fails_on
    c.loop-j.invariant.leads c.loop-j.invariant.has c.in_ok-own_fails.ensures.looks)

-- none fails
pub returns-clause-fails : goal.returns-clause-fails
returns-clause-fails g c = λ want s gone kept has keeps is a there complete late.
    passes_all (g.B.Boxes.meanings c.args.boxes.now) kept c.args.one.now is (extensions_of (g.B.Boxes.meanings c.args.boxes.now)) c.args.queue.now c.args.i c.loop-j.j a complete there late
    (omega (arith, c.checks-j-end.ensures, c.loop-j-test.false)) (λ j less e waits. c.loop-j.invariant.none want s gone kept has keeps j less is a there e waits)
