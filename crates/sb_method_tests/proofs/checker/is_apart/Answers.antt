use Rattle.std.proofs.Common.{sym, ◌∙◌}
use Rattle.sb_method_tests.proofs.Checking.{apart_later, apart_twice}
use Rattle.sb_method_tests.proofs.checker.is_apart.Goals as goal

pub returns-then-contains : goal.returns-then-contains
returns-then-contains c =
    apart_twice c.in-Some.page.now c.in-Some.others.now c.loop-page.rest.now c.args.pages.now c.in-Some.ensures.cases.0 c.loop-page.invariant (sym c.contains.ensures.value ∙ c.if-contains.true)

pub loop-page-preserved : goal.loop-page-preserved
loop-page-preserved c =
    apart_later c.in-Some.page.now c.in-Some.others.now c.loop-page.rest.now c.args.pages.now c.in-Some.ensures.cases.0 c.loop-page.invariant (sym c.contains.ensures.value ∙ c.if-contains.false)
