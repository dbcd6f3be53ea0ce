use Rattle.std.proofs.Common.{◌≡◌, length}
use Rattle.sb_forms.specs.Read.{is_apart}
use Rattle.sb_method_tests.proofs.checker.is_apart.Given as goal

abbrev pub invariant-loop-page : goal.invariant-loop-page
invariant-loop-page l = is_apart l.rest ≡ is_apart l.pages

abbrev pub decreases-loop-page : goal.decreases-loop-page
decreases-loop-page l = length l.rest
