use Rattle.std.proofs.Common.{◌≡◌, ◌++◌, map, take, drop}
use Rattle.sb_ctx.specs.View.{as_given}
use Rattle.sb_ctx.proofs.ctx.drop_all_edits.Given as goal

abbrev pub invariant-loop-page : goal.invariant-loop-page
invariant-loop-page l = l.held ≡ map (λ e. (e.0, as_given e.1)) (take l.page-index l.fn.held) ++ drop l.page-index l.fn.held
