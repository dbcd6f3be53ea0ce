use Rattle.std.proofs.Common.{sym, subst}
use Rattle.sb_ctx.specs.View.{IsClean}
use Rattle.sb_ctx.proofs.DrivingLaws.{IsClean-nothing}
use Rattle.sb_method_tests.proofs.requests.asks_of_insert.Goals as goal

pub loop-turn-init : goal.loop-turn-init
loop-turn-init g c = subst IsClean (sym c.new-ctx.ensures) IsClean-nothing
