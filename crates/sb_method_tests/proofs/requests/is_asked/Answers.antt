use Rattle.std.proofs.Common.{sym, subst}
use Rattle.sb_ctx.specs.View.{IsClean, dropped}
use Rattle.sb_drive.proofs.AsksLemmas.{IsClean-IsGift}
use Rattle.sb_method_tests.proofs.requests.is_asked.Goals as goal

pub returns : goal.returns
returns g c = λ asked.
    IsClean-IsGift (dropped c.insert-made.new.ctx) c.answer.new.ctx c.in-Give.ask (rw c.expect.ensures at c.answer.ensures.gift) (subst IsClean (sym c.insert-made.ensures.given) c.requires.clean)
