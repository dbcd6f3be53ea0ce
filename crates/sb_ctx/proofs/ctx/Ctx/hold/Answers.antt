use Rattle.std.proofs.Common.{sym, subst}
use Rattle.sb_ctx.specs.Sound.{AreSound}
use Rattle.sb_ctx.proofs.SoundLaws.{AreSound-put}
use Rattle.sb_ctx.specs.Sized.{AreSized}
use Rattle.sb_ctx.proofs.SizedLemmas.{AreSized-put}
use Rattle.sb_ctx.proofs.ctx.Ctx.hold.Goals as goal

pub invariant_of-self-2 : goal.invariant_of-self-2
invariant_of-self-2 c = (
  subst AreSound (sym c.in_ok-put.ensures.ok) (AreSound-put c.self.inside.held.items c.args.page.0 c.args.page.1 c.requires.may c.self.invariant.0),
  subst AreSized (sym c.in_ok-put.ensures.ok) (AreSized-put c.self.inside.held.items c.args.page.0 c.args.page.1 c.requires.sized c.self.invariant.1),
)

pub invariant_of-self : goal.invariant_of-self
invariant_of-self c = (subst AreSound (sym c.in_err-put.ensures.err) c.self.invariant.0, subst AreSized (sym c.in_err-put.ensures.err) c.self.invariant.1)
