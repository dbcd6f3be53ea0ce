use Rattle.std.proofs.Common.{subst}
use Rattle.sb_ctx.specs.Sized.{IsCtx}
use Rattle.sb_ctx.proofs.ctx.Ctx.is_ctx.Goals as goal

pub returns : goal.returns
returns c = subst IsCtx c.self.view_is (record { sound = c.self.invariant.0; sized = c.self.invariant.1 })
