use Rattle.std.proofs.Common.{refl}
use Rattle.sb_ctx.proofs.BoundLaws.{Looks-no_hits}
use Rattle.sb_foreign.specs.Limits.{limit}
use Rattle.sb_foreign.proofs.limit.LimitAttachment.seek.Goals as goal

pub returns : goal.returns
returns c = Looks-no_hits limit c.args._inst.now c.args._query.now c.args._ctx.now _ (λ content. refl) c.new.ensures
