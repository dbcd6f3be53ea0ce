use Rattle.std.proofs.Common.{refl}
use Rattle.sb_ctx.proofs.BoundLaws.{Looks-no_hits}
use Rattle.sb_rules.specs.Checks.{check}
use Rattle.sb_rules.proofs.check.CheckAttachment.seek.Goals as goal

pub returns : goal.returns
returns c = Looks-no_hits check c.args._inst.now c.args._query.now c.args._ctx.now _ (λ content. refl) c.new.ensures
