use Rattle.std.proofs.Common.{subst, sym, ap, ◌∙◌}
use Rattle.sb_ctx.specs.declared.calls.AttachCall.TheVariants as call
use Rattle.sb_ctx.specs.declared.moves.Move.{Move}
use Rattle.sb_ctx.specs.AttachAnswers.{Changes}
use Rattle.sb_foreign.specs.Limits.{limit}
use Rattle.sb_foreign.specs.Watched.{verdict_of}
use Rattle.sb_foreign.proofs.LimitLaws.{Changes-built}
use Rattle.sb_foreign.proofs.limit.LimitAttachment.on_build.Goals as goal

pub returns : goal.returns
returns c =
    subst (λ (m : Move). Changes limit c.args.inst.now (call.Build c.args._key.now c.args.tuple.now) c.args._ctx.now c.args._ctx.now m) (sym (c.verdict.ensures ∙ ap verdict_of c.is_within.ensures))
    (Changes-built c.args.inst.now c.args._key.now c.args.tuple.now c.args._ctx.now c.requires.clean.unchanged)
