use Rattle.std.proofs.Common.{subst, sym, ap, ◌∙◌}
use Rattle.sb_ctx.specs.declared.calls.AttachCall.TheVariants as call
use Rattle.sb_ctx.specs.declared.moves.Move.{Move}
use Rattle.sb_ctx.specs.AttachAnswers.{Changes}
use Rattle.sb_foreign.specs.Limits.{limit}
use Rattle.sb_foreign.specs.Watched.{verdict_of}
use Rattle.sb_foreign.proofs.LimitLaws.{Changes-changed, Changes-deleted}
use Rattle.sb_foreign.proofs.limit.LimitAttachment.on_change.Goals as goal

pub returns-in-Some : goal.returns-in-Some
returns-in-Some c =
    subst (λ (m : Move). Changes limit c.args.inst.now (call.Changed c.args.change.now) c.args._ctx.now c.args._ctx.now m) (sym (c.verdict.ensures ∙ ap verdict_of c.is_within.ensures))
    (Changes-changed c.args.inst.now c.args.change.now c.in-Some.new.now c.args._ctx.now c.requires.clean.unchanged (sym c.in-Some.ensures))

pub returns-in-None : goal.returns-in-None
returns-in-None c = Changes-deleted c.args.inst.now c.args.change.now c.args._ctx.now c.requires.clean.unchanged (sym c.in-None.ensures)
