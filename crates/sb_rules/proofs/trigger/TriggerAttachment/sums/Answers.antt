use Rattle.std.proofs.Common.{sym, ◌∙◌, subst}
use Rattle.sb_ctx.specs.declared.calls.AttachCall.TheVariants.{Sums}
use Rattle.sb_ctx.specs.declared.moves.Move.TheVariants.{Sums as Summed}
use Rattle.sb_ctx.specs.AttachAnswers.{Looks}
use Rattle.sb_rules.specs.Triggers.{trigger}
use Rattle.sb_rules.proofs.Meaning.{Looks-sums}
use Rattle.sb_rules.proofs.trigger.TriggerAttachment.sums.Goals as goal

pub returns : goal.returns
returns c =
    subst (λ sums. Looks trigger c.args._inst.now Sums c.args._ctx.now c.args._ctx.now (Summed sums)) (sym (c.from_vec.ensures ∙ c.new.ensures.items))
    (Looks-sums 7 c.args._inst.now c.args._ctx.now)
