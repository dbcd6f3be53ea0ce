use Rattle.std.proofs.Common.{List, ℤ, subst, sym}
use Rattle.sb_ctx.specs.declared.calls.AttachCall.TheVariants as call
use Rattle.sb_ctx.specs.declared.moves.Move.TheVariants as move
use Rattle.sb_ctx.specs.AttachAnswers.{Looks}
use Rattle.sb_foreign.specs.Counts.{count}
use Rattle.sb_foreign.proofs.CountLaws.{Looks-sums, Looks-sums_broken}
use Rattle.sb_foreign.proofs.count.CountAttachment.sums.Goals as goal

pub returns-in_default-count_in : goal.returns-in_default-count_in
returns-in_default-count_in c = Looks-sums_broken c.args.inst.now c.args.ctx.now c.in-Some.page.now c.requires.clean.unchanged (sym c.in-Some.ensures) (sym c.in_default-count_in.ensures)

pub returns-in-Ok : goal.returns-in-Ok
returns-in-Ok c =
    subst (λ (l : List ℤ). Looks count c.args.inst.now call.Sums c.args.ctx.now c.args.ctx.now (move.Sums l)) (sym c.in-Ok.ensures)
    (Looks-sums c.args.inst.now c.args.ctx.now c.in-Some.page.now c.in-Some-count_in.rows c.requires.clean.unchanged (sym c.in-Some.ensures) (sym c.in-Some-count_in.ensures))
