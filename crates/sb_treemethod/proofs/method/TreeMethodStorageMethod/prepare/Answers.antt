use Rattle.std.proofs.Common.{sym, subst, ◌∙◌}
use Rattle.sb_ctx.specs.declared.calls.MethodCall.TheVariants.{Prepare}
use Rattle.sb_ctx.specs.MethodAnswers.{Changes}
use Rattle.sb_treemethod.specs.TreeMethod.{tree_method}
use Rattle.sb_treemethod.proofs.PutLaws.{Changes-prepared}
use Rattle.sb_treemethod.proofs.method.TreeMethodStorageMethod.prepare.Goals as goal

pub returns : goal.returns
returns c =
    let made = c.prepare.ensures in
    let clean = c.requires.clean.unchanged in
    subst (Changes tree_method c.args.inst.now Prepare c.args.ctx.now c.prepare.new.ctx) (sym c.prepared.ensures)
    (Changes-prepared c.args.inst.now c.args.ctx.now c.prepare.new.ctx c.prepare.result clean (made.given ∙ clean) made.asks made.broken made.prepares made.edits)
