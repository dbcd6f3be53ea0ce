use Rattle.std.proofs.Common.{ap, sym, ◌∙◌}
use Rattle.sb_ctx.specs.declared.calls.MethodCall.TheVariants.{Get, Next}
use Rattle.sb_drive.proofs.MethodLemmas.{Changes-Looks-is}
use Rattle.sb_drive.proofs.methods.make_call.Goals as goal

pub returns-in-Get-clause-changes : goal.returns-in-Get-clause-changes
returns-in-Get-clause-changes g c =
    Changes-Looks-is ((goal.StorageMethod-dyn g c.args.boxed.now).method c.args.boxed.now.1) c.args.inst.now c.args.call.now (Get c.in-Get.key) c.args.ctx.now c.get.new.ctx c.get.result
    c.in-Get.is (λ P rows holds. holds) c.requires.clean c.get.ensures

pub returns-in-Next-clause-changes : goal.returns-in-Next-clause-changes
returns-in-Next-clause-changes g c =
    Changes-Looks-is ((goal.StorageMethod-dyn g c.args.boxed.now).method c.args.boxed.now.1) c.args.inst.now c.args.call.now (Next _) c.args.ctx.now c.next.new.ctx c.next.result
    (c.in-Next.is ∙ ap Next (sym c.as_ref.ensures.value)) (λ P rows holds. holds) c.requires.clean c.next.ensures
