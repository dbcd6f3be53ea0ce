use Rattle.std.proofs.Common.{sym, subst}
use Rattle.sb_ctx.specs.declared.instance.Instance.{Instance}
use Rattle.sb_drive.specs.declared.space.SpaceFault.TheVariants.{NoMemory}
use Rattle.sb_drive.proofs.SpacesLemmas.{IfErr-passed}
use Rattle.sb_registry.specs.Live.{IsLiveRule}
use Rattle.sb_rows.proofs.CallsLemmas.{Looks-made, Looks-no_memory, Looks-passed}
use Rattle.sb_building.proofs.instances.test_entry.Goals as goal

pub returns-in_err-check_rule-clause-undamaged : goal.returns-in_err-check_rule-clause-undamaged
returns-in_err-check_rule-clause-undamaged g c = IfErr-passed c.from_residual.result c.in_err-check_rule.field-0.0 _ c.from_residual.ensures.1 c.in_err-check_rule.ensures.undamaged

pub returns-in_err-check_rule-clause-looks : goal.returns-in_err-check_rule-clause-looks
returns-in_err-check_rule-clause-looks g c =
    Looks-passed g.S.PageSpace.has g.S.PageSpace.leads g.S.PageSpace.fails c.args.space.now c.check_rule.new.space c.from_residual.result c.in_err-check_rule.field-0.0 c.from_residual.ensures.1 c.in_err-check_rule.ensures.looks

pub returns-in_err-inst-clause-undamaged : goal.returns-in_err-inst-clause-undamaged
returns-in_err-inst-clause-undamaged g c = IfErr-passed c.from_residual-in_err-inst.result NoMemory _ c.from_residual-in_err-inst.ensures.1 (λ want s kept has tables a stands. tt)

pub returns-in_err-inst-clause-looks : goal.returns-in_err-inst-clause-looks
returns-in_err-inst-clause-looks g c =
    Looks-no_memory {T = Instance} g.S.PageSpace.has g.S.PageSpace.leads g.S.PageSpace.fails c.args.space.now c.check_rule.new.space c.from_residual-in_err-inst.result c.from_residual-in_err-inst.ensures.1
    c.in_ok-check_rule.ensures.looks.leads c.in_ok-check_rule.ensures.looks.same

pub returns-clause-live : goal.returns-clause-live
returns-clause-live g c = subst (λ (i : Instance). IsLiveRule (g.B.Boxes.meanings c.args.boxes.now) i) (sym c.in_ok-inst.ensures) c.in_ok-check_rule.ensures.live

pub returns-clause-looks : goal.returns-clause-looks
returns-clause-looks g c = Looks-made g.S.PageSpace.has g.S.PageSpace.leads g.S.PageSpace.fails c.args.space.now c.check_rule.new.space _ _ c.in_ok-check_rule.ensures.looks
